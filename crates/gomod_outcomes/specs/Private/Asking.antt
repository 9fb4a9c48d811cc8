-- The results of one ask.
use Rattle.std.specs.Prelude.{◌≡◌, ◌⊎◌, ◌++◌, ◌∷◌, [], Result, Ok, Err}
use Rattle.gm_store_parts.specs.Asked.{Name, Reply}
use Rattle.gm_store_parts.specs.States.{StoreState}
use Rattle.gomod_texts.specs.declared.reports.report.Report.{Report}
use Rattle.gomod_texts.specs.Reports.{device_line}
use Rattle.gomod_texts.specs.Outcome.{Outcome, failure_outcome, out_of_memory, report_outcome}

-- the file is answered, with this reply
abbrev pub IsAnsweredAsk : Name → StoreState → StoreState → Reply → Type 0
IsAnsweredAsk name old new reply =
    (new.asked ≡ old.asked ++ (name, reply) ∷ []) × (new.refused ≡ old.refused)

-- the device failed at the file, and this is reported
abbrev pub IsRefusedAt : Name → StoreState → StoreState → Outcome → Type 0
IsRefusedAt name old new outcome =
    (outcome ≡ failure_outcome (device_line name))
    × (new.asked ≡ old.asked)
    × (new.refused ≡ old.refused ++ name ∷ [])

-- memory ran out before the file was answered, which is reported; the device did not fail
abbrev pub IsUnanswered : StoreState → StoreState → Outcome → Type 0
IsUnanswered old new outcome = (outcome ≡ out_of_memory) × (new.asked ≡ old.asked) × (new.refused ≡ old.refused)

-- the file is asked for: the store answers, or its device fails, or memory runs out
abbrev pub IsAsked : Name → StoreState → StoreState → Result (Unit {0}) Report → Type 0
IsAsked name old new (Ok u) = (reply : Reply) × IsAnsweredAsk name old new reply
IsAsked name old new (Err told) =
    IsRefusedAt name old new (report_outcome told) ⊎ IsUnanswered old new (report_outcome told)
