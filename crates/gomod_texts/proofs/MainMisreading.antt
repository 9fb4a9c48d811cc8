-- What is reported of an invalid main module's file.
use Rattle.std.proofs.Common.{◌≡◌, ℕ, List, inl, inr, refl}
use Rattle.gm_file.specs.Directives.{Strict}
use Rattle.gm_file.specs.Misreading.{IsBytesFault, IsMisread}
use Rattle.gm_file.specs.declared.misreading.BytesFault.{BytesFault}
use Rattle.gm_file.specs.declared.misreading.BytesFault.TheVariants as bytes
use Rattle.gomod_texts.specs.FromFaults.{report_by_bytes}
use Rattle.gomod_texts.specs.Outcome.{OrNoMemory, Outcome, refusal_outcome, report_outcome}
use Rattle.gomod_texts.specs.Reports.{FaultPlace, main_line}

-- the first fault of the main module's file is reported
abbrev pub IsMalformed : List ℕ → Outcome → Type 0
IsMalformed content outcome = (place : FaultPlace) × IsMisread Strict content place.0 place.1 × (outcome ≡ refusal_outcome (main_line place))

pub main_refused : (content : List ℕ) (fault : BytesFault) → IsBytesFault Strict content fault
    → OrNoMemory (IsMalformed content) (report_outcome (report_by_bytes fault))
main_refused content bytes.NoMemory is = inr refl
main_refused content (bytes.Misread number kind) is = inl ((number, kind), is, refl)
