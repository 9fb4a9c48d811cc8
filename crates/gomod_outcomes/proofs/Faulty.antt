-- Where there are faults, the outcome is their report.
use Rattle.std.proofs.Common.{List, [], ◌∷◌, ◌≡◌, length, false, refl}
use Rattle.std.specs.Bool.{◌==◌}
use Rattle.gm_graph.specs.declared.fault.Fault.{Fault}
use Rattle.gomod_outcomes.specs.Private.Found.{ReportsFaultsOr}
use Rattle.gomod_texts.specs.Outcome.{refusal_outcome}
use Rattle.gomod_texts.specs.Reports.{faults_text}

pub faults_told : (faults : List Fault) → (prints : Type 0) → (length faults == 0) ≡ false
    → ReportsFaultsOr faults prints (refusal_outcome (faults_text faults))
faults_told [] prints some = let e = some in cc e
faults_told (first ∷ others) prints some = refl
