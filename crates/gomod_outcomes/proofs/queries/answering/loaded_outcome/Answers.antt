use Rattle.std.proofs.Common.{List, length, false, inl, sym, subst, ◌∙◌, ◌≡◌}
use Rattle.std.specs.Bool.{◌==◌}
use Rattle.gm_graph.specs.declared.fault.Fault.{Fault}
use Rattle.gomod_outcomes.specs.Private.Found.{IsOutcomeOfFound, PrintsFound}
use Rattle.gomod_texts.specs.Outcome.{refusal_outcome}
use Rattle.gomod_texts.specs.Reports.{faults_text}
use Rattle.gomod_outcomes.proofs.Faulty.{faults_told}
use Rattle.gomod_outcomes.proofs.queries.answering.loaded_outcome.Goals as goal

pub returns : goal.returns
returns c =
    let main = c.args.main.now in
    let found = c.in_ok-loaded.loaded in
    let outcome = refusal_outcome (faults_text c.into_faults.result.items) in
    rw c.in_ok-loaded.was
    (inl (subst (λ (faults : List Fault). IsOutcomeOfFound c.args.query main found (refusal_outcome (faults_text faults))) (sym c.into_faults.ensures)
    (faults_told found.faults (PrintsFound c.args.query main found (refusal_outcome (faults_text found.faults)))
    (subst (λ (faults : List Fault). (length faults == 0) ≡ false) c.faults.ensures (sym c.is_empty.ensures ∙ c.if-is_empty.false)))))
