-- What holds of the outcome of a run holds of its writing.
use Rattle.std.proofs.Common.{◌≡◌, ◌∙◌, ℕ, List, Option, arith, inl, inr, sym}
use Rattle.gm_store_parts.specs.Asked.{Name, Reply}
use Rattle.gm_store_parts.specs.States.{StoreState}
use Rattle.gm_store_parts.specs.Taken.{SinkState}
use Rattle.gomod_texts.specs.Outcome.{Outcome}
use Rattle.gomod_outcomes.specs.Runs.{HoldsAtAnyEnd}
use Rattle.gomod_run.specs.Written.{IsWritten}
use Rattle.gomod_run.proofs.WrittenTexts.{written_as}
use Rattle.gomod_words.specs.declared.usage.Command.{Command}

-- an outcome that was written with the status of a done run has that status
pub written_done : (outcome : Outcome) (out out' report report' : SinkState) (status : ℕ)
    → IsWritten outcome out out' report report' status → status ≡ 0 → outcome.status ≡ 0
written_done outcome out out' report report' status (inl whole) done = sym whole.1 ∙ done
written_done outcome out out' report report' status (inr part) done = absurd (omega (arith, part.1, done))

-- what holds of an outcome holds of its writing
pub held_written : (command : Command) (main : List ℕ) (sums : Option (List ℕ))
    (before after : Name → Option Reply → Type 0) (old new : StoreState) (outcome : Outcome)
    (out out' report report' : SinkState) (status : ℕ)
    → IsWritten outcome out out' report report' status → HoldsAtAnyEnd command main sums before after old new outcome.status (λ reported. outcome ≡ reported)
    → HoldsAtAnyEnd command main sums before after old new status (λ reported. IsWritten reported out out' report report' status)
held_written command main sums before after old new outcome out out' report report' status written holds = record {
  in_turn = holds.in_turn;
  all_answered = λ done. holds.all_answered (written_done _ _ _ _ _ _ written done);
  fails = holds.fails;
  served = holds.served;
  device = λ name refused. written_as _ _ _ _ _ _ _ (holds.device name refused) written;
  no_list = λ path all other is refusal. written_as _ _ _ _ _ _ _ (holds.no_list path all other is refusal) written;
}
