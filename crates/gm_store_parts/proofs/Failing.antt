-- A request that a store passes on to the store inside.
use Rattle.std.proofs.Common.{◌≡◌, ◌∙◌, ◌≤◌, ◌++◌, ℕ, List, Some, None, Result, ap, append-nil, sym}
use Rattle.gm_store_parts.specs.declared.files.AskFault.{AskFault}
use Rattle.gm_store_parts.specs.declared.files.failing.FailingFiles.{FailingFiles}
use Rattle.gm_store_parts.specs.Asked.{Name}
use Rattle.gm_store_parts.specs.Failing.{asks_left, failing_files_state, failures_with, inside_of, may_give_or_fail, refusals_of}
use Rattle.gm_store_parts.specs.Memory.{may_give, memory_files_state}
use Rattle.gm_store_parts.specs.Requests.{IsRequest}
use Rattle.gm_store_parts.specs.States.{MayLess}

module _ (old new : FailingFiles) (still : refusals_of new ≡ refusals_of old)
    (left : (n : ℕ) → asks_left new ≡ Some n → (m : ℕ) × (asks_left old ≡ Some m))
    (later : failures_with (asks_left old) ≤ failures_with (asks_left new)) where
  less : MayLess (may_give (inside_of new)) (may_give (inside_of old)) → MayLess (may_give_or_fail new) (may_give_or_fail old)
  less inner name (Some reply) may = inner name (Some reply) may
  less inner name None (n, is) = left n is

  -- The device of the store inside never fails.
  pub passed_on : (name : Name) (result : Result (Unit {0}) AskFault)
      → IsRequest (may_give (inside_of old)) (may_give (inside_of new)) (memory_files_state (inside_of old)) (memory_files_state (inside_of new)) name result
      → IsRequest (may_give_or_fail old) (may_give_or_fail new) (failing_files_state old) (failing_files_state new) name result
  passed_on name result inner = record {
    answered = inner.answered;
    unanswered = inner.unanswered;
    refused = still ∙ sym (append-nil (refusals_of old)) ∙ ap (λ (names : List Name). refusals_of old ++ names) inner.refused;
    fails = λ e. absurd (inner.fails e);
    cause = λ e. absurd (inner.fails e);
    no_more = less inner.no_more;
    later = later;
  }
