-- A store in memory whose device fails once.
use Rattle.std.specs.Prelude.{◌≡◌, ℕ, ◌-◌, List, Option, Some, None}
use Rattle.gm_store_parts.specs.declared.files.failing.FailingFiles.{FailingFiles}
use Rattle.gm_store_parts.specs.declared.files.memory.MemoryFiles.{MemoryFiles}
use Rattle.gm_store_parts.specs.Asked.{Name, Reply}
use Rattle.gm_store_parts.specs.History.{refusals_in}
use Rattle.gm_store_parts.specs.Memory.{may_give, pairs_of}
use Rattle.gm_store_parts.specs.States.{StoreState}

-- the store that answers the requests that pass
abbrev pub inside_of : FailingFiles → MemoryFiles
inside_of store = store.inside

-- how many more requests pass before the device fails, or none once it has failed
abbrev pub asks_left : FailingFiles → Option ℕ
asks_left store = store.left

-- the names whose requests were refused because the device failed, in order
abbrev pub refusals_of : FailingFiles → List Name
refusals_of store = refusals_in store.refusals

-- what may come of requesting a name: an answer of the store inside, or none if the device has not failed yet
abbrev pub may_give_or_fail : FailingFiles → Name → Option Reply → Type 0
may_give_or_fail store name (Some reply) = may_give (inside_of store) name (Some reply)
may_give_or_fail store name None = (left : ℕ) × (asks_left store ≡ Some left)

-- one request fewer, if the device has not failed yet
abbrev pub one_fewer : Option ℕ → Option ℕ
one_fewer None = None
one_fewer (Some n) = Some (n - 1)

-- how often the device has failed
abbrev pub failures_with : Option ℕ → ℕ
failures_with None = 1
failures_with (Some n) = 0

-- what is known of it
abbrev pub failing_files_state : FailingFiles → StoreState
failing_files_state store = record {
  asked = pairs_of (inside_of store);
  refused = refusals_of store;
  faults = failures_with (asks_left store);
}
