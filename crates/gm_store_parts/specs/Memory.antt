-- Views of a store in memory: its files, and its requests with their answers.
use Rattle.std.specs.Prelude.{◌≡◌, ℕ, List, [], Option, if◌then◌else◌, Some, None}
use Rattle.std.specs.Option.{option_map}
use Rattle.std.specs.Map.{lookup}
use Rattle.gm_store_parts.specs.declared.files.memory.MemoryFiles.{MemoryFiles}
use Rattle.gm_store_parts.specs.Asked.{Name, Reply, name_of, same_name, reply_for}
use Rattle.gm_store_parts.specs.Kept.{all_pairs}
use Rattle.gm_store_parts.specs.States.{StoreState}

-- the requests of a store, in order
abbrev pub pairs_of : MemoryFiles → List (Name × Reply)
pairs_of store = all_pairs store.asked

-- what is known of it: its device never fails
abbrev pub memory_files_state : MemoryFiles → StoreState
memory_files_state store = record { asked = pairs_of store; refused = []; faults = 0 }

-- the bytes of the file under a name, if there is one
abbrev pub held_at : MemoryFiles → Name → Option (List ℕ)
held_at store name = option_map (λ content. content.items)
    (lookup (λ file. same_name name (name_of file)) store.held.entries)

-- what may come of requesting a name: the one answer is what the store holds, up to 16 MiB, and its device never fails
abbrev pub may_give : MemoryFiles → Name → Option Reply → Type 0
may_give store name (Some reply) = reply ≡ reply_for 16777216 (held_at store name)
may_give store name None = ⊥

-- the new store has these bytes under this name, and the old store's files under all other names
abbrev pub AddsFile : MemoryFiles → MemoryFiles → Name → List ℕ → Type 0
AddsFile old new name content = (other : Name)
    → held_at new other ≡ (if same_name other name then Some content else held_at old other)

-- both stores have the same files under the same names
abbrev pub HoldsSameFiles : MemoryFiles → MemoryFiles → Type 0
HoldsSameFiles old new = (name : Name) → held_at new name ≡ held_at old name
