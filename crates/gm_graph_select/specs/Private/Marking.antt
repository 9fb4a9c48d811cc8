-- Numbers that are marked.
use Rattle.std.specs.Prelude.{◌≡◌, ◌⊎◌, ◌↔◌, ◌++◌, ℕ, Bool, true, false, List, Contains, length, slice_index_or}
use Rattle.std.specs.List.{flat_map}
use Rattle.std.specs.Option.{option_to_list}
use Rattle.gm_graph_select.specs.Adjacency.{StepEdges, list_at}

-- The number is marked; one past the end is not.
abbrev pub HasMark : List Bool → ℕ → Type 0
HasMark marks number = slice_index_or marks number false ≡ true

-- The new marks are the old ones and those of these numbers.
pub record AreMarked (old : List Bool) (numbers : List ℕ) (new : List Bool) : Type 0 where
  pub count : length new ≡ length old
  pub each : (number : ℕ) → HasMark new number ↔ (HasMark old number ⊎ Contains numbers number)

-- the number of the step that edges leave, and those of the vertices that they lead to
abbrev pub named_by : StepEdges → List ℕ
named_by one = option_to_list one.from ++ one.to

-- the numbers that any of these edges name
abbrev pub numbers_named : List StepEdges → List ℕ
numbers_named all = flat_map named_by all

-- The numbers of each list that was passed are marked.
abbrev pub ArePassedMarked : List (List ℕ) → List Bool → List Bool → Type 0
ArePassedMarked lists passed marks =
    (place number : ℕ) → HasMark passed place → Contains (list_at lists place) number → HasMark marks number
