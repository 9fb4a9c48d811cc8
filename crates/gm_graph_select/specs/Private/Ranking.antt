-- The ranks of vertices: their places in ascending order.
use Rattle.std.specs.Prelude.{◌≡◌, ◌↔◌, ◌<◌, ◌≤◌, ℕ, Bool, List, AllPairs, Contains, length, slice_index}
use Rattle.gm_name.specs.ModuleVersion.{ModuleVersion, module_at}
use Rattle.gm_graph_select.specs.declared.ranking.Numbered.{Numbered}
use Rattle.gm_graph_select.specs.Private.Marking.{HasMark}

-- The vertex is a marked module, and its number is that of the module.
pub record IsPlaced (modules : List ModuleVersion) (marks : List Bool) (one : Numbered) : Type 0 where
  pub within : one.number < length modules
  pub marked : HasMark marks one.number
  pub is : one.vertex ≡ module_at modules one.number

-- One of the modules that are marked.
abbrev pub IsMarkedModule : List ModuleVersion → List Bool → ModuleVersion → Type 0
IsMarkedModule modules marks x = (number : ℕ) × IsPlaced modules marks (record { vertex = x; number = number })

-- These are the marked modules with their numbers, in ascending order.
pub record AreMarkedModules (modules : List ModuleVersion) (marks : List Bool) (all : List Numbered) : Type 0 where
  pub few : length all ≤ length modules
  pub each : (one : Numbered) → Contains all one ↔ IsPlaced modules marks one
  pub ascending : AllPairs (λ a b. a.number < b.number) all

-- The rank at a vertex's number is its place among the vertices.
pub record IsRanked (vertices : List ModuleVersion) (ranks : List ℕ) (one : Numbered) : Type 0 where
  pub within : slice_index ranks one.number < length vertices
  pub is : module_at vertices (slice_index ranks one.number) ≡ one.vertex
