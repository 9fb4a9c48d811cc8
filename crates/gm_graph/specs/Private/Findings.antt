-- What visits found of vertices, by the numbers of modules.
use Rattle.std.specs.Prelude.{◌≡◌, ◌⊎◌, ◌<◌, ℕ, Contains, Err, IsSome, List, None, Option, Some, length, slice_index_or}
use Rattle.gm_graph_cache.specs.declared.cache.Cache.{Cache}
use Rattle.gm_graph_files.specs.declared.class.Class.{Class}
use Rattle.gm_graph.specs.declared.findings.Findings.{Findings}
use Rattle.gm_graph.specs.declared.findings.NumberedFault.{NumberedFault}
use Rattle.gm_graph_cache.specs.Cached.{IsSound, table_in, module_numbered}
use Rattle.gm_graph_cache.specs.Sayings.{Run, Says}
use Rattle.gm_graph_files.specs.declared.depth.Turn.{Turn}
use Rattle.gm_graph.specs.Private.Turns.{HasTurn}

-- the place of the file that has the list of the vertex with a number, if that was visited and has no fault
abbrev pub place_at : List (Option ℕ) → ℕ → Option ℕ
place_at places number = slice_index_or places number None

-- the fault of the vertex with a number
abbrev pub numbered : ℕ → Class → NumberedFault
numbered number class = record { number = number; class = class }

-- The vertex with this number was visited: it has no fault, or this one.
abbrev pub WasVisited : Findings → ℕ → Type 0
WasVisited findings number = IsSome (place_at findings.places.items number)
    ⊎ ((class : Class) × Contains findings.faults.items (numbered number class))

-- Something was found of each vertex that has one of these turns, and of no others. It is so: a vertex has no fault,
-- and the file at the place has its list, or it has the fault.
pub record AreFindings (cache : Cache) (run : Run) (turns : List Turn) (findings : Findings) : Type 0 where
  pub files : (number place : ℕ) → place_at findings.places.items number ≡ Some place
      → (number < length (table_in cache)) × HasTurn turns (module_numbered cache number)
      × IsSound cache run (module_numbered cache number) place
  pub faults : (number : ℕ) (class : Class) → Contains findings.faults.items (numbered number class)
      → (number < length (table_in cache)) × HasTurn turns (module_numbered cache number)
      × Says run (module_numbered cache number) (Err class)
  pub each : (one : Turn) → Contains turns one
      → (number : ℕ) × WasVisited findings number × (module_numbered cache number ≡ one.vertex)
