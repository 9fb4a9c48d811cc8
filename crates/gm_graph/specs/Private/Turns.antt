-- Turns that are added while loading follows what files require.
use Rattle.std.specs.Prelude.{◌≡◌, ◌<◌, ◌↔◌, ◌⊎◌, [], Bool, Contains, Err, List, Ok, Result, if◌then◌else◌, length}
use Rattle.gm_file.specs.Fields.{Dependency}
use Rattle.gm_file.specs.Main.{Main, without_excluded}
use Rattle.gm_graph_files.specs.declared.class.Class.{Class}
use Rattle.gm_graph_files.specs.declared.depth.Depth.{Depth}
use Rattle.gm_graph_files.specs.declared.depth.Depth.TheVariants.{Top, Deep}
use Rattle.gm_graph_cache.specs.Sayings.{Run, Says}
use Rattle.std.specs.List.{IsDistinct}
use Rattle.gm_name.specs.ModuleVersion.{ModuleVersion, pair_eq}
use Rattle.gm_graph_files.specs.declared.depth.Turn.{Turn}
use Rattle.gm_name_table.specs.Listed.{BeginsWith}
use Rattle.gm_graph_files.specs.Turns.{same_turn, turn, leads_on}

-- What a visit to this depth leads to, by what the vertex's file says.
abbrev pub led_to : Main → Result Dependency Class → Depth → List ModuleVersion
led_to main (Ok file) d = if leads_on file d then without_excluded main file.requirements else []
led_to main (Err class) d = []

-- A vertex has a turn.
abbrev pub HasTurn : List Turn → ModuleVersion → Type 0
HasTurn turns x = (d : Depth) × Contains turns (turn x d)

-- These are the vertices of the turns, and neither has duplicates.
pub record AreTurnsOf (vertices : List ModuleVersion) (turns : List Turn) : Type 0 where
  pub vertices_once : IsDistinct pair_eq vertices
  pub turns_once : IsDistinct same_turn turns
  pub each : (x : ModuleVersion) → Contains vertices x ↔ HasTurn turns x

-- Turns of these vertices at this depth were added, and no others.
pub record AddsAll (old new : List Turn) (xs : List ModuleVersion) (d : Depth) : Type 0 where
  pub extends : BeginsWith old new
  pub each : (y : ModuleVersion) → Contains xs y → Contains new (turn y d)
  pub only : (one : Turn) → Contains new one
      → Contains old one ⊎ ((y : ModuleVersion) × Contains xs y × (one ≡ turn y d))

-- What the file of the turn's vertex says is known, and turns of what a visit leads to by that were added.
pub record Visits (run : Run) (old new : List Turn) (one : Turn) : Type 0 where
  pub said : Result Dependency Class
  pub says : Says run one.vertex said
  pub adds : AddsAll old new (led_to run.main said one.depth) Deep

-- the depth of the first turns
abbrev pub depth_by : Bool → Depth
depth_by pruned = if pruned then Top else Deep

-- More than 65,536 distinct vertices have turns or are among these.
abbrev pub OverflowsWith : List Turn → List ModuleVersion → Type 0
OverflowsWith turns xs = (all : List ModuleVersion) × (65536 < length all) × IsDistinct pair_eq all
    × ((x : ModuleVersion) → Contains all x → HasTurn turns x ⊎ Contains xs x)
