-- What the visits of a worklist change: before the first, in one, and after the last.
use Rattle.std.specs.Prelude.{◌≡◌, [], ℕ, List, Result}
use Rattle.gm_name.specs.ModuleVersion.{ModuleVersion}
use Rattle.gm_name_table.specs.Listed.{modules_of}
use Rattle.gm_file.specs.Fields.{Dependency}
use Rattle.gm_file.specs.Main.{is_pruned_by, without_excluded}
use Rattle.gm_graph_cache.specs.declared.cache.Cache.{Cache}
use Rattle.gm_graph_files.specs.declared.class.Class.{Class}
use Rattle.gm_graph_files.specs.declared.depth.Depth.{Depth}
use Rattle.gm_graph_files.specs.declared.depth.Turn.{Turn}
use Rattle.gm_graph.specs.declared.findings.Findings.{Findings}
use Rattle.gm_graph.specs.declared.worklist.Worklist.{Worklist}
use Rattle.gm_graph_cache.specs.Cached.{IsSound, main_in, table_in}
use Rattle.gm_graph.specs.Private.Findings.{AreFindings}
use Rattle.gm_graph.specs.Run.{AreTurns, IsRead}
use Rattle.gm_graph_cache.specs.Sayings.{Run, Says}
use Rattle.gm_graph_files.specs.Summaries.{at_span}
use Rattle.gm_graph.specs.Private.Turns.{AddsAll, OverflowsWith, depth_by, led_to}
use Rattle.gm_graph.specs.Private.Worklists.{IsWorklist, turns_of}

-- The worklist before the first visit: the turns are those of the main file's requirements.
pub record IsFirstWorklist (run : Run) (modules : List ModuleVersion) (worklist : Worklist) : Type 0 where
  pub worklist_is : IsWorklist modules worklist
  pub adds : AddsAll [] (turns_of modules worklist) (without_excluded run.main run.main.requirements)
      (depth_by (is_pruned_by run.main.go))

-- Each answer says something, and by them the vertices with turns, together with what the visit leads to, are too many.
abbrev pub OverflowsAt : Run → List Turn → ModuleVersion → Depth → Type 0
OverflowsAt run turns x d = IsRead run × ((said : Result Dependency Class) × Says run x said
    × OverflowsWith turns (led_to run.main said d))

-- The whole worklist was visited. The turns are those of the opened vertices, each finding is what the run says of one
-- of them, and a file's list is what each vertex with this file requires.
pub record IsOpenedIn (run : Run) (cache : Cache) (worklist : Worklist) (findings : Findings) : Type 0 where
  pub main_is : main_in cache ≡ run.main
  pub read : IsRead run
  pub worklist_is : IsWorklist (table_in cache) worklist
  pub turns : AreTurns run (turns_of (table_in cache) worklist)
  pub found : AreFindings cache run (turns_of (table_in cache) worklist) findings
  pub lists : (x : ModuleVersion) (place : ℕ) (sound : IsSound cache run x place)
      → at_span (modules_of cache.modules) sound.span ≡ without_excluded run.main sound.file.requirements
