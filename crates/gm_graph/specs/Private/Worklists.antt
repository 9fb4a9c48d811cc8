-- What a worklist holds, by the numbers of modules, as a list of turns.
use Rattle.std.specs.Prelude.{◌≡◌, ◌<◌, ◌↔◌, All, Contains, List, get_or, length, map, true}
use Rattle.std.specs.List.{IsDistinct}
use Rattle.gm_name.specs.ModuleVersion.{ModuleVersion, module_at, pair_eq}
use Rattle.gm_graph_files.specs.declared.depth.Turn.{Turn}
use Rattle.gm_graph_files.specs.Turns.{turn}
use Rattle.gm_graph.specs.Private.Turns.{AreTurnsOf}
use Rattle.gm_graph.specs.Private.Marks.{is_marked, no_marks}
use Rattle.gm_graph.specs.declared.worklist.NumberedTurn.{NumberedTurn}
use Rattle.gm_graph.specs.declared.worklist.Worklist.{Worklist}

-- the turn of the vertex with a number, if the numbers are those of these modules
abbrev pub turn_of : List ModuleVersion → NumberedTurn → Turn
turn_of modules one = turn (module_at modules one.number) one.depth

-- the turns of the worklist
abbrev pub turns_of : List ModuleVersion → Worklist → List Turn
turns_of modules worklist = map (turn_of modules) worklist.turns.items

-- The numbers are those of modules, the modules are distinct, and turns, marks and the count of the vertices with turns
-- are consistent.
pub record IsWorklist (modules : List ModuleVersion) (worklist : Worklist) : Type 0 where
  pub distinct : IsDistinct pair_eq modules
  pub turned : All (λ one. one.number < length modules) worklist.turns.items
  pub marks : (one : NumberedTurn) → Contains worklist.turns.items one
      ↔ (is_marked (get_or worklist.marks.items one.number no_marks) one.depth ≡ true)
  pub opened : List ModuleVersion
  pub turns : AreTurnsOf opened (turns_of modules worklist)
  pub counted : worklist.opened ≡ length opened
