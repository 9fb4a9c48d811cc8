-- Turns that are all done.
use Rattle.std.proofs.Common.{◌≡◌, ◌↔◌, ◌+◌, ◌≤◌, not, Bool, true, false, List, [], Ok, ◌++◌, length, Contains, ap, map, refl, inl, inr, arith, length-append, Result}
use Rattle.std.specs.List.{IsDistinct}
use Rattle.std.proofs.lemmas.List.{length-map}
use Rattle.std.proofs.lemmas.List.Elements.{Contains-append_left, Contains-append_right}
use Rattle.gm_name.specs.ModuleVersion.{ModuleVersion}
use Rattle.gm_file.specs.Fields.{Dependency}
use Rattle.gm_file.specs.Main.{is_pruned_by, without_excluded}
use Rattle.gm_graph_files.specs.declared.class.Class.{Class}
use Rattle.gm_graph_files.specs.declared.depth.Turn.{Turn}
use Rattle.gm_graph_files.specs.declared.depth.Depth.{Depth}
use Rattle.gm_graph_files.specs.declared.depth.Depth.TheVariants.{Top, Deep}
use Rattle.gm_graph.specs.declared.worklist.Worklist.{Worklist}
use Rattle.gm_graph.specs.Run.{AreTurns, IsDeep, IsOpened, IsTop, TakesTurn, from_deep, from_main, from_top}
use Rattle.gm_graph_cache.specs.Sayings.{Run, Says}
use Rattle.gm_graph_files.specs.Turns.{same_turn, turn, leads_on}
use Rattle.gm_graph.specs.Private.Turns.{AddsAll, depth_by, led_to}
use Rattle.gm_graph.specs.Private.Worklists.{IsWorklist, turn_of, turns_of}
use Rattle.gm_name_table.specs.Listed.{BeginsWith}
use Rattle.gm_graph.proofs.Sameness.{at_most_as_many, same_turn-Decides}
use Rattle.gm_graph_cache.proofs.Sayings.{one_said}
use Rattle.gm_graph_select.proofs.RankedLists.{in_mapped}

-- What the file of the turn's vertex says is known, and what a visit leads to by that has turns at full depth.
pub record IsDone (run : Run) (turns : List Turn) (one : Turn) : Type 0 where
  pub said : Result Dependency Class
  pub says : Says run one.vertex said
  pub followed : (y : ModuleVersion) → Contains (led_to run.main said one.depth) y → Contains turns (turn y Deep)

-- each turn is one that its vertex takes
abbrev pub AllTake : Run → List Turn → Type 0
AllTake run turns = (one : Turn) → Contains turns one → TakesTurn run one.vertex one.depth

-- The first turns and more, each one that its vertex takes, and those at the front done.
pub record AreVisited (run : Run) (turns front : List Turn) : Type 0 where
  pub tops : (x : ModuleVersion) → IsTop run x → Contains turns (turn x (depth_by (is_pruned_by run.main.go)))
  pub valid : AllTake run turns
  pub done : (one : Turn) → Contains front one → IsDone run turns one

-- both turns of each vertex
both_turns : List ModuleVersion → List Turn
both_turns vertices = map (λ x. turn x Top) vertices ++ map (λ x. turn x Deep) vertices

among_both : (vertices : List ModuleVersion) (x : ModuleVersion) (d : Depth) → Contains vertices x → Contains (both_turns vertices) (turn x d)
unfolding both_turns
among_both vertices x Top h = Contains-append_left _ _ _ (in_mapped (λ y. turn y Top) vertices x h)
among_both vertices x Deep h = Contains-append_right _ _ _ (in_mapped (λ y. turn y Deep) vertices x h)

length-both_turns : (vertices : List ModuleVersion) → length (both_turns vertices) ≡ length vertices + length vertices
unfolding both_turns
length-both_turns vertices = simp (length-append, length-map)

pub few_turns : {modules : List ModuleVersion} {worklist : Worklist} → IsWorklist modules worklist → length worklist.turns.items ≤ 131072
few_turns {modules} {worklist} is =
    let turns = turns_of modules worklist in
    let most = at_most_as_many same_turn-Decides turns (both_turns is.opened) is.turns.turns_once
    (λ q there. among_both is.opened q.vertex q.depth ((is.turns.each q.vertex).1 (q.depth, there))) in
    let twice = length-both_turns is.opened in
    omega (arith, most, is.counted, worklist.few, length-map worklist.turns.items (turn_of modules))

pub along : (old new : List Turn) (one : Turn) → BeginsWith old new → Contains old one → Contains new one
along old new one (more, e) h = rw e (Contains-append_left old more one h)

pub opened_from : (run : Run) (x : ModuleVersion) (d : Depth) → TakesTurn run x d → IsOpened run x
opened_from run x Top h = inl h.1
opened_from run x Deep h = inr h

-- The first turn of a vertex is one that it takes.
first_taken : (run : Run) (x : ModuleVersion) (pruned : Bool) → is_pruned_by run.main.go ≡ pruned → IsTop run x → TakesTurn run x (depth_by pruned)
first_taken run x true is top = (is, top)
first_taken run x false is top = from_main is top

pub takes_first : (run : Run) (x : ModuleVersion) → IsTop run x → TakesTurn run x (depth_by (is_pruned_by run.main.go))
takes_first run x top = first_taken run x (is_pruned_by run.main.go) refl top

-- Every opened vertex takes a turn.
pub takes_some : (run : Run) (x : ModuleVersion) → IsOpened run x → (d : Depth) × TakesTurn run x d
takes_some run x (inl top) = (depth_by (is_pruned_by run.main.go), takes_first run x top)
takes_some run x (inr deep) = (Deep, deep)

-- Turns of what the main file requires, and no others, are the first ones.
pub first_visited : (run : Run) (turns : List Turn)
    → AddsAll [] turns (without_excluded run.main run.main.requirements) (depth_by (is_pruned_by run.main.go)) → AreVisited run turns []
first_visited run turns adds = record {
  tops = adds.each;
  valid = λ one h. elim (adds.only one h) [
    | inl none ↦ absurd (omega (arith, none.1))
    | inr found ↦ rw found.2 (takes_first run found.0 found.1)
  ];
  done = λ one none. absurd (omega (arith, none.1));
}

-- At whatever depth the first turns are, a file that is not pruned leads on.
leads_first : (file : Dependency) (pruned : Bool) → is_pruned_by file.go ≡ false → leads_on file (depth_by pruned) ≡ true
leads_first file true e = ap not e
leads_first file false e = refl

-- Each turn is done.
module _ {run : Run} {turns : List Turn} (visited : AreVisited run turns turns) where
  -- If a turn of a module leads on, what the module requires has turns at full depth.
  led : (x : ModuleVersion) (d : Depth) → Contains turns (turn x d) → (file : Dependency) → Says run x (Ok file) → leads_on file d ≡ true
      → (y : ModuleVersion) → Contains (without_excluded run.main file.requirements) y → Contains turns (turn y Deep)
  led x d there file says leads y required =
      let done = visited.done (turn x d) there in
      done.followed y (rw (one_said done.says says, leads) required)

  -- Every vertex that is opened at full depth has a turn at full depth.
  deep_among : {x : ModuleVersion} → IsDeep run x → Contains turns (turn x Deep)
  deep_among (from_main {x} p t) = rw p at visited.tops x t
  deep_among (from_top {x} {y} file t says u c) = led x _ (visited.tops x t) file says (leads_first file (is_pruned_by run.main.go) u) y c
  deep_among (from_deep {x} {y} d (file, says, c)) = led x Deep (deep_among d) file says refl y c

  turns_exactly : (x : ModuleVersion) (d : Depth) → Contains turns (turn x d) ↔ TakesTurn run x d
  turns_exactly x Top = ((λ h. visited.valid (turn x Top) h), (λ h. rw h.0 at visited.tops x h.1))
  turns_exactly x Deep = ((λ h. visited.valid (turn x Deep) h), (λ h. deep_among h))

  pub are_turns : IsDistinct same_turn turns → AreTurns run turns
  are_turns once = record { once = once; each = turns_exactly }
