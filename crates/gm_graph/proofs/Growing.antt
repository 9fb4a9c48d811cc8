-- A worklist, as the list of modules grows at its end: the numbers stand for the same modules.
use Rattle.std.proofs.Common.{◌≡◌, ◌<◌, ◌++◌, ◌∷◌, ◌∙◌, [], ℕ, All, List, ap, length, map, refl}
use Rattle.std.specs.List.{IsDistinct}
use Rattle.std.proofs.lemmas.List.Elements.{All-head, All-tail, All-weaker}
use Rattle.gm_name.specs.ModuleVersion.{ModuleVersion, pair_eq}
use Rattle.gm_name_table.specs.Listed.{BeginsWith}
use Rattle.gm_graph.specs.declared.worklist.Worklist.{Worklist}
use Rattle.gm_graph.specs.declared.worklist.NumberedTurn.{NumberedTurn}
use Rattle.gm_graph.specs.Private.Worklists.{IsWorklist, turn_of, turns_of}
use Rattle.gm_graph_cache.proofs.NumberedModules.{vertex_stays, number_below}

abbrev pub IsOneBelow : ℕ → NumberedTurn → Type 0
IsOneBelow count one = one.number < count

module _ (modules more : List ModuleVersion) where
  turns_stay : (turns : List NumberedTurn) → All (IsOneBelow (length modules)) turns
      → map (turn_of (modules ++ more)) turns ≡ map (turn_of modules) turns
  turns_stay [] h = refl
  turns_stay (one ∷ turns) h =
      rw (
        vertex_stays modules more one.number (All-head (IsOneBelow (length modules)) one turns h),
        turns_stay turns (All-tail (IsOneBelow (length modules)) one turns h),
      ) refl

module _ (old new : List ModuleVersion) (worklist : Worklist) (is : IsWorklist old worklist)
    (begins : BeginsWith old new) where
  pub turns_over : turns_of new worklist ≡ turns_of old worklist
  turns_over = ap (λ (ms : List ModuleVersion). turns_of ms worklist) begins.1
      ∙ turns_stay old begins.0 worklist.turns.items is.turned

  -- It is a worklist by the numbers of all of them.
  pub worklist_over : IsDistinct pair_eq new → IsWorklist new worklist
  worklist_over distinct = record {
    distinct = distinct;
    turned = All-weaker _ _ (λ one below. number_below old new one.number begins below)
        worklist.turns.items is.turned;
    marks = is.marks;
    opened = is.opened;
    turns = rw turns_over is.turns;
    counted = is.counted;
  }
