-- Opened vertices and turns as more is asked for, and a worklist whose first turns are done.
use Rattle.std.proofs.Common.{◌≡◌, Bool, true, false, List, [], ◌∷◌, ◌++◌, Err, Ok, Option, Result, Contains, if◌then◌else◌, inl, inr, arith, not, refl}
use Rattle.std.proofs.lemmas.List.Elements.{Contains-push_cases}
use Rattle.gm_name.specs.ModuleVersion.{ModuleVersion}
use Rattle.gm_file.specs.Fields.{Dependency}
use Rattle.gm_file.specs.Main.{Main, is_pruned_by, without_excluded}
use Rattle.gm_store_parts.specs.Asked.{Name, Reply}
use Rattle.gm_store_sums.specs.Sums.{Sums}
use Rattle.gm_graph_files.specs.declared.class.Class.{Class}
use Rattle.gm_graph_files.specs.declared.depth.Turn.{Turn}
use Rattle.gm_graph_files.specs.declared.depth.Depth.{Depth}
use Rattle.gm_graph_files.specs.declared.depth.Depth.TheVariants.{Deep, Top}
use Rattle.gm_graph.specs.Run.{AreTooMany, IsDeep, TakesTurn, from_deep, from_top}
use Rattle.gm_graph_cache.specs.Sayings.{KeepsSayings, Run, Says, run_of}
use Rattle.gm_graph_files.specs.Turns.{turn}
use Rattle.gm_graph.specs.Private.Turns.{OverflowsWith, Visits, led_to}
use Rattle.gm_graph.proofs.DoneTurns.{AllTake, AreVisited, along, opened_from}
use Rattle.gm_graph.proofs.RunLemmas.{deep as deep_too, keeps_agree}

pub many_first : (run : Run) → OverflowsWith [] (without_excluded run.main run.main.requirements) → AreTooMany run
many_first run (all, long, once, each) = (
  all,
  long,
  record { once = once; each = λ x h. elim (each x h) [ inl none ↦ absurd (omega (arith, none.1.1)) | inr top ↦ inl top ] },
)

-- What a turn that the vertex takes leads to is opened at full depth.
leads_to_deep : (run : Run) (x : ModuleVersion) (d : Depth) (said : Result Dependency Class) → TakesTurn run x d → Says run x said
    → (y : ModuleVersion) → Contains (led_to run.main said d) y → IsDeep run y
leads_to_deep run x d (Err class) taken says y none = absurd (omega (arith, none.1))
leads_to_deep run x Deep (Ok file) taken says y there = from_deep {x = x} taken (file, says, there)
leads_to_deep run x Top (Ok file) taken says y there = by_pruned (is_pruned_by file.go) refl there
  where
    by_pruned : (b : Bool) → is_pruned_by file.go ≡ b → Contains (if not b then without_excluded run.main file.requirements else []) y → IsDeep run y
    by_pruned true pruned none = absurd (omega (arith, none.1))
    by_pruned false unpruned required = from_top {x = x} file taken.1 says unpruned required

-- ---- when more was asked for

module _ {main : Main} {sums : Option Sums} (pairs longer : List (Name × Reply))
    (keeps : KeepsSayings (run_of main sums pairs) (run_of main sums longer)) where
  abbrev earlier : Run
  earlier = run_of main sums pairs

  abbrev later : Run
  later = run_of main sums longer

  pub takes_kept : (x : ModuleVersion) (d : Depth) → TakesTurn earlier x d → TakesTurn later x d
  takes_kept x Top h = h
  takes_kept x Deep h = deep_too earlier later (keeps_agree earlier later refl keeps) h

  module _ (x : ModuleVersion) (depth : Depth) (takes : TakesTurn later x depth) where
    -- One more turn was visited.
    pub visited_more : {old front : List Turn} (new : List Turn) → AreVisited earlier old front → Visits later old new (turn x depth)
        → AreVisited later new (front ++ turn x depth ∷ [])
    visited_more {old} {front} new visited visits = record {
      tops = λ y t. along old new _ visits.adds.extends (visited.tops y t);
      valid = λ next there. elim (visits.adds.only next there) [
        | inl in_old ↦ takes_kept next.vertex next.depth (visited.valid next in_old)
        | inr found ↦ rw found.2 (leads_to_deep later x depth visits.said takes visits.says found.0 found.1)
      ];
      done = λ next there. elim (Contains-push_cases front (turn x depth) next there) [
        | inl was ↦ (let done = visited.done next was in record {
          said = done.said;
          says = keeps next.vertex done.said done.says;
          followed = λ y to. along old new _ visits.adds.extends (done.followed y to);
        })
        | inr same ↦ rw⁻¹ same (record { said = visits.said; says = visits.says; followed = visits.adds.each })
      ];
    }

    -- So many have turns, or are led to by it, that too many are opened.
    pub many_followed : (old : List Turn) → AllTake earlier old → (said : Result Dependency Class) → Says later x said
        → OverflowsWith old (led_to main said depth) → AreTooMany later
    many_followed old valid said says (all, long, once, each) = (
      all,
      long,
      record {
        once = once;
        each = λ y h. elim (each y h) [
          | inl one ↦ opened_from later y one.0 (takes_kept y one.0 (valid (turn y one.0) one.1))
          | inr to ↦ inr (leads_to_deep later x depth said takes says y to)
        ];
      },
    )
