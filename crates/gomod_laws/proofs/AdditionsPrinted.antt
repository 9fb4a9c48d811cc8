-- A requirement added lowers nothing.
use Rattle.std.proofs.Common.{◌∙◌, ℕ, List, [], Option, Ok, None, refl, sym, inl}
use Rattle.gm_name.specs.ModuleVersion.{ModuleVersion}
use Rattle.gm_store_parts.specs.Asked.{Name, Reply}
use Rattle.gm_store_sums.specs.Sums.{Sums}
use Rattle.gm_file.specs.Main.{Main, replacement_in}
use Rattle.gm_graph_select.specs.declared.step.Step.{Step}
use Rattle.gm_graph.specs.Entries.{Entry}
use Rattle.gm_graph_select.proofs.Lawful.{row_selected, selected_row}
use Rattle.gm_graph.specs.Run.{AreRows, IsEdge, IsOpened, IsTop}
use Rattle.gm_graph_cache.specs.Sayings.{Run, run_of}
use Rattle.gomod_texts.specs.Queries.{AreFound, Prints, QueryEnds}
use Rattle.gomod_texts.specs.Outcome.{Outcome}
use Rattle.gomod_words.specs.declared.usage.Command.{Command}
use Rattle.gomod_laws.specs.Runs.{HasPrinted}
use Rattle.gomod_texts.specs.GraphQuery.{PrintsGraph}
use Rattle.gomod_texts.specs.ListQuery.{PrintsList}
use Rattle.gm_graph.proofs.RunLemmas.{RequiresToo, SaysToo, edge_too, opened_too}
use Rattle.gomod_texts.proofs.FewOpened.{IsFew}
use Rattle.gomod_texts.proofs.PrintedList.{greatest}
use Rattle.gomod_laws.specs.AdditionLaws.{AreNotLower, AreTwoRuns, GraphKeepsLines, ListLowersNothing, SaysMore}
use Rattle.gomod_laws.specs.Shown.{run_over}
use Rattle.gomod_laws.proofs.AdditionsKept.{kept_more}
use Rattle.gomod_laws.proofs.PrintedRuns.{printed_by}
use Rattle.gomod_laws.proofs.WiderRuns.{narrow_says, prints_too}

-- ---- a main file that says more

module _ (first second : Main) (more : SaysMore first second) (t u : Option Sums) (asked later : List (Name × Reply))
    (says : SaysToo (run_of first t asked) (run_of second u later)) where
  abbrev one : Run
  one = run_of first t asked

  abbrev next : Run
  next = run_of second u later

  top_more : (x : ModuleVersion) → IsTop one x → IsTop next x
  top_more x top = kept_more first second more.excludes _ _ x (more.requires x) top

  requires_more : RequiresToo one next
  requires_more x y file is be has there = (
    says x be (Ok file) has,
    kept_more first second more.excludes _ file.requirements y (λ among. among) there,
  )

  opened_more : (x : ModuleVersion) → IsOpened one x → IsOpened next x
  opened_more x is = opened_too _ next more.unpruned (λ y top. inl (top_more y top)) requires_more x is

  edge_more : (s : Step) (y : ModuleVersion) → IsEdge one s y → IsEdge next s y
  edge_more s y is = edge_too _ _ more.unpruned (λ z top. inl (top_more z top)) requires_more top_more s y is

  not_lower : IsFew next → (rows others : List Entry) → AreRows one rows → AreRows next others → AreNotLower rows others
  not_lower few rows others list other x right there =
      let is = row_selected list x _ there in
      let (s, leads) = is.is_end in
      let are = greatest next few others other in
      let (y, inside, path, high) = are.satisfied x (s, edge_more s x leads) (λ e. is.not_main (e ∙ sym more.path)) in
      let row = selected_row other y ((other.each y).0 inside) in
      (y, replacement_in second y, row, path, high)

-- if a query prints over the file that says more, it prints over the other
module _ {command : Command} (prints : Prints) {file other : List ℕ} {sums : Option (List ℕ)} {first second : Main} {one next : Outcome}
    (runs : AreTwoRuns command file other sums first second one next) (more : SaysMore first second) where
  record BothPrint : Type 0 where
    table : Option Sums
    found : AreFound (run_over file sums runs.asked) first table []
    shows : prints (run_of first table runs.asked) one
    later : Option Sums
    later_found : AreFound (run_over other sums runs.later) second later []
    later_shows : prints (run_of second later runs.later) next
    says : SaysToo (run_of first table runs.asked) (run_of second later runs.later)

  both_print : QueryEnds prints (run_over file sums runs.asked) one → QueryEnds prints (run_over other sums runs.later) next → HasPrinted next → BothPrint
  both_print is be ends =
      let run = run_over file sums runs.asked in
      let after = run_over other sums runs.later in
      let (u, found, others) = printed_by runs.second_says be ends in
      let (t, valid, those) =
      prints_too _ after first second u found runs.first_says refl runs.alike more.replaces
      (λ v says x is. opened_more first second more v u runs.asked runs.later says x is) refl _ one is in
      record {
        table = t;
        found = valid;
        shows = those;
        later = u;
        later_found = found;
        later_shows = others;
        says = narrow_says run after first second u found runs.first_says refl runs.alike more.replaces t valid.read.sums;
      }

pub list_lowers_nothing : ListLowersNothing
list_lowers_nothing file other sums first second one next runs more ends =
    let both = both_print (PrintsList None None) runs more runs.first_runs.0 runs.second_runs.0 ends in
    let (rows, are, text) = both.shows in
    let (others, others_are, others_text) = both.later_shows in (
      rows,
      others,
      record { table = both.table; found = both.found; are = are; prints = text },
      record { table = both.later; found = both.later_found; are = others_are; prints = others_text },
      not_lower _ _ more _ _ _ _ both.says both.later_found.settled.few _ others are others_are,
    )

pub graph_keeps_lines : GraphKeepsLines
graph_keeps_lines file other sums first second one next runs more ends =
    let both = both_print PrintsGraph runs more runs.first_runs.0 runs.second_runs.0 ends in
    let (edges, are, text) = both.shows in
    let (others, others_are, others_text) = both.later_shows in (
      edges,
      others,
      record { table = both.table; found = both.found; are = are; prints = text },
      record { table = both.later; found = both.later_found; are = others_are; prints = others_text },
      λ e there. (others_are.each e).1 (edge_more _ _ more both.table both.later runs.asked runs.later both.says _ _ ((are.each e).0 there)),
    )
