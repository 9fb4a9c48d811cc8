-- What the laws on `graph` and `chain` conclude is false of graphs and chains that contradict them.
use Rattle.std.proofs.Common.{◌≡◌, ◌∙◌, ◌∷◌, ◌++◌, List, [], Option, None, Contains, ap, arith, codes, inl, inr, length, refl, sym}
use Rattle.std.proofs.lemmas.List.{same_from_push}
use Rattle.gm_name.specs.ModuleVersion.{ModuleVersion}
use Rattle.gm_file.specs.Main.{Main, replacement_in}
use Rattle.gm_store_sums.specs.Sums.{Sums}
use Rattle.gm_graph.specs.Run.{AreEdges, IsEdge}
use Rattle.gm_graph_cache.specs.Sayings.{run_of}
use Rattle.gm_graph_select.specs.declared.step.Edge.{Edge}
use Rattle.gm_graph_select.specs.declared.step.Step.{Step}
use Rattle.gm_graph_select.specs.declared.step.Step.TheVariants.{Main as FromMain, Of}
use Rattle.gm_graph_select.specs.BuildList.{main_entry, path_of}
use Rattle.gm_graph.specs.Entries.{Entry}
use Rattle.gm_graph_select.specs.Graph.{Edges, among, edge}
use Rattle.gm_graph_select.proofs.Ascending.{member_head, member_tail, one_member}
use Rattle.gm_graph_select.proofs.Lawful.{rows_are_ends}
use Rattle.gm_graph_select.proofs.Same.{AreSame, same_build_list, same_chain}
use Rattle.gomod_texts.specs.QueryLaws.{IsWalk, further, here}
use Rattle.gomod_texts.specs.Queries.{AreFound, Given}
use Rattle.gomod_texts.specs.Outcome.{text_outcome}
use Rattle.gomod_texts.specs.PrintedLines.{AreProperRows, AreProperSteps, IsProperRow, IsProperStep}
use Rattle.gomod_texts.specs.GraphQuery.{graph_text}
use Rattle.gomod_texts.proofs.OneRead.{one_main}
use Rattle.gomod_texts.proofs.PrintedList.{all_rows, not_refused}
use Rattle.gomod_run.proofs.ShortestChain.{chain_walk}
use Rattle.gomod_laws.specs.Counterexamples.{a_one, graph_of_a}
use Rattle.gomod_laws.specs.CounterListings.{ChainBeginsElsewhere, ChainEndsElsewhere, ChainIsOfAnotherGraph, ChainIsTooLong, IsRequiredBy, ListIsOfAnotherGraph}
use Rattle.gomod_laws.proofs.Contradicted.{a_is_path, b_is_path, edge_proper, edge_to, m_has_no_blank, m_has_no_feed, m_has_no_sign, other_name}
use Rattle.gomod_laws.proofs.CounterLists.{a_is_not_b, b_one, rows_are}
use Rattle.gomod_laws.proofs.KnownVersions.{one_zero, one_zero_is}
use Rattle.gomod_laws.proofs.ShownTexts.{edges_are, known_steps, same_text, steps_are, walk_begins, walk_step}
use Rattle.gomod_laws.proofs.WrittenLists.{each_of}

-- ---- walks

walk_ends : {E : Edges} {s : Step} {steps : List Step} → IsWalk E s steps → (front : List Step) × (steps ≡ front ++ s ∷ [])
walk_ends here = ([], refl)
walk_ends (further {s} {y} {steps} walk is) = (steps, refl)

-- ---- the steps of a text

a_step : IsProperStep (Of a_one)
a_step = (a_is_path, one_zero_is)

b_step : IsProperStep (Of b_one)
b_step = (b_is_path, one_zero_is)

abbrev to_a : List Step
to_a = FromMain ∷ Of a_one ∷ []

abbrev by_b : List Step
by_b = FromMain ∷ Of b_one ∷ Of a_one ∷ []

abbrev to_b : List Step
to_b = FromMain ∷ Of b_one ∷ []

to_a_proper : AreProperSteps to_a
to_a_proper = each_of IsProperStep to_a (tt, (a_step, tt))

by_b_proper : AreProperSteps by_b
by_b_proper = each_of IsProperStep by_b (tt, (b_step, (a_step, tt)))

to_b_proper : AreProperSteps to_b
to_b_proper = each_of IsProperStep to_b (tt, (b_step, tt))

not_from_main : {x : ModuleVersion} {rest : List Step} → FromMain ∷ rest ≡ Of x ∷ [] → ⊥
not_from_main e = cc e

-- ---- shortest chains

pub chain_ends_elsewhere : ChainEndsElsewhere
chain_ends_elsewhere run (main, table, rows, s, steps, found, are, (entry, rest, at, is), says, walk, least) =
    let (own, same) = steps_are run _ table found _ walk (codes "m") (Of a_one ∷ []) m_has_no_feed to_a_proper (sym (same_text _ _ says)) in
    let (front, ends) = walk_ends walk in
    let last : s ≡ Of a_one = (same_from_push _ (FromMain ∷ []) s _ (sym ends ∙ same)).1 in
    other_name (ap (path_of main.path) (sym last ∙ sym is) ∙ at.path_is)

pub chain_begins_elsewhere : ChainBeginsElsewhere
chain_begins_elsewhere path run (main, table, rows, s, steps, found, are, row, says, walk, least) =
    let same = known_steps run _ table found _ walk _ (each_of IsProperStep (Of a_one ∷ []) (a_step, tt)) (sym (same_text _ _ says)) in
    let (rest, begins) = walk_begins _ walk in
    not_from_main (sym begins ∙ same)

pub chain_is_too_long : ChainIsTooLong
chain_is_too_long run file is top (main, table, rows, s, steps, found, are, row, says, walk, least) =
    let edges = IsEdge (run_of main table run.answers.asked) in
    let (own, same) = steps_are run _ table found _ walk (codes "m") (Of b_one ∷ Of a_one ∷ []) m_has_no_feed by_b_proper
    (sym (same_text _ _ says)) in
    let (front, ends) = walk_ends walk in
    let last : s ≡ Of a_one = (same_from_push _ (FromMain ∷ Of b_one ∷ []) s _ (sym ends ∙ same)).1 in
    let required : IsRequiredBy main a_one = rw (one_main run.file file main is found.read.main_file) at top in
    let shorter = further here required in
    let size : length steps ≡ 3 = ap (λ (ss : List Step). length ss) same in
    let low = least to_a (rw last shorter) in
    omega (arith, size, low)

-- ---- one graph

edges_known : (run : Given) (main : Main) (table : Option Sums) (edges : List Edge) → AreFound run main table []
    → AreEdges (run_of main table run.answers.asked) edges
    → graph_of_a ≡ text_outcome (graph_text main.path edges) → edges ≡ edge_to one_zero ∷ []
edges_known run main table edges found exact says =
    (edges_are run main table found (codes "m") edges [] a_one m_has_no_blank m_has_no_sign (edge_proper one_zero_is) exact
    (sym (same_text _ _ says))).1

-- no such edge leads to b.c
b_is_no_end : {edges : List Edge} (s : Step) → edges ≡ edge_to one_zero ∷ [] → among edges s b_one → ⊥
b_is_no_end s same there = a_is_not_b (ap (λ e. e.to) (one_member _ _ (rw same at there)))

abbrev rows_with_b : List Entry
rows_with_b = main_entry ∷ (Of b_one, None) ∷ []

with_b_proper : AreProperRows rows_with_b
with_b_proper = each_of IsProperRow rows_with_b (refl, ((b_is_path, one_zero_is, tt), tt))

pub list_is_of_another_graph : ListIsOfAnotherGraph
list_is_of_another_graph path run chain (main, table, edges, rows, found, exact, one) =
    let here_edges = IsEdge (run_of main table run.answers.asked) in
    let are =
    same_build_list _ here_edges (λ t y. exact.each (edge t y))
    one.build_list in
    let (own, same) = rows_are run _ table _ found are ((Of b_one, None) ∷ []) with_b_proper (sym (same_text _ _
    (all_rows _ _ _ _ one.list_is))) in
    let there : Contains rows (Of b_one, None) = rw same
    (member_tail main_entry _ ((Of b_one, None) ∷ []) (member_head (Of b_one, None) [])) in
    let (s, end) = rows_are_ends main.path (replacement_in main) edges rows one.build_list b_one None there in
    b_is_no_end s (edges_known _ _ _ _ found exact one.graph_is) end

pub chain_is_of_another_graph : ChainIsOfAnotherGraph
chain_is_of_another_graph after limit path run list (main, table, edges, rows, found, exact, one) = elim one.chain_is [
  | inr (none, says) ↦ not_refused _ _ says refl
  | inl (s, steps, row, chain, says) ↦ (
      let same_graph : AreSame (among edges) (IsEdge (run_of main table run.answers.asked)) = λ t y. exact.each (edge t y) in
      let walk =
      chain_walk _ (same_chain _ _ same_graph chain) in
      let (own, same) = steps_are run _ table found _ walk (codes "m") (Of b_one ∷ []) m_has_no_feed to_b_proper
      (sym (same_text _ _ says)) in
      let there : Contains steps (Of b_one) = rw same (member_tail FromMain _ (Of b_one ∷ []) (member_head (Of b_one) [])) in
      let (t, end) = walk_step _ (chain_walk _ chain) _ there in
      b_is_no_end t (edges_known _ _ _ _ found exact one.graph_is) end)
]
