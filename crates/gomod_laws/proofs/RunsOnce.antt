-- A run is determined: two outcomes that the statement allows of one input are one, also over two stores that answer
-- alike.
use Rattle.std.proofs.Common.{◌≡◌, ◌≢◌, ◌∙◌, ◌⊎◌, ◌∷◌, ℕ, List, [], Option, None, ap, refl, subst, sym, arith, inl, inr}
use Rattle.gm_store_parts.specs.Asked.{Name}
use Rattle.gm_store_sums.specs.Sums.{Sums}
use Rattle.gm_file.specs.Main.{Main}
use Rattle.gm_graph_select.proofs.Ascending.{same_lists}
use Rattle.gm_graph_select.proofs.Lawful.{same_build_lists}
use Rattle.gm_graph_select.proofs.Same.{AreSame, same_back, same_build_list, same_chain}
use Rattle.gm_graph_select.specs.Graph.{Edges, among, edge}
use Rattle.gm_graph_select.specs.declared.step.Edge.{Edge}
use Rattle.gm_graph.specs.Entries.{Entry}
use Rattle.gm_graph.specs.declared.fault.Fault.{Fault}
use Rattle.gm_graph.specs.Run.{AreFaults, AreTooMany, IsEdge}
use Rattle.gm_graph_cache.specs.Sayings.{Run, run_of}
use Rattle.gomod_laws.proofs.GraphLawProofs.{faults_total}
use Rattle.gm_graph.proofs.RunLemmas.{Agrees, fault, same_edges, too_many as many_stay}
use Rattle.gomod_words.specs.declared.usage.Command.{Command}
use Rattle.gomod_words.specs.declared.usage.Command.TheVariants.{Fmt, Edit, Versions, List as Rows, Chain}
use Rattle.gomod_texts.specs.ChainQuery.{ShowsChain}
use Rattle.gomod_texts.specs.GraphQuery.{PrintsGraph}
use Rattle.gomod_texts.specs.ListQuery.{PrintsList}
use Rattle.gomod_texts.specs.Outcome.{Outcome, failure_outcome, refusal_outcome, text_outcome}
use Rattle.gomod_outcomes.specs.Private.ByCommand.{PrintsOf}
use Rattle.gomod_outcomes.specs.Private.Found.{ReportsFaultsOr}
use Rattle.gomod_outcomes.specs.Private.Refusals.{IsRefusedRead}
use Rattle.gomod_texts.specs.Queries.{AreFound, FilesReadAs, Given, Prints, QueryEnds, no_fault}
use Rattle.gomod_texts.specs.QueryLaws.{AreAlike}
use Rattle.gomod_texts.specs.Reports.{FaultPlace, device_line, main_line}
use Rattle.gomod_texts.proofs.FewOpened.{IsFew}
use Rattle.gomod_texts.proofs.StoresAgree.{alike_reversed, itself, read_as_well, stores_agree}
use Rattle.gomod_texts.proofs.PrintedList.{all_rows, not_failed, not_refused, printed_run}
use Rattle.gomod_outcomes.proofs.QueryParts.{LoadingEnd, Parts, are_read, is_broken, is_known, is_many, parts, unread}
use Rattle.gomod_laws.specs.DeterminedLaws.{OneForStores, OneGraph, OneOutcome, OneRefusal, PartsOfOneList}
use Rattle.gomod_laws.proofs.FilesOnce.{edit_once, fmt_once, misread_or_main, misread_or_sums, one_misreport, one_place}
use Rattle.gomod_laws.proofs.LineOrderSame.{SayTheSame, says_itself}
use Rattle.gomod_laws.proofs.PrintsOnce.{prints_once}
use Rattle.gomod_laws.proofs.RunsAlike.{printed_by_edges}
use Rattle.gomod_laws.proofs.VersionsOnce.{versions_once}

-- ---- two queries

-- Both queries report the same, and neither prints.
abbrev Refuse : Outcome → Outcome → Type 0
Refuse a b = (a ≡ b) × (a.status ≢ 0)

-- Both print, of runs with one main file and the same edges, the second of which opens few modules.
record BothPrint (prints others : Prints) (a b : Outcome) : Type 0 where
  one : Run
  other : Run
  main_is : one.main ≡ other.main
  edges : AreSame (IsEdge one) (IsEdge other)
  few : IsFew other
  shows : prints one a
  tells : others other b

one_faults : (r s : Run) {faults others : List Fault} → Agrees r s → Agrees s r → AreFaults r faults → AreFaults s others → faults ≡ others
one_faults r s into from is be = same_lists faults_total _ _ is.ascending be.ascending (λ f. (
  (λ there. (be.each f).1 (fault r s into f ((is.each f).0 there))),
  (λ there. (is.each f).1 (fault s r from f ((be.each f).0 there))),
))

one_refusal : (file : List ℕ) (sums : Option (List ℕ)) (a b : Outcome) → IsRefusedRead file sums a → IsRefusedRead file sums b → Refuse a b
one_refusal file sums a b (inl (here, misread, says)) (inl (there, other, tells)) = (
  says ∙ ap (λ (place : FaultPlace). refusal_outcome (main_line place)) (one_place _ _ _ misread other) ∙ sym tells,
  not_refused _ a says,
)
one_refusal file sums a b (inl (here, misread, says)) (inr (main, report, is, other, tells)) = absurd (misread_or_main _ _ _ misread is)
one_refusal file sums a b (inr (main, report, is, misread, says)) (inl (there, other, tells)) = absurd (misread_or_main _ _ _ other is)
one_refusal file sums a b (inr (main, report, is, misread, says)) (inr (again, line, be, other, tells)) =
    (says ∙ ap refusal_outcome (one_misreport _ _ _ misread other) ∙ sym tells, not_refused _ a says)

not_unread : {file : List ℕ} {sums : Option (List ℕ)} {outcome : Outcome} {main : Main} {table : Option Sums}
    → IsRefusedRead file sums outcome → FilesReadAs file sums main table → ⊥
not_unread {file} {sums} {outcome} {main} {table} (inl (place, misread, says)) are = misread_or_main _ _ _ misread are.main_file
not_unread {file} {sums} {outcome} {main} {table} (inr (other, report, is, misread, says)) are = misread_or_sums _ _ _ misread are.sums

-- too many modules are opened by the one run, so the other can't have found the faults of all
not_many : {one other : Given} {main again : Main} {table next : Option Sums} {faults : List Fault} → AreAlike one other
    → FilesReadAs one.file one.sums main table
    → AreTooMany (run_of main table one.answers.asked) → AreFound other again next faults → ⊥
not_many {one} {other} {main} {again} {table} {next} alike read many found =
    let (xs, long, are) = many_stay _ _ (stores_agree _ _ _ _ _ _ alike read found.read found.settled) many in
    omega (arith, long, found.settled.few xs are)

abbrev Meet : Prints → Prints → Outcome → Outcome → Type 0
Meet prints others a b = Refuse a b ⊎ BothPrint prints others a b

module _ {prints others : Prints} {one other : Given} {a b : Outcome} (alike : AreAlike one other) where
  both_known : {main again : Main} {table next : Option Sums} (faults more : List Fault)
      → AreFound one main table faults → AreFound other again next more
      → ReportsFaultsOr faults (prints (run_of main table one.answers.asked) a) a
      → ReportsFaultsOr more (others (run_of again next other.answers.asked) b) b → Meet prints others a b
  both_known {main} {again} {table} {next} faults more found finds says tells =
      let same = one_faults r s into from found.faults_are finds.faults_are in
      by _ (rw same at found) finds (rw same at says) tells
    where
      r : Run
      r = run_of main table one.answers.asked

      s : Run
      s = run_of again next other.answers.asked

      into : Agrees r s
      into = stores_agree _ _ _ _ _ _ alike found.read finds.read finds.settled

      from : Agrees s r
      from = stores_agree _ _ _ _ _ _ (alike_reversed _ _ alike) finds.read found.read found.settled

      by : (more : List Fault) → AreFound one main table more → AreFound other again next more
          → ReportsFaultsOr more (prints r a) a → ReportsFaultsOr more (others s b) b → Meet prints others a b
      by [] found finds shows tells = inr (record {
        one = r;
        other = s;
        main_is = into.main_is;
        edges = same_edges r s into from;
        few = finds.settled.few;
        shows = shows;
        tells = tells;
      })
      by (first ∷ more) found finds says tells = inl (says ∙ sym tells, not_refused _ a says)

  module _ {main again : Main} {table next : Option Sums} (read : FilesReadAs one.file one.sums main table)
      (reads : FilesReadAs other.file other.sums again next) where
    loading_ends : LoadingEnd prints one main table a → LoadingEnd others other again next b → Meet prints others a b
    loading_ends (is_many seen over none says) (is_many sees beyond nothing tells) = inl (says ∙ sym tells, not_refused _ a says)
    loading_ends (is_many seen over none says) (is_broken name due some tells) = absurd (cc (none, some, alike.failed))
    loading_ends (is_many seen over none says) (is_known faults finds tells) = absurd (not_many alike read over finds)
    loading_ends (is_broken name due some says) (is_many sees over none tells) = absurd (cc (some, none, alike.failed))
    loading_ends (is_broken name due some says) (is_broken late dues more tells) =
        let same : name ≡ late = cc (some, more, alike.failed) in
        inl (says ∙ ap (λ (n : Name). failure_outcome (device_line n)) same ∙ sym tells, not_failed _ a says)
    loading_ends (is_broken name due some says) (is_known faults finds tells) = absurd (cc (some, finds.none_failed, alike.failed))
    loading_ends (is_known faults found says) (is_many sees over none tells) = absurd (not_many (alike_reversed _ _ alike) reads over found)
    loading_ends (is_known faults found says) (is_broken name due some tells) = absurd (cc (found.none_failed, some, alike.failed))
    loading_ends (is_known faults found says) (is_known more finds tells) = both_known _ _ found finds says tells

  meet : QueryEnds prints one a → QueryEnds others other b → Meet prints others a b
  meet is be = by (parts _ _ a is) (parts _ _ b be)
    where
      by : Parts prints one a → Parts others other b → Meet prints others a b
      by (unread is none) (unread be nothing) = inl (one_refusal _ _ a b (rw (alike.file, alike.sums) at is) be)
      by (unread is none) (are_read main table are over) = absurd (not_unread (rw (alike.file, alike.sums) at is) are)
      by (are_read main table are over) (unread be nothing) = absurd (not_unread be (read_as_well _ _ _ _ alike are))
      by (are_read main table are over) (are_read again next were beyond) = loading_ends are were over beyond

-- ---- a query

-- what a query prints of a run, it prints of one with the same main file and edges
prints_same : {r s : Run} → r.main ≡ s.main → AreSame (IsEdge r) (IsEdge s) → (command : Command) (outcome : Outcome)
    → PrintsOf command r outcome → PrintsOf command s outcome
prints_same {r} {s} same edges = printed_by_edges r s (subst (SayTheSame r.main) same (says_itself _)) edges

-- a query ends in one way over stores that answer alike
pub query_once : (command : Command) {run next : Given} (a b : Outcome) → AreAlike run next
    → QueryEnds (PrintsOf command) run a → QueryEnds (PrintsOf command) next b → a ≡ b
query_once command a b alike is be = elim (meet alike is be) [
  | inl refuse ↦ refuse.0
  | inr both ↦ prints_once _ _ a b both.few (prints_same both.main_is both.edges _ a both.shows) both.tells
]

-- ---- a command

pub one_for_stores : OneForStores
one_for_stores Fmt run next a b alike is be = fmt_once _ a b (rw alike.file at is) be
one_for_stores (Edit operations) run next a b alike is be = edit_once _ _ a b (rw alike.file at is) be
one_for_stores (Versions path all) run next a b alike is be =
    versions_once _ _ _ _ (λ name x y need. alike.answers name x y)
    _ a b (rw alike.failed at is) be
one_for_stores command run next a b alike is be = query_once command a b alike is be

pub one_outcome : OneOutcome
one_outcome command run a b is be = one_for_stores command run run a b (itself _) is be

-- ---- several queries over one run

-- if the modules have no fault, a query prints of what was found
also_printed : (command : Command) (run : Given) (main : Main) (table : Option Sums) (outcome : Outcome) → AreFound run main table []
    → QueryEnds (PrintsOf command) run outcome → PrintsOf command (run_of main table run.answers.asked) outcome
also_printed command run main table outcome found is =
    elim (meet {prints = λ r it. r ≡ run_of main table run.answers.asked} {a = text_outcome []} (itself run) (no_fault _ _ found refl) is) [
      | inl refuse ↦ absurd (refuse.1 refl)
      | inr both ↦ rw both.shows at (prints_same (sym both.main_is) (same_back _ _ both.edges) _ _ both.tells)
    ]

-- if `graph` reports an error, a query reports the same
refused_too : (command : Command) {run : Given} {graph outcome : Outcome} → QueryEnds PrintsGraph run graph → graph.status ≢ 0
    → QueryEnds (PrintsOf command) run outcome → outcome ≡ graph
refused_too command is bad ends = elim (meet (itself _) is ends) [
  | inl refuse ↦ sym refuse.0
  | inr both ↦ (let (edges, are, says) = both.shows in absurd (bad (ap (λ o. o.status) says)))
]

pub one_graph : OneGraph
one_graph after limit path run graph list chain is_graph is_list is_chain ends =
    let (main, table, found, (edges, exact, says)) = printed_run PrintsGraph run graph is_graph ends in
    let (rows, listed, shows) = also_printed (Rows after limit) run main table list found is_list in
    let (others, selected, tells) = also_printed (Chain path) run main table chain found is_chain in
    let here = IsEdge (run_of main table run.answers.asked) in
    let among_here = same_back (among edges) here (λ s y. exact.each (edge s y)) in
    let rows_same = same_build_lists selected listed in (
      main,
      table,
      edges,
      rows,
      found,
      exact,
      record {
        build_list = same_build_list _ _ among_here listed;
        graph_is = says;
        list_is = shows;
        chain_is = chain_among main _ _ among_here (rw rows_same at tells);
      },
    )
  where
    chain_among : (main : Main) (edges : List Edge) (rows : List Entry) {here : Edges} → AreSame here (among edges)
        → ShowsChain path main here rows chain → ShowsChain path main (among edges) rows chain
    chain_among main edges rows {here} same (inl (s, steps, entry, is, says)) = inl (s, steps, entry, same_chain _ _ same is, says)
    chain_among main edges rows same (inr none) = inr none

pub graph_refused : OneRefusal
graph_refused after limit path run graph list chain is_graph is_list is_chain ends =
    (refused_too (Rows after limit) is_graph ends is_list, refused_too (Chain path) is_graph ends is_chain)

pub parts_of_one_list : PartsOfOneList
parts_of_one_list after limit run whole part is_whole is_part ends =
    let (main, table, found, (rows, list, says)) = printed_run (PrintsList None None) run whole is_whole ends in
    let (others, listed, shows) = also_printed (Rows after limit) run main table part found is_part in
    let rows_same : others ≡ rows = same_build_lists listed list in
    (main, table, rows, found, list, all_rows _ _ _ _ says, rw rows_same at shows)
