-- What `list` prints is the build list, in pages or at once.
use Rattle.std.proofs.Common.{◌≡◌, ◌≢◌, ◌∙◌, ◌⊎◌, ◌<◌, ℕ, false, List, [], ◌∷◌, ◌++◌, take, map, Option, Some, None, Contains, ap, sym, refl, subst, inl, inr, arith}
use Rattle.std.specs.List.{flat_map}
use Rattle.std.specs.Ordering.{is_gt}
use Rattle.std.proofs.Math.Seq.{take-nil}
use Rattle.std.proofs.lemmas.Bool.{cases_Bool}
use Rattle.std.proofs.lemmas.Grind.{flat_map-append}
use Rattle.gm_version.specs.Version.{version_cmp}
use Rattle.gm_name.specs.ModuleVersion.{ModuleVersion}
use Rattle.gm_name.proofs.Texts.{bytes_eq-differ, bytes_eq-same}
use Rattle.gm_file.specs.Main.{Main, replacement_in}
use Rattle.gm_store_sums.specs.Sums.{Sums}
use Rattle.gm_file.specs.Directives.{Right}
use Rattle.gm_graph_select.specs.declared.step.Edge.{Edge}
use Rattle.gm_graph_select.specs.declared.step.Step.TheVariants.{Main as FromMain}
use Rattle.gm_graph_select.specs.BuildList.{IsBuildList, IsRestAfter, IsSelected}
use Rattle.gm_graph.specs.Entries.{Entry}
use Rattle.gm_graph_select.specs.Graph.{Edges, IsEdgeEnd, among, edge}
use Rattle.gm_graph_select.specs.Laws.{ArePages as AreRowPages, entries_of_pages, no_more, one_more}
use Rattle.gm_graph_select.proofs.Ascending.{member_cases, member_head, member_tail, no_member}
use Rattle.gm_graph_select.proofs.Lawful.{pages_exist, pages_join as rows_join, row_selected, rows_satisfy}
use Rattle.gm_graph_select.proofs.Same.{AreSame, same_back, same_build_list}
use Rattle.gm_graph.specs.Run.{AreRows, IsEdge, IsVertex}
use Rattle.gm_graph_cache.specs.Sayings.{Run, run_of}
use Rattle.gm_graph_select.proofs.RankedLists.{from_mapped, in_mapped}
use Rattle.gomod_texts.specs.QueryLaws.{AreGreatest, ArePrintedPages, ListIsBuildList, PrintedPagesJoin, no_row, one_page}
use Rattle.gomod_texts.specs.Queries.{AreFound, Given, Prints, QueryEnds, bad_main, bad_sums, device, faulty, no_fault, too_many}
use Rattle.gomod_texts.specs.ListQuery.{ListEnds, PrintsList, PrintsRows, no_path, path_listed, path_unlisted, up_to, list_text}
use Rattle.gomod_texts.specs.Outcome.{Outcome, failure_outcome, text_outcome, refusal_outcome}
use Rattle.gomod_texts.proofs.FewOpened.{IsFew, edges_listed}

-- ---- a run that prints

abbrev pub Printed : Prints → Given → Outcome → Type 0
Printed prints run outcome = (main : Main) × (table : Option Sums) × AreFound run main table [] × prints (run_of main table run.answers.asked) outcome

pub not_refused : (report : List ℕ) (outcome : Outcome) → outcome ≡ refusal_outcome report → outcome.status ≡ 0 → ⊥
not_refused report outcome same is = let code = ap (λ o. o.status) same in omega (arith, code, is)

pub not_failed : (report : List ℕ) (outcome : Outcome) → outcome ≡ failure_outcome report → outcome.status ≡ 0 → ⊥
not_failed report outcome same is = let code = ap (λ o. o.status) same in omega (arith, code, is)

pub printed_run : (prints : Prints) (run : Given) (outcome : Outcome) → QueryEnds prints run outcome → outcome.status ≡ 0 → Printed prints run outcome
printed_run prints run outcome (bad_main place misread none says) is = absurd (not_refused _ outcome says is)
printed_run prints run outcome (bad_sums main report reads misread none says) is = absurd (not_refused _ outcome says is)
printed_run prints run outcome (device main table name are due one says) is = absurd (not_failed _ outcome says is)
printed_run prints run outcome (too_many main table are read over none says) is = absurd (not_refused _ _ says is)
printed_run prints run outcome (faulty main table first others found says) is = absurd (not_refused _ _ says is)
printed_run prints run outcome (no_fault main table found says) is = (main, table, found, says)

-- without a path all rows are printed
pub all_rows : (main : Main) (rows : List Entry) (limit : Option ℕ) (outcome : Outcome)
    → PrintsRows main rows None limit outcome → outcome ≡ text_outcome (list_text main.path (up_to limit rows))
all_rows main rows limit outcome (no_path none says) = says
all_rows main rows limit outcome (path_listed path others given at says) = absurd (cc given)
all_rows main rows limit outcome (path_unlisted path given says) = absurd (cc given)

-- ---- the build list of edges that are given as a relation

with_path : (path : List ℕ) (xs : List ModuleVersion) → ((x : ModuleVersion) × Contains xs x × (x.0 ≡ path))
    ⊎ ((x : ModuleVersion) → Contains xs x → x.0 ≢ path)
with_path path [] = inr (λ x there. absurd (no_member x there))
with_path path (first ∷ xs) = elim (cases_Bool _) [
  | inl same ↦ inl (first, member_head first xs, bytes_eq-same first.0 path same)
  | inr other ↦ elim (with_path path xs) [
    | inl found ↦ inl (found.0, member_tail first found.0 xs found.1, found.2)
    | inr none ↦ inr (λ x there. elim (member_cases _ x xs there) [
      | inl same ↦ subst (λ z. z.0 ≢ path) same (bytes_eq-differ _ _ other)
      | inr behind ↦ none x behind
    ])
  ]
]

module _ (run : Run) (few : IsFew run) (rows : List Entry) (list : AreRows run rows) where
  abbrev Satisfied : ModuleVersion → Type 0
  Satisfied y = (x : ModuleVersion) × Contains list.selected x × (x.0 ≡ y.0) × (is_gt (version_cmp y.1 x.1) ≡ false)

  satisfied : (y : ModuleVersion) → IsVertex run y → y.0 ≢ run.main.path → Satisfied y
  satisfied y (from, is) apart = elim (with_path y.0 list.selected) [
    | inl found ↦ (found.0, found.1, found.2, ((list.each found.0).0 found.1).greatest y (from, is) (sym found.2))
    | inr none ↦ absurd (edges_listed run few (listed none))
  ]
    where
      listed : ((x : ModuleVersion) → Contains list.selected x → x.0 ≢ y.0) → (edges : List Edge) → AreSame (among edges) (IsEdge run) → ⊥
      listed none edges same =
          let among_list : IsBuildList run.main.path (replacement_in run.main) (among edges) rows =
          same_build_list (IsEdge run) (among edges) (same_back (among edges) (IsEdge run) same) list in
          let (x, right, row, path, high) = rows_satisfy run.main.path (replacement_in run.main) edges rows among_list y (from, (same from y).1 is) apart in
          none x ((list.each x).1 (row_selected list x right row)) path

  pub greatest : AreGreatest run list.selected
  greatest = record {
    ascending = list.ascending;
    not_main = λ x there. ((list.each x).0 there).not_main;
    required = λ x there. ((list.each x).0 there).is_end;
    satisfied = satisfied;
  }

pub list_is_build_list : ListIsBuildList
list_is_build_list run outcome is ends =
    let (main, table, found, (rows, list, says)) = printed_run (PrintsList None None) run outcome is ends in (
      main,
      table,
      list.selected,
      found,
      greatest (run_of main table run.answers.asked) found.settled.few rows list,
      all_rows main rows None outcome says ∙ ap (λ (es : List Entry). text_outcome (list_text main.path es)) list.entries_are,
    )

-- ---- pages

-- the selected vertices as edges from the main module have the same build list
module _ (main : List ℕ) (replaces : ModuleVersion → Option Right) (E : Edges) (rows : List Entry) (list : IsBuildList main replaces E rows) where
  abbrev own_edges : List Edge
  own_edges = map (edge FromMain) list.selected

  own_end : (x : ModuleVersion) → IsEdgeEnd (among own_edges) x → Contains list.selected x
  own_end x (s, there) =
      let (z, inside, same) = from_mapped _ _ _ there in
      subst (λ (w : ModuleVersion). Contains list.selected w) (ap (λ e. e.to) same) inside

  own_selected : (x : ModuleVersion) → Contains list.selected x → IsSelected main (among own_edges) x
  own_selected x there =
      let is = (list.each x).0 there in record {
        not_main = is.not_main;
        is_end = (FromMain, in_mapped _ _ x there);
        greatest = λ y end same. is.greatest y ((list.each y).0 (own_end y end)).is_end same;
      }

  own_list : IsBuildList main replaces (among own_edges) rows
  own_list = record {
    selected = list.selected;
    entries_are = list.entries_are;
    ascending = list.ascending;
    each = λ x. (own_selected x, (λ is. own_end x is.is_end));
  }

  pub row_pages : (n : ℕ) → 0 < n → (pages : List (List Entry)) × AreRowPages main rows n rows pages × (entries_of_pages pages ≡ rows)
  row_pages n some =
      let (pages, are) = pages_exist main replaces own_edges rows n some own_list in
      (pages, are, rows_join main replaces own_edges rows n pages own_list are)

pub texts_join : (main : List ℕ) (pages : List (List Entry)) → list_text main (entries_of_pages pages) ≡ flat_map (list_text main) pages
texts_join main [] = refl
texts_join main (page ∷ pages) = flat_map-append _ page _ ∙ ap (λ t. list_text main page ++ t) (texts_join _ pages)

module _ (run : Given) (main : Main) (table : Option Sums) (found : AreFound run main table []) (rows : List Entry)
    (list : AreRows (run_of main table run.answers.asked) rows) (n : ℕ) where
  -- the rows that remain after a path, or all rows
  abbrev AreLeft : Option (List ℕ) → List Entry → Type 0
  AreLeft None left = left ≡ rows
  AreLeft (Some path) left = IsRestAfter main.path rows path left

  page_printed : (after : Option (List ℕ)) (left : List Entry) → AreLeft after left
      → ListEnds after (Some n) run (text_outcome (list_text main.path (take n left)))
  page_printed None left is = no_fault _ _ found (rows, list, no_path refl (ap (λ es. text_outcome (list_text main.path (take n es))) is))
  page_printed (Some path) left is = no_fault _ _ found (rows, list, path_listed _ _ refl is refl)

  paged : {left : List Entry} {pages : List (List Entry)} (after : Option (List ℕ)) → AreLeft after left
      → AreRowPages main.path rows n left pages → ArePrintedPages run main.path n after pages
  paged after is no_more = no_row (rw take-nil at (page_printed after [] is))
  paged after is (one_more {left} {rest} {pages} front last page behind more) =
      rw page (one_page _ _ (rw page at (page_printed _ _ is)) (paged _ behind more))

pub pages_join : PrintedPagesJoin
pages_join run n whole some is ends =
    let (main, table, found, (rows, list, says)) = printed_run _ run _ is ends in
    let r = run_of main _ _ in
    let (pages, paging, joins) = row_pages main.path (replacement_in main) (IsEdge r) rows list n some in (
      main,
      table,
      pages,
      found,
      rw joins list,
      paged run main table found rows list n None refl paging,
      ap (λ o. o.text) (all_rows main rows None whole says) ∙ ap (list_text main.path) (sym joins) ∙ texts_join _ pages,
    )
