-- What the laws on `list` conclude is false of lists that contradict them.
use Rattle.std.proofs.Common.{◌≡◌, ◌≢◌, ◌∙◌, ◌∷◌, ◌++◌, ℕ, false, List, [], Option, Some, None, Contains, ap, arith, codes, length, map, refl, subst, sym}
use Rattle.std.specs.Prelude.{nat_lt}
use Rattle.std.specs.List.{AllByRecursion}
use Rattle.std.specs.Ordering.{is_gt}
use Rattle.std.proofs.lemmas.Bool.{false≢true}
use Rattle.std.proofs.lemmas.List.{same_from_push}
use Rattle.std.proofs.lemmas.List.Elements.{Contains-append_left, Contains-append_right}
use Rattle.gm_name.specs.Path.{IsPath}
use Rattle.gm_version.specs.Version.{IsVersion, version_cmp}
use Rattle.gm_name.specs.ModuleVersion.{ModuleVersion}
use Rattle.gm_file.specs.Main.{Main, IsMainFile, replacement_in}
use Rattle.gm_store_sums.specs.Sums.{Sums}
use Rattle.gm_file.specs.Directives.{Right}
use Rattle.gm_graph.specs.Run.{AreRows}
use Rattle.gm_graph_cache.specs.Sayings.{run_of}
use Rattle.gm_graph_select.specs.declared.step.Step.TheVariants.{Main as FromMain, Of}
use Rattle.gm_graph_select.specs.BuildList.{entry_of, main_entry, path_of}
use Rattle.gm_graph.specs.Entries.{Entry}
use Rattle.gm_graph_select.specs.Laws.{entries_of_pages}
use Rattle.gm_graph_select.proofs.Ascending.{member_head, member_tail, no_member, one_member}
use Rattle.gomod_texts.specs.QueryLaws.{AreGreatest, ArePrintedPages, JoinsPages, ShowsBuildList, no_row, one_page}
use Rattle.gomod_texts.specs.Queries.{AreFound, Given}
use Rattle.gomod_texts.specs.ListQuery.{ListEnds, no_path, path_listed, path_unlisted, up_to, list_text}
use Rattle.gomod_texts.specs.Outcome.{Outcome, text_outcome}
use Rattle.gomod_texts.specs.PrintedLines.{AreProperRows, IsProperRow}
use Rattle.gomod_run.proofs.GreatestRows.{as_build_list}
use Rattle.gomod_run.proofs.ListLines.{Lacks, cut_at, lacks, path_has_no_blank, text_says_rows}
use Rattle.gomod_texts.proofs.OneRead.{one_main}
use Rattle.gomod_laws.proofs.RunsOnce.{one_outcome}
use Rattle.gomod_texts.proofs.PrintedList.{all_rows, not_refused, texts_join}
use Rattle.gomod_texts.proofs.RunNames.{run_has_proper_rows}
use Rattle.gomod_words.specs.declared.usage.Command.TheVariants.{List as Rows}
use Rattle.gomod_laws.specs.Counterexamples.{a_one, list_of_a}
use Rattle.gomod_laws.specs.CounterListings.{IsRequiredBy, MainIsMissing, PageHasAnotherRow, PageIsMissing, PartHasAnotherRow, PartIsTheWhole, PartIsTooLong, PathIsTwice, RequiredHasNoRow, RowIsNotRequired, RowIsTooLow, RowsAreUnordered, a_two}
use Rattle.gomod_laws.proofs.Contradicted.{a_is_path, b_is_path, m_has_no_feed, main_is_no_of, of_name, other_name}
use Rattle.gomod_laws.proofs.ExampleEdges.{none_leads}
use Rattle.gomod_laws.proofs.KnownVersions.{one_one_is, one_one_is_above, one_zero_is}
use Rattle.gomod_laws.proofs.PrintedRow.{limited_member, printed_rows}
use Rattle.gomod_laws.proofs.ShownTexts as begun
use Rattle.gomod_laws.proofs.ShownTexts.{first_row, own_path, same_text}
use Rattle.gomod_laws.proofs.WrittenLists.{each_of}
use Rattle.gm_file_edit.proofs.NoLineFeeds.{path-plain}

-- ---- lists of rows

abbrev pub b_one : ModuleVersion
b_one = (codes "b.c", codes "v1.0.0")

-- the row of a module that is not replaced
abbrev row_at : ModuleVersion → Entry
row_at x = (Of x, None)

a_proper : IsProperRow (row_at a_one)
a_proper = (a_is_path, one_zero_is, tt)

b_proper : IsProperRow (row_at b_one)
b_proper = (b_is_path, one_zero_is, tt)

row_same : (x y : ModuleVersion) → row_at x ≡ row_at y → x ≡ y
row_same x y e = of_name x y (ap (λ row. row.0) e)

main_is_no_row : (x : ModuleVersion) → main_entry ≡ row_at x → ⊥
main_is_no_row x e = main_is_no_of x (ap (λ row. row.0) e)

pub a_is_not_b : a_one ≡ b_one → ⊥
a_is_not_b e = other_name (ap (λ (x : ModuleVersion). x.0) e)

abbrev rows_with_a : List Entry
rows_with_a = main_entry ∷ row_at a_one ∷ []

with_a_proper : AreProperRows rows_with_a
with_a_proper = each_of IsProperRow rows_with_a (refl, (a_proper, tt))

b_is_no_row : Contains rows_with_a (row_at b_one) → ⊥
b_is_no_row there =
    each_of (λ row. row ≢ row_at b_one) rows_with_a (main_is_no_row b_one, ((λ e. a_is_not_b (row_same _ _ e)), tt)) (row_at b_one) there refl

-- ---- the rows of a text

module _ (run : Given) (main : Main) (table : Option Sums) (rows : List Entry) (found : AreFound run main table [])
    (are : AreRows (run_of main table run.answers.asked) rows) where
  -- rows with this text are these rows, and the main module is m
  pub rows_are : (known : List Entry) → AreProperRows (main_entry ∷ known) → list_text main.path rows ≡ list_text (codes "m") (main_entry ∷ known)
      → (main.path ≡ codes "m") × (rows ≡ main_entry ∷ known)
  rows_are known proper e = begun.rows_are _ main table found (codes "m") rows known m_has_no_feed proper are e

  -- some of the rows with the text of these rows are these rows
  some_are : (shown known : List Entry) → ((row : Entry) → Contains shown row → Contains rows row) → AreProperRows known
      → list_text main.path shown ≡ list_text main.path known → shown ≡ known
  some_are shown known inside proper e =
      text_says_rows _ (own_path run main table found) shown known
      (λ row there. run_has_proper_rows run main table rows found.read are row (inside row there)) proper e

-- ---- build lists

two_is_above : is_gt (version_cmp (codes "v1.1.0") (codes "v1.0.0")) ≡ false → ⊥
two_is_above e = false≢true (sym e ∙ ap is_gt one_one_is_above)

abbrev IsName : ModuleVersion → Type 0
IsName x = IsPath x.0 × IsVersion x.1

heads_same : {x y : Entry} {xs ys : List Entry} → x ∷ xs ≡ y ∷ ys → x ≡ y
heads_same e = cc e

tails_same : (x y : Entry) (xs ys : List Entry) → x ∷ xs ≡ y ∷ ys → xs ≡ ys
tails_same x y xs ys e = cc e

vertices_are : (replaces : ModuleVersion → Option Right) (xs ys : List ModuleVersion) → map (entry_of replaces) xs ≡ map row_at ys → xs ≡ ys
vertices_are replaces [] [] e = refl
vertices_are replaces [] (y ∷ ys) e = absurd (cc e)
vertices_are replaces (x ∷ xs) [] e = absurd (cc e)
vertices_are replaces (x ∷ xs) (y ∷ ys) e =
    let head = heads_same e in
    let same = of_name x y (ap (λ row. row.0) head) in
    let rest = tails_same _ _ _ _ e in
    ap (λ z. z ∷ xs) same ∙ ap (λ zs. y ∷ zs) (vertices_are _ _ _ rest)

names_proper : (known : List ModuleVersion) → AllByRecursion IsName known → AllByRecursion IsProperRow (map row_at known)
names_proper [] names = tt
names_proper (x ∷ known) names = ((names.0.0, names.0.1, tt), names_proper known names.1)

-- a build list with this text selects these modules
record Selects (run : Given) (known : List ModuleVersion) : Type 0 where
  main : Main
  table : Option Sums
  found : AreFound run main table []
  own : main.path ≡ codes "m"
  greatest : AreGreatest (run_of main table run.answers.asked) known

selects : {run : Given} {text : List ℕ} (known : List ModuleVersion) → AllByRecursion IsName known
    → text ≡ list_text (codes "m") (main_entry ∷ map row_at known)
    → ShowsBuildList run (text_outcome text) → Selects run known
selects {run} known names is (main, table, selected, found, greatest, says) =
    let r = run_of _ _ run.answers.asked in
    let rows = main_entry ∷ map (entry_of (replacement_in main)) selected in
    let are = as_build_list r selected greatest in
    let proper = each_of IsProperRow (main_entry ∷ map row_at known) (refl, names_proper _ names) in
    let (own, same) = rows_are _ _ table _ found are _ proper (sym (same_text _ _ says) ∙ is) in
    let modules = vertices_are _ _ _ (tails_same _ _ _ _ same) in
    record { main = main; table = table; found = found; own = own; greatest = rw modules at greatest }

a_name : IsName a_one
a_name = (a_is_path, one_zero_is)

b_name : IsName b_one
b_name = (b_is_path, one_zero_is)

two_name : IsName a_two
two_name = (a_is_path, one_one_is)

pub path_is_twice : PathIsTwice
path_is_twice run shows =
    let s = selects (a_one ∷ a_two ∷ []) (a_name, (two_name, tt)) refl shows in
    let below = s.greatest.ascending 0 1 a_one (omega arith) (omega arith) in cc below

pub rows_are_unordered : RowsAreUnordered
rows_are_unordered run shows =
    let s = selects (b_one ∷ a_one ∷ []) (b_name, (a_name, tt)) refl shows in
    let below = s.greatest.ascending 0 1 a_one (omega arith) (omega arith) in cc below

first_lacks : Lacks 10 (codes "a.b v1.0.0")
first_lacks = lacks 10 (λ b. nat_lt 10 b) refl (codes "a.b v1.0.0") refl

pub main_is_missing : MainIsMissing
main_is_missing run (main, table, selected, found, greatest, says) =
    let rows = main_entry ∷ map (entry_of (replacement_in main)) selected in
    let is = own_path run main table found in
    let rest = list_text main.path (map (entry_of (replacement_in main)) selected) in
    let text : codes "a.b v1.0.0" ++ (10 ∷ []) ≡ main.path ++ (10 ∷ rest) =
    same_text _ _ says ∙ first_row main.path (map (entry_of (replacement_in main)) selected) in
    let own = (cut_at 10 (codes "a.b v1.0.0") main.path [] rest first_lacks (path-plain _ is) text).0 in
    let plain : Lacks 32 (codes "a.b v1.0.0") = subst (Lacks 32) (sym own) (path_has_no_blank _ is) in
    plain.1.1.1.0 refl

same_main : (run : Given) {main other : Main} {table : Option Sums} → AreFound run other table [] → IsMainFile run.file main → main ≡ other
same_main run found is = one_main _ _ _ is found.read.main_file

a_is_not_main : {path : List ℕ} → path ≡ codes "m" → codes "a.b" ≡ path → ⊥
a_is_not_main own e = let first : ◌≡◌ {A = ℕ} 97 109 = cc (e ∙ own) in omega (arith, first)

pub row_is_too_low : RowIsTooLow
row_is_too_low run main is top shows =
    let s = selects (a_one ∷ []) (a_name, tt) refl shows in
    let here : IsRequiredBy s.main a_two = rw (same_main run s.found is) at top in
    let (x, there, path, high) = s.greatest.satisfied _ (FromMain, here) (a_is_not_main s.own) in
    two_is_above (rw (sym (one_member _ x there)) at high)

pub required_has_no_row : RequiredHasNoRow
required_has_no_row run main is top shows =
    let s = selects [] tt refl shows in
    let here : IsRequiredBy s.main a_one = rw (same_main _ s.found is) at top in
    let (x, there, path, high) = s.greatest.satisfied _ (FromMain, here) (a_is_not_main s.own) in
    no_member x there

pub row_is_not_required : RowIsNotRequired
row_is_not_required run main is nothing shows =
    let s = selects (a_one ∷ []) (a_name, tt) refl shows in
    let none : s.main.requirements ≡ [] = ap (λ (m : Main). m.requirements) (sym (same_main _ s.found is)) ∙ nothing in
    none_leads none _ (s.greatest.required a_one (member_head a_one []))

-- ---- parts

whole_is : (run : Given) (main : Main) (table : Option Sums) (rows : List Entry) → AreFound run main table []
    → AreRows (run_of main table run.answers.asked) rows
    → list_of_a ≡ text_outcome (list_text main.path rows) → (main.path ≡ codes "m") × (rows ≡ rows_with_a)
whole_is run main table rows found are says = rows_are _ _ table _ found are _ with_a_proper (sym (same_text _ _ says))

pub part_has_another_row : PartHasAnotherRow
part_has_another_row after limit run (main, table, rows, found, are, says, prints) =
    let (own, same) = whole_is _ _ _ _ found are says in
    let (shown, text, inside) = printed_rows refl prints in
    let is = some_are _ _ table _ found are _ (row_at b_one ∷ []) inside
    (each_of IsProperRow (row_at b_one ∷ []) (b_proper, tt)) (sym text) in
    let there : Contains shown (row_at b_one) = rw is (member_head _ []) in
    b_is_no_row (rw same at (inside (row_at b_one) there))

pub part_is_too_long : PartIsTooLong
part_is_too_long run (main, table, rows, found, are, says, prints) =
    let (own, same) = whole_is _ _ _ _ found are says in
    let one : list_of_a ≡ text_outcome (list_text (codes "m") (up_to (Some 1) rows_with_a)) =
    all_rows _ _ _ _ prints ∙ ap (λ (m : List ℕ). text_outcome (list_text m (up_to (Some 1) rows)))
    own ∙ ap (λ (es : List Entry). text_outcome (list_text (codes "m") (up_to (Some 1) es))) same in
    let size : ◌≡◌ {A = ℕ} 13 2 = ap (λ (o : Outcome). length o.text) one in
    omega (arith, size)

-- what follows a row of a list is in what follows the first row
later_rows : (before rest : List Entry) (entry first row : Entry) (others : List Entry)
    → before ++ entry ∷ rest ≡ first ∷ others → Contains rest row → Contains others row
later_rows [] rest entry first row others e there = rw (tails_same _ _ _ _ e) at there
later_rows (x ∷ before) rest entry first row others e there =
    subst (λ es. Contains es row) (tails_same x _ _ _ e)
    (Contains-append_right before _ _ (member_tail _ _ _ there))

main_is_not_later : Contains (row_at a_one ∷ []) main_entry → ⊥
main_is_not_later there = main_is_no_row _ (sym (one_member _ _ there))

pub part_is_the_whole : PartIsTheWhole
part_is_the_whole path limit run (main, table, rows, found, are, says, no_path none tells) = cc none
part_is_the_whole path limit run (main, table, rows, found, are, says, path_unlisted other is (none, tells)) =
    not_refused _ _ tells refl
part_is_the_whole path limit run (main, table, rows, found, are, says, path_listed other rest at_path (entry, at) tells) =
    let (own, same) = whole_is _ _ _ _ found are says in
    let inside : (row : Entry) → Contains (up_to limit rest) row → Contains rows row =
    λ row there. rw at.parts (Contains-append_right at.before (entry ∷ rest) row
    (member_tail entry row rest (limited_member limit rest row there))) in
    let text : list_text main.path (up_to limit rest) ≡ list_text main.path rows_with_a =
    sym (same_text (codes "m\na.b v1.0.0\n") (list_text main.path (up_to limit rest)) tells) ∙ ap (λ (m : List ℕ). list_text m rows_with_a) (sym own) in
    let is : up_to limit rest ≡ rows_with_a = some_are run main table rows found are (up_to limit rest) rows_with_a inside with_a_proper text in
    let there : Contains (up_to limit rest) main_entry = rw is (member_head main_entry (row_at a_one ∷ [])) in
    main_is_not_later (later_rows _ _ _ _ _ _ (sym at.parts ∙ same) (limited_member limit rest main_entry there))

-- ---- pages

no_last : (front : List Entry) (last : Entry) → front ++ last ∷ [] ≡ [] → ⊥
no_last [] last e = cc e
no_last (x ∷ front) last e = cc e

only_main : main_entry ∷ [] ≡ rows_with_a → ⊥
only_main e = cc e

m_proper : AreProperRows (main_entry ∷ [])
m_proper = each_of IsProperRow (main_entry ∷ []) (refl, tt)

-- rows that are no page behind the main module's row
abbrev AreNoPage : List Entry → Type 0
AreNoPage known = (front : List Entry) (last : Entry) → front ++ last ∷ [] ≡ known
    → ((row : Entry) → Contains known row → Contains rows_with_a row) → ⊥

-- no pages join to the list if the first is that of the main module and the text of the second that of such rows
module _ (run : Given) (main : Main) (table : Option Sums) (found : AreFound run main table []) (own : main.path ≡ codes "m")
    (known : List Entry) (proper : AreProperRows known) (never : AreNoPage known) where
  abbrev HasRows : List Entry → Type 0
  HasRows rows = AreRows (run_of main table run.answers.asked) rows

  abbrev HasPage : Option (List ℕ) → List Entry → Type 0
  HasPage after page = ListEnds after (Some 1) run (text_outcome (list_text (codes "m") page))

  page_is : {after : Option (List ℕ)} (rows page shown : List Entry) → HasRows rows → ((row : Entry) → Contains page row → Contains rows row)
      → AreProperRows shown → ListEnds after (Some 1) run (text_outcome (list_text main.path page)) → HasPage after shown → page ≡ shown
  page_is {after} rows page shown are inside named says is =
      let text = same_text _ _
      (one_outcome (Rows after (Some 1)) run (text_outcome (list_text main.path page)) (text_outcome (list_text (codes "m") shown)) says is) in
      some_are run _ table _ found are _ _ inside named (text ∙ ap (λ (m : List ℕ). list_text m shown) (sym own))

  second_page : {after : Option (List ℕ)} {pages : List (List Entry)} → HasRows (main_entry ∷ entries_of_pages pages)
      → main_entry ∷ entries_of_pages pages ≡ rows_with_a → HasPage after known → ArePrintedPages run main.path 1 after pages → ⊥
  second_page are joined is (no_row says) = only_main joined
  second_page are joined is (one_page {pages} front last says more) =
      let page = front ++ last ∷ [] in
      let inside : (row : Entry) → Contains page row → Contains (main_entry ∷ (page ++ entries_of_pages pages)) row =
      λ row there. member_tail _ _ _ (Contains-append_left _ _ _ there) in
      let same = page_is _ _ _ are inside proper says is in
      never front last same
      (λ row there. subst (λ es. Contains es row) joined (inside row (subst (λ es. Contains es row) (sym same) there)))

  first_page : {after : Option (List ℕ)} {pages : List (List Entry)} → HasRows (entries_of_pages pages) → entries_of_pages pages ≡ rows_with_a
      → HasPage after (main_entry ∷ []) → HasPage (Some (codes "m")) known → ArePrintedPages run main.path 1 after pages → ⊥
  first_page are joined first second (no_row says) = cc joined
  first_page are joined first second (one_page {pages} front last says more) =
      let page = front ++ last ∷ [] in
      let same = page_is _ _ _ are (λ row there. Contains-append_left _ _ _ there) m_proper says first in
      let path : path_of main.path last.0 ≡ codes "m" = ap (λ row. path_of main.path row.0) (same_from_push _ [] _ _ same).1 ∙ own in
      second_page (rw same at are) (ap (λ es. es ++ entries_of_pages pages) (sym same) ∙ joined) second (rw path at more)

no_pages : (known : List Entry) → AreProperRows known → AreNoPage known → (run : Given) → ListEnds None (Some 1) run (text_outcome (codes "m\n"))
    → ListEnds (Some (codes "m")) (Some 1) run (text_outcome (list_text (codes "m") known)) → JoinsPages 1 run list_of_a → ⊥
no_pages known proper never run first second (main, table, pages, found, are, paged, text) =
    let (own, same) = whole_is _ _ _ _ found are (ap text_outcome (text ∙ sym (texts_join main.path pages))) in
    first_page _ _ table found own _ proper never are same first second paged

pub page_is_missing : PageIsMissing
page_is_missing = no_pages [] (each_of IsProperRow [] tt) (λ front last is inside. no_last _ _ is)

pub page_has_another_row : PageHasAnotherRow
page_has_another_row =
    no_pages (row_at b_one ∷ []) (each_of IsProperRow (row_at b_one ∷ []) (b_proper, tt))
    (λ front last is inside. b_is_no_row (inside (row_at b_one) (member_head (row_at b_one) [])))
