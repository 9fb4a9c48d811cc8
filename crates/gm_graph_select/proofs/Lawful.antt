-- The laws hold.
use Rattle.std.proofs.Common.{◌≡◌, ◌≢◌, ◌<◌, ◌≤◌, ℕ, zero, suc, false, List, [], ◌∷◌, ◌++◌, length, take, drop, get_or, map, Option, Contains, append_assoc, ap, ◌∙◌, sym, refl, inl, inr, arith, length-append, length-drop}
use Rattle.std.specs.Prelude.{AllPairs}
use Rattle.std.specs.Cmp.{IsTotalOrder, on_total}
use Rattle.std.specs.Cmp.Lexicographic.{nat_list_cmp_total}
use Rattle.std.specs.Ordering.{is_lt, ordering_reverse}
use Rattle.std.specs.declared.cmp.Ordering.{Ordering}
use Rattle.std.specs.declared.cmp.Ordering.TheVariants.{Less, Equal, Greater}
use Rattle.std.proofs.lemmas.Bool.{false≢true}
use Rattle.std.proofs.lemmas.List.{length-take, take-append-drop}
use Rattle.gm_name.specs.ModuleVersion.{ModuleVersion}
use Rattle.gm_graph_select.specs.declared.step.Step.{Step}
use Rattle.gm_graph_select.specs.declared.step.Step.TheVariants.{Main, Of}
use Rattle.gm_graph_select.specs.Graph.{Edges, among, step_cmp}
use Rattle.gm_graph_select.specs.StepOrder.{step_total}
use Rattle.gm_name.specs.Private.ModuleVersion.{pair-anti}
use Rattle.gm_graph_select.specs.BuildList.{IsAt, IsBuildList, IsEntryOf, IsSelected, entry_of, main_entry, path_cmp, path_of}
use Rattle.gm_graph_select.specs.Chains.{at_main, along, IsPredecessor, IsChain, begins, goes_on, IsLevel, IsReached, IsRooted}
use Rattle.gm_graph_select.specs.Laws.{EntryWith, ArePages, no_more, one_more, entries_of_pages, ChainIsShortest, EntriesAreReached, MainIsFirst, OneBuildList, OneChain, OneRest, PagesExist, PagesJoin, RowsAreEnds, RowsSatisfy}
use Rattle.gm_graph_select.proofs.Ascending.{less_itself, member_cases, member_tail, pairs_cons, pairs_map, pairs_split, same_lists}
use Rattle.gm_graph_select.proofs.Inserting.{ends_ordered, ends_selected, ordered_ends}
use Rattle.gm_graph_select.proofs.LastVersions.{path_selected}
use Rattle.gm_graph_select.proofs.RankedLists.{from_mapped, in_mapped}
use Rattle.gm_graph_select.proofs.RestRows.{entry_there, one_at, one_entry}

path_total : IsTotalOrder path_cmp
path_total = on_total (λ (x : ModuleVersion). x.0) nat_list_cmp_total

-- The entries have different paths.
abbrev pub AreApart : {R : Type 0} → List ℕ → EntryWith R → EntryWith R → Type 0
AreApart main a b = path_of main a.0 ≢ path_of main b.0

-- ---- the build list of any relation

module _ {R : Type 0} {main : List ℕ} {replaces : ModuleVersion → Option R} {E : Edges} {entries : List (EntryWith R)}
    (list : IsBuildList main replaces E entries) where
  -- The vertex of a row is selected.
  pub row_selected : (x : ModuleVersion) (right : Option R) → Contains entries (Of x, right) → IsSelected main E x
  row_selected x right there = elim (member_cases main_entry (Of x, right) (map (entry_of replaces) list.selected) (rw list.entries_are at there)) [
    | inl is ↦ absurd (let first : Main ≡ Of x = ap (λ e. e.0) is in cc first)
    | inr later ↦ let (y, inside, same) = from_mapped (entry_of replaces) list.selected (Of x, right) later in
        let step : Of y ≡ Of x = ap (λ e. e.0) same in
        let one : y ≡ x = cc step in
        (list.each x).0 (rw one at inside)
  ]

  -- Each selected vertex has a row.
  pub selected_row : (x : ModuleVersion) → IsSelected main E x → Contains entries (entry_of replaces x)
  selected_row x is = rw list.entries_are
      (member_tail main_entry (entry_of replaces x) (map (entry_of replaces) list.selected)
      (in_mapped (entry_of replaces) list.selected x ((list.each x).1 is)))

  -- No two entries have the same path.
  pub distinct : AllPairs (AreApart main) entries
  distinct = rw list.entries_are (pairs_cons (AreApart main) main_entry (map (entry_of replaces) list.selected)
      (λ entry there same.
      let (x, inside, is) = from_mapped (entry_of replaces) list.selected entry there in
      ((list.each x).0 inside).not_main (ap (λ e. path_of main e.0) is ∙ sym same))
      (pairs_map (AreApart main) (entry_of replaces) list.selected (λ i j d lt below same.
      less_itself nat_list_cmp_total (get_or list.selected j d).0 (rw same at (list.ascending i j d lt below)))))

  pub reached_entry : (path : List ℕ) (s : Step) → IsRooted E → IsEntryOf main entries path s → IsReached E s
  reached_entry path Main rooted entry = (0, at_main)
  reached_entry path (Of x) rooted (entry, rest, at, is) =
      let (t, edge) = (row_selected x entry.1 (rw⁻¹ is (entry_there at))).is_end in
      let (n, leads) = rooted t x edge in
      (suc n, along leads edge)

pub rows_are_ends : {R : Type 0} → RowsAreEnds R
rows_are_ends main replaces edges entries list x right there = (row_selected list x right there).is_end

pub rows_satisfy : {R : Type 0} → RowsSatisfy R
rows_satisfy main replaces edges entries list y end apart =
    let (x, there, is) = path_selected main (ordered_ends edges) y ((ends_ordered edges y).1 end) apart in
    let selected = ((ends_selected main edges).each x).0 there in
    (x, replaces x, selected_row list x selected, is, selected.greatest y end (sym is))

pub same_build_lists : {R : Type 0} {main : List ℕ} {replaces : ModuleVersion → Option R} {E : Edges} {a b : List (EntryWith R)}
    → IsBuildList main replaces E a → IsBuildList main replaces E b → a ≡ b
same_build_lists {replaces} x y =
    let same : x.selected ≡ y.selected = same_lists path_total x.selected y.selected x.ascending y.ascending
    (λ z. ((λ h. (y.each z).1 ((x.each z).0 h)), (λ h. (x.each z).1 ((y.each z).0 h)))) in
    x.entries_are ∙ ap (λ (xs : List ModuleVersion). main_entry ∷ map (entry_of replaces) xs) same ∙ sym y.entries_are

pub one_build_list : {R : Type 0} → OneBuildList R
one_build_list main replaces edges a b = same_build_lists

pub one_rest : {R : Type 0} → OneRest R
one_rest main entries path a b (x, h) (y, g) = (one_at main entries path x y a b h g).1

pub main_is_first : {R : Type 0} → MainIsFirst R
main_is_first main replaces edges entries s list entry =
    let first : IsAt main entries main main_entry (map (entry_of replaces) list.selected) =
    record {
      before = [];
      parts = list.entries_are;
      path_is = refl;
      others =
          λ x h. absurd (let none = h.1 in omega (arith, none));
    } in
    one_entry main entries main s Main entry (main_entry, map (entry_of replaces) list.selected, first, refl)

pub entries_are_reached : {R : Type 0} → EntriesAreReached R
entries_are_reached main replaces edges entries path s list rooted entry = reached_entry list path s rooted entry

-- ---- chains

pub shortest : (E : Edges) (s : Step) (steps : List Step) → IsChain E s steps → (n : ℕ) × (length steps ≡ suc n) × IsLevel E s n
shortest E _ _ begins = (0, refl, record { leads = at_main; least = λ m h. omega arith })
shortest E _ _ (goes_on {s} {y} {steps} chain before) =
    let (n, long, level) = shortest E s steps chain in
    let low = level.least before.level before.nearer.leads in
    let high = before.nearer.least n level.leads in
    (suc before.level, length-append steps (Of y ∷ []) ∙ omega (arith, long, low, high), before.further)

pub chain_is_shortest : ChainIsShortest
chain_is_shortest edges s steps chain = shortest (among edges) s steps chain

-- Two steps that compare as equal are the same.
step-anti : (s t : Step) → step_cmp s t ≡ Equal → s ≡ t
step-anti Main Main e = refl
step-anti Main (Of y) e = cc
step-anti (Of x) Main e = cc
step-anti (Of x) (Of y) e = ap Of (pair-anti x y e)

not_either : (s t : Step) → is_lt (step_cmp s t) ≡ false → is_lt (step_cmp t s) ≡ false → s ≡ t
not_either s t h g = go (step_cmp s t) refl
  where
    go : (r : Ordering) → step_cmp s t ≡ r → s ≡ t
    go Less e = absurd (false≢true (sym h ∙ ap is_lt e))
    go Equal e = step-anti s t e
    go Greater e = absurd (false≢true (sym g ∙ ap is_lt (step_total.antisymm t s ∙ ap ordering_reverse e)))

one_before : (E : Edges) (s t : Step) (y : ModuleVersion) → IsPredecessor E s y → IsPredecessor E t y → s ≡ t
one_before E s t y a b =
    let low = a.further.least (suc b.level) b.further.leads in
    let high = b.further.least (suc a.level) a.further.leads in
    let same : a.level ≡ b.level = omega (arith, low, high) in
    not_either s t
    (b.least s a.is_edge (rw⁻¹ same a.nearer))
    (a.least t b.is_edge (rw same b.nearer))

of_main : (E : Edges) {s : Step} {b : List Step} → IsChain E s b → s ≡ Main → b ≡ Main ∷ []
of_main E begins e = refl
of_main E (goes_on {s} {y} c before) e = absurd (let same : Of y ≡ Main = e in cc same)

of_vertex : (E : Edges) {s : Step} {b : List Step} → IsChain E s b → (y : ModuleVersion) → s ≡ Of y
    → (t : Step) × (steps : List Step) × IsChain E t steps × IsPredecessor E t y × (b ≡ steps ++ Of y ∷ [])
of_vertex E begins y e = absurd (let same : Main ≡ Of y = e in cc same)
of_vertex E (goes_on {s} {y = z} {steps} c before) y e =
    let same : z ≡ y = cc e in
    (s, steps, c, rw⁻¹ same before, ap (λ (w : ModuleVersion). steps ++ Of w ∷ []) same)

same_chains : (E : Edges) {s : Step} {a : List Step} → IsChain E s a → (b : List Step) → IsChain E s b → a ≡ b
same_chains E begins b h = sym (of_main E h refl)
same_chains E (goes_on {s} {y} {steps} c before) b h =
    let (t, more, d, other, is) = of_vertex E h y refl in
    let same : t ≡ s = one_before E t s y other before in
    ap (λ (l : List Step). l ++ Of y ∷ []) (same_chains E c more (rw⁻¹ same d)) ∙ sym is

pub one_chain : OneChain
one_chain edges s a b h g = same_chains (among edges) h b g

-- ---- pages

snoc : {R : Type 0} (x : EntryWith R) (xs : List (EntryWith R)) → (front : List (EntryWith R)) × (last : EntryWith R) × (x ∷ xs ≡ front ++ last ∷ [])
snoc x [] = ([], x, refl)
snoc x (y ∷ xs) =
    let (front, last, is) = snoc y xs in
    (x ∷ front, last, ap (λ l. x ∷ l) is)

module _ {R : Type 0} (main : List ℕ) (entries : List (EntryWith R)) (apart : AllPairs (AreApart main) entries) (n : ℕ) where
  -- What is left after a page follows the page's last entry.
  page_end : (before left front : List (EntryWith R)) (last : EntryWith R) → entries ≡ before ++ left
      → take n left ≡ front ++ last ∷ [] → IsAt main entries (path_of main last.0) last (drop n left)
  page_end before left front last whole page = record { before = before ++ front; parts = parts; path_is = refl; others = others }
    where
      parts : entries ≡ (before ++ front) ++ last ∷ drop n left
      parts =
          whole ∙ ap (λ l. before ++ l) (sym (take-append-drop n left)
          ∙ ap (λ l. l ++ drop n left) page ∙ append_assoc front (last ∷ []) (drop n left))
          ∙ sym (append_assoc before front (last ∷ drop n left))

      others : (x : EntryWith R) → Contains (before ++ front) x → path_of main x.0 ≢ path_of main last.0
      others x h = pairs_split (AreApart main) (before ++ front) (drop n left) last x
          (rw⁻¹ parts apart) h

  further : (before left : List (EntryWith R)) → entries ≡ before ++ left → entries ≡ (before ++ take n left) ++ drop n left
  further before left whole = whole ∙ ap (λ l. before ++ l) (sym (take-append-drop n left))
      ∙ sym (append_assoc before (take n left) (drop n left))

  pages_join_from : (before left : List (EntryWith R)) (pages : List (List (EntryWith R))) → entries ≡ before ++ left
      → ArePages main entries n left pages → entries_of_pages pages ≡ left
  pages_join_from before _ _ whole no_more = refl
  pages_join_from before left _ whole (one_more {rest} {pages} front last page after more) =
      let (entry, at) = after in
      let same : rest ≡ drop n left = (one_at main entries (path_of main last.0) entry last rest (drop n left) at
      (page_end before left front last whole page)).1 in
      let rest_whole : entries ≡ (before ++ take n left) ++ rest =
      rw same (further before left whole) in
      ap (λ l. take n left ++ l) (pages_join_from (before ++ take n left) rest pages rest_whole more ∙ same) ∙ take-append-drop n left

  -- one page, followed by the others
  page_more : 0 < n → (before left : List (EntryWith R)) (x : EntryWith R) → entries ≡ before ++ x ∷ left → (page : List (EntryWith R))
      → take n (x ∷ left) ≡ page → (pages : List (List (EntryWith R))) × ArePages main entries n (drop n (x ∷ left)) pages
      → (pages : List (List (EntryWith R))) × ArePages main entries n (x ∷ left) pages
  page_more some before left x whole [] is more = absurd (let none = ap length is in omega (arith, length-take n (x ∷ left), none, some))
  page_more some before left x whole (y ∷ ys) is (pages, more) =
      let (front, last, parts) = snoc y ys in
      let page : take n (x ∷ left) ≡ front ++ last ∷ [] = is ∙ parts in
      (take n (x ∷ left) ∷ pages, one_more front last page (last, page_end before (x ∷ left) front last whole page) more)

  pages_from : 0 < n → (m : ℕ) (before left : List (EntryWith R)) → length left ≤ m → entries ≡ before ++ left
      → (pages : List (List (EntryWith R))) × ArePages main entries n left pages
  pages_from some m before [] low whole = ([], no_more)
  pages_from some zero before (x ∷ left) low whole = absurd (omega (arith, low))
  pages_from some (suc m) before (x ∷ left) low whole =
      let shorter : length (drop n (x ∷ left)) ≤ m = omega (arith, length-drop n (x ∷ left), low, some) in
      page_more some before left x whole (take n (x ∷ left)) refl
      (pages_from some m (before ++ take n (x ∷ left)) (drop n (x ∷ left)) shorter
      (further before (x ∷ left) whole))

pub pages_join : {R : Type 0} → PagesJoin R
pages_join main replaces edges entries n pages list h =
    pages_join_from main entries (distinct list) n [] entries pages refl h

pub pages_exist : {R : Type 0} → PagesExist R
pages_exist main replaces edges entries n some list = pages_from main entries
    (distinct list) n some (length entries) [] entries (omega arith) refl
