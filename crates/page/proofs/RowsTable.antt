-- How a run ends, computed from a table of what its modules say.
use Rattle.std.proofs.Common.{Option, ◌≡◌, ◌∙◌, ◌++◌, ◌⊎◌, ◌&&◌, ◌||◌, ◌≤◌, ℕ, Bool, true, false, List, [], ◌∷◌, Result, Ok, Err, Contains, ap, inl, inr, length, map, nat_eq, not, refl, subst, sym}
use Rattle.std.specs.Cmp.Lexicographic.{pointwise, same_text}
use Rattle.std.specs.List.{AllByRecursion, IsDistinct}
use Rattle.std.specs.Ordering.{is_gt}
use Rattle.std.specs.declared.cmp.Ordering.TheVariants.{Less}
use Rattle.std.proofs.lemmas.Bool.{and_parts, false≢true, not-true, or_cases}
use Rattle.page.specs.Asked.{Name, Reply, names_in, same_name}
use Rattle.page.specs.BuildList.{IsSelected, entry_of, main_entry, path_cmp}
use Rattle.page.specs.Fields.{Dependency}
use Rattle.page.specs.Files.{main_in}
use Rattle.page.specs.Files.RowFiles.{most_opened}
use Rattle.page.specs.Graph.{IsEdgeEnd}
use Rattle.page.specs.Main.{Main, is_pruned_by, without_excluded, replacement_in}
use Rattle.page.specs.ModuleVersion.{ModuleVersion, pair_cmp, pair_eq}
use Rattle.page.specs.Queries.{AreFound}
use Rattle.page.specs.Reading.{file_of, is_askable}
use Rattle.page.specs.Run.{AreFaults, AreRows, IsDeep, IsEdge, IsFault, IsNeeded, IsOpened, IsTop, from_deep, from_main, from_top}
use Rattle.page.specs.Sayings.{Requires, Run, Says, run_of}
use Rattle.page.specs.Types.{AreSums, Class, Fault, Main as FromMain, Of, Step, Sums}
use Rattle.page.specs.Version.{version_cmp}
use Rattle.page.specs.Worlds.{given_with}
use Rattle.page.proofs.Ending.{IsReadable, settled}
use Rattle.page.proofs.Forms.{edge_to, end_of, no_greater}
use Rattle.page.proofs.Members.{Pairs, each_member, member_cases, member_head, member_tail, no_member, pair_same, pairs_of, text_itself}
use Rattle.page.proofs.Saying.{class_is, file_is, has_no_fault, required_in, requires_nothing, says}

-- ---- lists

module _ {T : Type 0} where
  abbrev pub every : (T → Bool) → List T → Bool
  every p [] = true
  every p (x ∷ xs) = p x && every p xs

  abbrev pub some : (T → Bool) → List T → Bool
  some p [] = false
  some p (x ∷ xs) = p x || some p xs

  every_one : (p : T → Bool) (xs : List T) → every p xs ≡ true → (x : T) → Contains xs x → p x ≡ true
  every_one p [] h x there = absurd (no_member x there)
  every_one p (y ∷ ys) h x there =
      let parts = and_parts (p y) (every p ys) h in
      elim (member_cases y x ys there) [
        | inl same ↦ subst (λ (z : T). p z ≡ true) same parts.0
        | inr later ↦ every_one p ys parts.1 x later
      ]

  some_later : (p : T → Bool) (y : T) (ys : List T) → (x : T) × Contains ys x × (p x ≡ true)
      → (x : T) × Contains (y ∷ ys) x × (p x ≡ true)
  some_later p y ys (x, there, is) = (x, member_tail y x ys there, is)

  pub some_one : (p : T → Bool) (xs : List T) → some p xs ≡ true → (x : T) × Contains xs x × (p x ≡ true)
  some_one p [] h = absurd (false≢true h)
  some_one p (y ∷ ys) h = elim (or_cases (p y) (some p ys) h) [
    | inl is ↦ (y, member_head y ys, is)
    | inr later ↦ some_later p y ys (some_one p ys later)
  ]

  pub in_left : (x : T) (xs ys : List T) → Contains xs x → Contains (xs ++ ys) x
  in_left x [] ys there = absurd (no_member x there)
  in_left x (z ∷ xs) ys there = elim (member_cases z x xs there) [
    | inl same ↦ subst (Contains (z ∷ xs ++ ys)) same (member_head z (xs ++ ys))
    | inr later ↦ member_tail z x (xs ++ ys) (in_left x xs ys later)
  ]

  pub in_right : (x : T) (xs ys : List T) → Contains ys x → Contains (xs ++ ys) x
  in_right x [] ys there = there
  in_right x (z ∷ xs) ys there = member_tail z x (xs ++ ys) (in_right x xs ys there)

  pub either_side : (x : T) (xs ys : List T) → Contains (xs ++ ys) x → Contains xs x ⊎ Contains ys x
  either_side x [] ys there = inr there
  either_side x (z ∷ xs) ys there = elim (member_cases z x (xs ++ ys) there) [
    | inl same ↦ inl (subst (Contains (z ∷ xs)) same (member_head z xs))
    | inr later ↦ elim (either_side x xs ys later) [
      | inl left ↦ inl (member_tail z x xs left)
      | inr right ↦ inr right
    ]
  ]

  changed : (P Q : T → Type 0) → ((x : T) → P x → Q x) → (xs : List T) → AllByRecursion P xs → AllByRecursion Q xs
  changed P Q f [] h = tt
  changed P Q f (x ∷ xs) h = (f x h.0, changed P Q f xs h.1)

abbrev pub has : List ModuleVersion → ModuleVersion → Bool
has ys x = some (λ (y : ModuleVersion). pair_eq y x) ys

abbrev pub are_in : List ModuleVersion → List ModuleVersion → Bool
are_in xs ys = every (has ys) xs

has_member : (ys : List ModuleVersion) (x : ModuleVersion) → has ys x ≡ true → Contains ys x
has_member ys x h = let found = some_one (λ (y : ModuleVersion). pair_eq y x) ys h in subst (Contains ys) (pair_same found.0 x found.2) found.1

pub are_members : (xs ys : List ModuleVersion) → are_in xs ys ≡ true → (x : ModuleVersion) → Contains xs x → Contains ys x
are_members xs ys h x there = has_member ys x (every_one (has ys) xs h x there)

-- ---- tables

-- a module, and what its file says
abbrev pub Row : Type 0
Row = ModuleVersion × Result Dependency Class

abbrev pub firsts : List Row → List ModuleVersion
firsts = map (λ (row : Row). row.0)

first_of : (rows : List Row) (x : ModuleVersion) → Contains (firsts rows) x → (row : Row) × Contains rows row × (row.0 ≡ x)
first_of [] x there = absurd (no_member x there)
first_of (row ∷ rows) x there = elim (member_cases row.0 x (firsts rows) there) [
  | inl same ↦ (row, member_head row rows, same)
  | inr later ↦ (let found = first_of rows x later in (found.0, member_tail row found.0 rows found.1, found.2))
]

first_in : (rows : List Row) (row : Row) → Contains rows row → Contains (firsts rows) row.0
first_in [] row there = absurd (no_member row there)
first_in (one ∷ rows) row there = elim (member_cases one row rows there) [
  | inl same ↦ subst (λ (other : Row). Contains (one.0 ∷ firsts rows) other.0) same (member_head one.0 (firsts rows))
  | inr later ↦ member_tail one.0 row.0 (firsts rows) (first_in rows row later)
]

abbrev pub is_shallow : Result Dependency Class → Bool
is_shallow (Ok file) = is_pruned_by file.go
is_shallow (Err class) = true

abbrev kept : Main → Result Dependency Class → List ModuleVersion
kept main (Ok file) = without_excluded main file.requirements
kept main (Err class) = []

abbrev pub gathered : Main → List Row → List ModuleVersion
gathered main [] = []
gathered main (row ∷ rows) = kept main row.1 ++ gathered main rows

gathered_from : (main : Main) (rows : List Row) (y : ModuleVersion) → Contains (gathered main rows) y
    → (row : Row) × Contains rows row × Contains (kept main row.1) y
gathered_from main [] y there = absurd (no_member y there)
gathered_from main (row ∷ rows) y there = elim (either_side y (kept main row.1) (gathered main rows) there) [
  | inl own ↦ (row, member_head row rows, own)
  | inr later ↦ (let found = gathered_from main rows y later in (found.0, member_tail row found.0 rows found.1, found.2))
]

in_gathered : (main : Main) (rows : List Row) (row : Row) → Contains rows row → (y : ModuleVersion) → Contains (kept main row.1) y
    → Contains (gathered main rows) y
in_gathered main [] row there y is = absurd (no_member row there)
in_gathered main (one ∷ rows) row there y is = elim (member_cases one row rows there) [
  | inl same ↦ in_left y (kept main one.1) (gathered main rows) (subst (λ (other : Row). Contains (kept main other.1) y) (sym same) is)
  | inr later ↦ in_right y (kept main one.1) (gathered main rows) (in_gathered main rows row later y is)
]

-- the module is among the deep ones, or what the row requires need not be
abbrev pub is_bounded : Main → List Row → List Row → Bool
is_bounded main tops deep =
    (is_pruned_by main.go || are_in (firsts tops) (firsts deep))
    && (every (λ (row : Row). is_shallow row.1 || are_in (kept main row.1) (firsts deep)) tops
    && every (λ (row : Row). are_in (kept main row.1) (firsts deep)) deep)

abbrev is_led : Main → List Row → List Row → ModuleVersion → Bool
is_led main tops found y =
    (not (is_pruned_by main.go) && has (firsts tops) y)
    || (some (λ (row : Row). not (is_shallow row.1) && has (kept main row.1) y) tops
    || some (λ (row : Row). has (kept main row.1) y) found)

-- each is required by the main file, by a row at the top, or by a row before it
abbrev pub is_reached : Main → List Row → List Row → List Row → Bool
is_reached main tops found [] = true
is_reached main tops found (row ∷ rows) = is_led main tops found row.0 && is_reached main tops (row ∷ found) rows

-- the row has the path of another, and a lesser version or the same one
abbrev pub is_no_greater : ModuleVersion → ModuleVersion → Bool
is_no_greater x y = not (pointwise nat_eq y.0 x.0) || not (is_gt (version_cmp y.1 x.1))

abbrev is_greater : ModuleVersion → ModuleVersion → Bool
is_greater x y = pointwise nat_eq y.0 x.0 && is_gt (version_cmp y.1 x.1)

abbrev is_chosen : Main → List ModuleVersion → ModuleVersion → Bool
is_chosen main ends x = has ends x && (not (pointwise nat_eq x.0 main.path) && every (is_no_greater x) ends)

abbrev is_placed : Main → List ModuleVersion → List ModuleVersion → ModuleVersion → Bool
is_placed main ends selected x = has selected x || (pointwise nat_eq x.0 main.path || some (is_greater x) ends)

abbrev pub ends_of : Main → List Row → List Row → List ModuleVersion
ends_of main tops deep = firsts tops ++ gathered main (tops ++ deep)

abbrev pub is_selection : Main → List Row → List Row → List ModuleVersion → Bool
is_selection main tops deep selected =
    every (is_chosen main (ends_of main tops deep)) selected
    && every (is_placed main (ends_of main tops deep) selected) (ends_of main tops deep)

abbrev pub fault_with : ModuleVersion → Class → Fault
fault_with x class = record { vertex = x; class = class }

abbrev pub IsReported : List Fault → Row → Type 0
IsReported faults (x, Ok file) = Unit {0}
IsReported faults (x, Err class) = Contains faults (fault_with x class)

-- what the rows at the top and the deep rows say is all that is opened
pub record IsTable (content : List ℕ) (text : Option (List ℕ)) (main : Main) (sums : Option Sums)
    (asked : List (Name × Reply)) (tops deep : List Row) : Type 0 where
  pub is_main : main_in content ≡ Ok main
  pub are_sums : AreSums text sums
  pub tops_are : firsts tops ≡ without_excluded main main.requirements
  pub tells : AllByRecursion (λ (row : Row). Says (run_of main sums asked) row.0 row.1) (tops ++ deep)
  pub bounded : is_bounded main tops deep ≡ true
  pub reached : is_reached main tops [] deep ≡ true
  pub few : length (firsts (tops ++ deep)) ≤ most_opened

-- the answers are those to the files of these rows
pub record IsAsked (main : Main) (sums : Option Sums) (asked : List (Name × Reply)) (rows : List Row) : Type 0 where
  pub readable : AllByRecursion (IsReadable sums) asked
  pub once : IsDistinct same_name (names_in asked)
  pub needed : AllByRecursion (λ (name : Name). (row : Row) × Contains rows row × (file_of main row.0 ≡ name) × (is_askable name ≡ true)) (names_in asked)
  pub were : AllByRecursion (λ (x : ModuleVersion). is_askable (file_of main x) ≡ true → Contains (names_in asked) (file_of main x)) (firsts rows)

module _ (content : List ℕ) (text : Option (List ℕ)) (main : Main) (sums : Option Sums) (asked : List (Name × Reply)) (tops deep : List Row)
    (table : IsTable content text main sums asked tops deep) where
  abbrev run : Run
  run = run_of main sums asked

  abbrev rows : List Row
  rows = tops ++ deep

  abbrev Tells : Row → Type 0
  Tells row = Says run row.0 row.1

  tell : (row : Row) → Contains rows row → Tells row
  tell row there = each_member Tells rows table.tells row there

  -- ---- what a row requires

  requires_in : (x : ModuleVersion) (said : Result Dependency Class) → Says run x said → (y : ModuleVersion) → Requires run x y → Contains (kept main said) y
  requires_in x (Ok file) tells y is = required_in main sums asked x file (says main sums asked x (Ok file) tells) y is
  requires_in x (Err class) tells y is = absurd (requires_nothing main sums asked x class (says main sums asked x (Err class) tells) y is)

  requires_out : (x : ModuleVersion) (said : Result Dependency Class) → Says run x said → (y : ModuleVersion) → Contains (kept main said) y → Requires run x y
  requires_out x (Ok file) tells y there = (file, tells, there)
  requires_out x (Err class) tells y there = absurd (no_member y there)

  -- ---- what is opened

  row_at_top : (x : ModuleVersion) → IsTop run x → Contains (firsts tops) x
  row_at_top x top = subst (λ (xs : List ModuleVersion). Contains xs x) (sym table.tops_are) top

  is_top : (row : Row) → Contains tops row → IsTop run row.0
  is_top row there = subst (λ (xs : List ModuleVersion). Contains xs row.0) table.tops_are (first_in tops row there)

  -- what the module requires is deep, if its file is not pruned
  leads_deep : (x : ModuleVersion) (said : Result Dependency Class) → Says run x said
      → (is_shallow said || are_in (kept main said) (firsts deep)) ≡ true → (file : Dependency) (y : ModuleVersion) → Says run x (Ok file)
      → is_pruned_by file.go ≡ false → Contains (without_excluded main file.requirements) y → Contains (firsts deep) y
  leads_deep x (Ok own) tells h file y also unpruned there = elim (or_cases (is_pruned_by own.go) (are_in (kept main (Ok own)) (firsts deep)) h) [
    | inl pruned ↦
        absurd (false≢true (sym unpruned ∙ ap (λ (f : Dependency). is_pruned_by f.go)
        (sym (file_is main sums asked x own (says main sums asked x (Ok own) tells) file also)) ∙ pruned))
    | inr within ↦ are_members (kept main (Ok own)) (firsts deep) within y (requires_in x (Ok own) tells y (file, also, there))
  ]
  leads_deep x (Err class) tells h file y also unpruned there =
      absurd (requires_nothing main sums asked x class (says main sums asked x (Err class) tells) y (file, also, there))

  abbrev bounds : (is_pruned_by main.go || are_in (firsts tops) (firsts deep)) ≡ true
  bounds = (and_parts _ _ table.bounded).0

  abbrev top_bounds : every (λ (row : Row). is_shallow row.1 || are_in (kept main row.1) (firsts deep)) tops ≡ true
  top_bounds = (and_parts _ _ (and_parts _ _ table.bounded).1).0

  abbrev deep_bounds : every (λ (row : Row). are_in (kept main row.1) (firsts deep)) deep ≡ true
  deep_bounds = (and_parts _ _ (and_parts _ _ table.bounded).1).1

  leads_from_top : (x y : ModuleVersion) → (row : Row) × Contains tops row × (row.0 ≡ x) → (file : Dependency) → Says run x (Ok file)
      → is_pruned_by file.go ≡ false → Contains (without_excluded main file.requirements) y → Contains (firsts deep) y
  leads_from_top x y (row, there, same) file also unpruned required =
      leads_deep row.0 row.1 (tell row (in_left row tops deep there)) (every_one _ tops top_bounds row there) file y
      (subst (λ (z : ModuleVersion). Says run z (Ok file)) (sym same) also) unpruned required

  leads_from_deep : (x y : ModuleVersion) → (row : Row) × Contains deep row × (row.0 ≡ x) → Requires run x y → Contains (firsts deep) y
  leads_from_deep x y (row, there, same) requires =
      are_members (kept main row.1) (firsts deep) (every_one _ deep deep_bounds row there) y
      (requires_in row.0 row.1 (tell row (in_right row tops deep there)) y (subst (λ (z : ModuleVersion). Requires run z y) (sym same) requires))

  row_is_deep : (x : ModuleVersion) → IsDeep run x → Contains (firsts deep) x
  row_is_deep x (from_main unpruned top) = elim (or_cases (is_pruned_by main.go) (are_in (firsts tops) (firsts deep)) bounds) [
    | inl pruned ↦ absurd (false≢true (sym unpruned ∙ pruned))
    | inr within ↦ are_members (firsts tops) (firsts deep) within x (row_at_top x top)
  ]
  row_is_deep y (from_top {x = x} file top also unpruned there) = leads_from_top x y (first_of tops x (row_at_top x top)) file also unpruned there
  row_is_deep y (from_deep {x = x} is requires) = leads_from_deep x y (first_of deep x (row_is_deep x is)) requires

  firsts_left : (xs ys : List Row) (x : ModuleVersion) → (row : Row) × Contains xs row × (row.0 ≡ x) → Contains (firsts (xs ++ ys)) x
  firsts_left xs ys x (row, there, same) = subst (Contains (firsts (xs ++ ys))) same (first_in (xs ++ ys) row (in_left row xs ys there))

  firsts_right : (xs ys : List Row) (x : ModuleVersion) → (row : Row) × Contains ys row × (row.0 ≡ x) → Contains (firsts (xs ++ ys)) x
  firsts_right xs ys x (row, there, same) = subst (Contains (firsts (xs ++ ys))) same (first_in (xs ++ ys) row (in_right row xs ys there))

  pub opened_in : (x : ModuleVersion) → IsOpened run x → Contains (firsts rows) x
  opened_in x (inl top) = firsts_left tops deep x (first_of tops x (row_at_top x top))
  opened_in x (inr is) = firsts_right tops deep x (first_of deep x (row_is_deep x is))

  -- ---- it is

  from_row : (x : ModuleVersion) (said : Result Dependency Class) → Says run x said → IsTop run x → is_shallow said ≡ false
      → (y : ModuleVersion) → Contains (kept main said) y → IsDeep run y
  from_row x (Ok file) tells top unpruned y there = from_top {x = x} file top tells unpruned there
  from_row x (Err class) tells top unpruned y there = absurd (false≢true (sym unpruned))

  by_top : (y : ModuleVersion) → (row : Row) × Contains tops row × ((not (is_shallow row.1) && has (kept main row.1) y) ≡ true) → IsDeep run y
  by_top y (row, there, h) =
      let parts = and_parts (not (is_shallow row.1)) (has (kept main row.1) y) h in
      from_row row.0 row.1 (tell row (in_left row tops deep there)) (is_top row there) (not-true (is_shallow row.1) parts.0) y
      (has_member (kept main row.1) y parts.1)

  abbrev IsDeepRow : Row → Type 0
  IsDeepRow row = Tells row × IsDeep run row.0

  by_deep : (found : List Row) (y : ModuleVersion) → AllByRecursion IsDeepRow found
      → (row : Row) × Contains found row × (has (kept main row.1) y ≡ true) → IsDeep run y
  by_deep found y are (row, there, h) =
      let is = each_member IsDeepRow found are row there in
      from_deep {x = row.0} is.1 (requires_out row.0 row.1 is.0 y (has_member (kept main row.1) y h))

  led : (found : List Row) (y : ModuleVersion) → AllByRecursion IsDeepRow found → is_led main tops found y ≡ true → IsDeep run y
  led found y are h = elim (or_cases (not (is_pruned_by main.go) && has (firsts tops) y) _ h) [
    | inl own ↦ (let parts = and_parts (not (is_pruned_by main.go)) (has (firsts tops) y) own in
        from_main (not-true (is_pruned_by main.go) parts.0)
        (subst (λ (xs : List ModuleVersion). Contains xs y) table.tops_are (has_member (firsts tops) y parts.1)))
    | inr other ↦ elim (or_cases (some (λ (row : Row). not (is_shallow row.1) && has (kept main row.1) y) tops) _ other) [
      | inl top ↦ by_top y (some_one _ tops top)
      | inr row ↦ by_deep found y are (some_one _ found row)
    ]
  ]

  all_deep : (found left : List Row) → AllByRecursion IsDeepRow found → AllByRecursion Tells left → is_reached main tops found left ≡ true
      → AllByRecursion IsDeepRow left
  all_deep found [] are tells h = tt
  all_deep found (row ∷ left) are tells h =
      let parts = and_parts (is_led main tops found row.0) (is_reached main tops (row ∷ found) left) h in
      let own : IsDeepRow row = (tells.0, led found row.0 are parts.0) in
      (own, all_deep (row ∷ found) left (own, are) tells.1 parts.1)

  right_of : (P : Row → Type 0) (xs ys : List Row) → AllByRecursion P (xs ++ ys) → AllByRecursion P ys
  right_of P [] ys h = h
  right_of P (x ∷ xs) ys h = right_of P xs ys h.1

  deep_rows : AllByRecursion IsDeepRow deep
  deep_rows = all_deep [] deep tt (right_of Tells tops deep table.tells) table.reached

  opens : (row : Row) → Contains rows row → IsOpened run row.0
  opens row there = elim (either_side row tops deep there) [
    | inl top ↦ inl (is_top row top)
    | inr is ↦ inr (each_member IsDeepRow deep deep_rows row is).1
  ]

  -- ---- the faults

  reported : (faults : List Fault) (x : ModuleVersion) (said : Result Dependency Class) → Says run x said → IsReported faults (x, said)
      → (class : Class) → Says run x (Err class) → Contains faults (fault_with x class)
  reported faults x (Ok file) tells is class also = absurd (has_no_fault main sums asked x file (says main sums asked x (Ok file) tells) class also)
  reported faults x (Err own) tells is class also =
      subst (λ (c : Class). Contains faults (fault_with x c)) (class_is main sums asked x own (says main sums asked x (Err own) tells) class also) is

  reported_in : (faults : List Fault) → AllByRecursion (IsReported faults) rows → (one : Fault)
      → (row : Row) × Contains rows row × (row.0 ≡ one.vertex) → Says run one.vertex (Err one.class) → Contains faults one
  reported_in faults are one (row, there, same) also =
      subst (λ (x : ModuleVersion). Contains faults (fault_with x one.class)) same
      (reported faults row.0 row.1 (tell row there) (each_member (IsReported faults) rows are row there) one.class
      (subst (λ (x : ModuleVersion). Says run x (Err one.class)) (sym same) also))

  fault_at : (one : Fault) → Contains rows (one.vertex, Err one.class) → IsFault run one
  fault_at one there = assumption (opens (one.vertex, Err one.class) there, tell (one.vertex, Err one.class) there)

  pub faults_from : (faults : List Fault) → Pairs (λ (a b : Fault). pair_cmp a.vertex b.vertex ≡ Less) faults
      → AllByRecursion (λ (one : Fault). Contains rows (one.vertex, Err one.class)) faults → AllByRecursion (IsReported faults) rows → AreFaults run faults
  faults_from faults ascend there are = record {
    ascending = pairs_of (λ (a b : Fault). pair_cmp a.vertex b.vertex ≡ Less) faults ascend;
    each = λ one. (
      each_member (IsFault run) faults (changed _ _ fault_at faults there) one,
      λ is. reported_in faults are one (first_of rows one.vertex (opened_in one.vertex (search))) (search),
    );
  }

  -- ---- what is asked

  needed_by : (name : Name) → (row : Row) × Contains rows row × (file_of main row.0 ≡ name) × (is_askable name ≡ true) → IsNeeded run name
  needed_by name (row, there, is, askable) = (row.0, opens row there, is, askable)

  pub found_with : IsAsked main sums asked rows → (faults : List Fault) → Pairs (λ (a b : Fault). pair_cmp a.vertex b.vertex ≡ Less) faults
      → AllByRecursion (λ (one : Fault). Contains rows (one.vertex, Err one.class)) faults → AllByRecursion (IsReported faults) rows
      → AreFound (given_with content text asked) main sums faults
  found_with are faults ascend there every = record {
    read = record { main_file = table.is_main; sums = table.are_sums };
    settled = settled main sums asked (firsts rows) opened_in are.readable are.once (changed _ _ needed_by (names_in asked) are.needed) are.were table.few;
    faults_are = faults_from faults ascend there every;
    none_failed = refl;
  }

  -- ---- the build list

  abbrev ends : List ModuleVersion
  ends = ends_of main tops deep

  leads_in : (x y : ModuleVersion) → (row : Row) × Contains rows row × (row.0 ≡ x) → Requires run x y → Contains ends y
  leads_in x y (row, there, same) requires =
      in_right y (firsts tops) (gathered main rows) (in_gathered main rows row there y
      (requires_in row.0 row.1 (tell row there) y (subst (λ (z : ModuleVersion). Requires run z y) (sym same) requires)))

  edge_in : (y : ModuleVersion) → (step : Step) × IsEdge run step y → Contains ends y
  edge_in y (FromMain, top) = in_left y (firsts tops) (gathered main rows) (row_at_top y top)
  edge_in y (Of x, (opens_x, requires)) = leads_in x y (first_of rows x (opened_in x opens_x)) requires

  end_in : (y : ModuleVersion) → IsEdgeEnd (IsEdge run) y → Contains ends y
  end_in y is = edge_in y (edge_to (IsEdge run) y is)

  end_by : (y : ModuleVersion) → (row : Row) × Contains rows row × Contains (kept main row.1) y → IsEdgeEnd (IsEdge run) y
  end_by y (row, there, is) = end_of (IsEdge run) (Of row.0) y (opens row there, requires_out row.0 row.1 (tell row there) y is)

  end_at : (y : ModuleVersion) → Contains ends y → IsEdgeEnd (IsEdge run) y
  end_at y there = elim (either_side y (firsts tops) (gathered main rows) there) [
    | inl top ↦ end_of (IsEdge run) FromMain y (subst (λ (xs : List ModuleVersion). Contains xs y) table.tops_are top)
    | inr is ↦ end_by y (gathered_from main rows y is)
  ]

  abbrev Selects : ModuleVersion → Type 0
  Selects x = IsSelected main.path (IsEdge run) x

  same_is : (a b : List ℕ) → a ≡ b → pointwise nat_eq a b ≡ true
  same_is a b same = subst (λ (c : List ℕ). pointwise nat_eq a c ≡ true) same (text_itself a)

  none_greater : (x y : ModuleVersion) → is_no_greater x y ≡ true → y.0 ≡ x.0 → is_gt (version_cmp y.1 x.1) ≡ false
  none_greater x y h same = elim (or_cases (not (pointwise nat_eq y.0 x.0)) (not (is_gt (version_cmp y.1 x.1))) h) [
    | inl unlike ↦ absurd (false≢true (sym (not-true (pointwise nat_eq y.0 x.0) unlike) ∙ same_is y.0 x.0 same))
    | inr not_gt ↦ not-true (is_gt (version_cmp y.1 x.1)) not_gt
  ]

  chosen : (x : ModuleVersion) → is_chosen main ends x ≡ true → Selects x
  chosen x h =
      let parts = and_parts (has ends x) (not (pointwise nat_eq x.0 main.path) && every (is_no_greater x) ends) h in
      let others = and_parts (not (pointwise nat_eq x.0 main.path)) (every (is_no_greater x) ends) parts.1 in
      record {
        not_main = λ same. false≢true (sym (not-true (pointwise nat_eq x.0 main.path) others.0) ∙ same_is x.0 main.path same);
        is_end = end_at x (has_member ends x parts.0);
        greatest = λ y is same. search (no_greater, none_greater x y (every_one (is_no_greater x) ends others.1 y (end_in y is)) same);
      }

  no_lesser : (x : ModuleVersion) → Selects x → (y : ModuleVersion) × Contains ends y × (is_greater x y ≡ true) → ⊥
  no_lesser x is (y, there, h) =
      let parts = and_parts (pointwise nat_eq y.0 x.0) (is_gt (version_cmp y.1 x.1)) h in
      let is_not : is_gt (version_cmp y.1 x.1) ≡ false = search (no_greater, is.greatest y (end_at y there) (same_text y.0 x.0 (sym parts.0))) in
      false≢true (sym is_not ∙ parts.1)

  placed : (selected : List ModuleVersion) (x : ModuleVersion) → is_placed main ends selected x ≡ true → Selects x → Contains selected x
  placed selected x h is = elim (or_cases (has selected x) (pointwise nat_eq x.0 main.path || some (is_greater x) ends) h) [
    | inl there ↦ has_member selected x there
    | inr other ↦ elim (or_cases (pointwise nat_eq x.0 main.path) (some (is_greater x) ends) other) [
      | inl own ↦ absurd (is.not_main (same_text x.0 main.path (sym own)))
      | inr greater ↦ absurd (no_lesser x is (some_one (is_greater x) ends greater))
    ]
  ]

  pub rows_from : (selected : List ModuleVersion) → Pairs (λ (a b : ModuleVersion). path_cmp a b ≡ Less) selected
      → is_selection main tops deep selected ≡ true → AreRows run (main_entry ∷ map (entry_of (replacement_in main)) selected)
  rows_from selected ascend h =
      let parts = and_parts (every (is_chosen main ends) selected) (every (is_placed main ends selected) ends) h in
      record {
        selected = selected;
        entries_are = refl;
        ascending = λ i j d lt below. search (pairs_of (λ (a b : ModuleVersion). path_cmp a b ≡ Less) selected ascend i j d lt below);
        each = λ x. (
          λ there. chosen x (every_one (is_chosen main ends) selected parts.0 x there),
          λ is. placed selected x (every_one (is_placed main ends selected) ends parts.1 x (end_in x is.is_end)) is,
        );
      }
