-- Among vertices in ascending order, the last ones of their paths are the selected ones.
use Rattle.std.proofs.Common.{Option, ◌≡◌, ◌≢◌, ◌⊎◌, ◌&&◌, ℕ, Bool, true, false, List, [], ◌∷◌, map, Contains, ap, ◌∙◌, sym, refl, inl, inr, arith}
use Rattle.std.specs.Prelude.{if◌then◌else◌, not}
use Rattle.std.specs.declared.cmp.Ordering.{Ordering}
use Rattle.std.specs.declared.cmp.Ordering.TheVariants.{Less, Equal, Greater}
use Rattle.std.specs.Ordering.{is_gt, nat_cmp, ordering_reverse, ordering_then}
use Rattle.std.specs.Cmp.Lexicographic.{slice_cmp}
use Rattle.std.specs.Str.{bytes_eq}
use Rattle.std.proofs.lemmas.Bool.{cases_Bool, false≢true}
use Rattle.std.proofs.lemmas.Cmp.{nat_list_cmp_total}
use Rattle.std.proofs.lemmas.Slice.Eq.{bytes_eq-Decides}
use Rattle.gm_version.specs.Version.{version_cmp}
use Rattle.gm_version.specs.VersionOrder.{version_total}
use Rattle.gm_name.specs.ModuleVersion.{ModuleVersion, pair_cmp}
use Rattle.gm_name.proofs.Texts.{bytes_eq-differ, slice_cmp-same}
use Rattle.gm_graph_select.specs.BuildList.{AreSelected, IsBuildList, entry_of, main_entry, path_cmp}
use Rattle.gm_graph_select.specs.Graph.{AreEnds, Edges}
use Rattle.gm_graph_select.specs.Greatest.{first_has_path, greatest_of, is_selected}
use Rattle.gm_graph_select.specs.Order.{IsAscending}
use Rattle.gm_graph_select.proofs.Ascending.{less_itself, member_cases, member_head, member_tail, no_member, pairs_cons, pairs_head, pairs_tail}
use Rattle.gm_graph_select.proofs.Greatest.{equal_itself}

abbrev Below : ModuleVersion → ModuleVersion → Type 0
Below x y = pair_cmp x y ≡ Less

-- ---- two vertices, one less than the other

-- It has a lesser path, or a lower version of the same path.
below_parts : (x y : ModuleVersion) → Below x y → (path_cmp x y ≡ Less) ⊎ ((x.0 ≡ y.0) × (version_cmp x.1 y.1 ≡ Less))
below_parts x y h = go (slice_cmp nat_cmp x.0 y.0) refl h
  where
    go : (r : Ordering) → slice_cmp nat_cmp x.0 y.0 ≡ r → ordering_then r (version_cmp x.1 y.1) ≡ Less
        → (path_cmp x y ≡ Less) ⊎ ((x.0 ≡ y.0) × (version_cmp x.1 y.1 ≡ Less))
    go Less e h = inl e
    go Equal e h = inr (slice_cmp-same x.0 y.0 e, h)
    go Greater e h = cc

no_lower_path : (x y : ModuleVersion) → x.0 ≡ y.0 → path_cmp x y ≡ Less → ⊥
no_lower_path x y same less = less_itself nat_list_cmp_total x.0 (rw (← same) at less)

lower_version : (x y : ModuleVersion) → Below x y → x.0 ≡ y.0 → version_cmp x.1 y.1 ≡ Less
lower_version x y h same = elim (below_parts x y h) [
  | inl less ↦ absurd (no_lower_path x y same less)
  | inr found ↦ found.1
]

lower_path : (x y : ModuleVersion) → Below x y → y.0 ≢ x.0 → path_cmp x y ≡ Less
lower_path x y h apart = elim (below_parts x y h) [
  | inl less ↦ less
  | inr found ↦ absurd (apart (sym found.0))
]

-- ---- after the last vertex of a path come other paths

other_paths : (z : ModuleVersion) (zs : List ModuleVersion) → IsAscending pair_cmp (z ∷ zs)
    → first_has_path z.0 zs ≡ false → (y : ModuleVersion) → Contains zs y → y.0 ≢ z.0
other_paths z [] up e y h same = no_member y h
other_paths z (next ∷ zs) up e y h same = elim (member_cases next y zs h) [
  | inl is ↦ apart (ap (λ (v : ModuleVersion). v.0) is ∙ same)
  | inr later ↦ behind (below_parts next y (pairs_head Below next y zs (pairs_tail Below z (next ∷ zs) up) later))
]
  where
    apart : next.0 ≢ z.0
    apart = bytes_eq-differ next.0 z.0 e

    above : path_cmp z next ≡ Less
    above = lower_path z next (pairs_head Below z next (next ∷ zs) up (member_head next zs)) apart

    behind : (path_cmp next y ≡ Less) ⊎ ((next.0 ≡ y.0) × (version_cmp next.1 y.1 ≡ Less)) → ⊥
    behind (inl less) = no_lower_path z y (sym same) (nat_list_cmp_total.trans z.0 next.0 y.0 above less)
    behind (inr found) = apart (found.0 ∙ same)

not_and_parts : (a b : Bool) → (not a && not b) ≡ true → (a ≡ false) × (b ≡ false)
not_and_parts true b e = absurd (false≢true e)
not_and_parts false true e = absurd (false≢true e)
not_and_parts false false e = (refl, refl)

both_not : (a b : Bool) → a ≡ false → b ≡ false → (not a && not b) ≡ true
both_not true b e f = cc
both_not false true e f = cc
both_not false false e f = refl

apart_texts : (a b : List ℕ) → a ≢ b → bytes_eq a b ≡ false
apart_texts a b apart = go (bytes_eq a b) refl
  where
    go : (r : Bool) → bytes_eq a b ≡ r → bytes_eq a b ≡ false
    go true e = absurd (apart ((bytes_eq-Decides a b).0 e))
    go false e = e

-- ---- what is selected

-- The path is not the main module's, and none of these vertices has a greater version of it.
abbrev IsGreatestOf : List ℕ → List ModuleVersion → ModuleVersion → Type 0
IsGreatestOf main xs x = (x.0 ≢ main) × Contains xs x × ((y : ModuleVersion) → Contains xs y → y.0 ≡ x.0 → is_gt (version_cmp y.1 x.1) ≡ false)

-- one more vertex at the beginning
selected_first : (main : List ℕ) (z : ModuleVersion) (zs : List ModuleVersion) → IsAscending pair_cmp (z ∷ zs)
    → is_selected main z zs ≡ true → IsGreatestOf main (z ∷ zs) z
selected_first main z zs up e =
    let two = not_and_parts (bytes_eq z.0 main) (first_has_path z.0 zs) e in (
      bytes_eq-differ z.0 main two.0,
      member_head z zs,
      (λ y there same. elim (member_cases z y zs there) [
        | inl is ↦ rw⁻¹ is (equal_itself z.1)
        | inr later ↦ absurd (other_paths z zs up two.1 y later same)
      ]),
    )

selected_behind : (main : List ℕ) (z : ModuleVersion) (zs : List ModuleVersion) → IsAscending pair_cmp (z ∷ zs)
    → (x : ModuleVersion) → IsGreatestOf main zs x → IsGreatestOf main (z ∷ zs) x
selected_behind main z zs up x is =
    let lower : Below z x = pairs_head Below z x zs up is.1 in (
      is.0,
      member_tail z x zs is.1,
      (λ y there same. elim (member_cases z y zs there) [
        | inl first ↦ rw⁻¹ first
            (ap is_gt (lower_version z x lower (ap (λ (v : ModuleVersion). v.0) first ∙ same)))
        | inr later ↦ is.2 y later same
      ]),
    )

selected_by : (main : List ℕ) (z : ModuleVersion) (zs : List ModuleVersion) → IsAscending pair_cmp (z ∷ zs)
    → ((x : ModuleVersion) → Contains (greatest_of main zs) x → IsGreatestOf main zs x)
    → (x : ModuleVersion) (b : Bool) → is_selected main z zs ≡ b
    → Contains (if b then z ∷ greatest_of main zs else greatest_of main zs) x → IsGreatestOf main (z ∷ zs) x
selected_by main z zs up behind x true e h = elim (member_cases z x (greatest_of main zs) h) [
  | inl is ↦ rw⁻¹ is (selected_first main z zs up e)
  | inr later ↦ selected_behind main z zs up x (behind x later)
]
selected_by main z zs up behind x false e h = selected_behind main z zs up x (behind x h)

selected_is : (main : List ℕ) (xs : List ModuleVersion) → IsAscending pair_cmp xs → (x : ModuleVersion)
    → Contains (greatest_of main xs) x → IsGreatestOf main xs x
selected_is main [] up x h = absurd (no_member x h)
selected_is main (z ∷ zs) up x h = selected_by main z zs up (λ y there. selected_is main zs (pairs_tail Below z zs up) y there) x (is_selected main z zs) refl h

-- What is selected among the vertices behind the first one is selected.
selected_later : (main : List ℕ) (z x : ModuleVersion) (zs : List ModuleVersion) → Contains (greatest_of main zs) x → Contains (greatest_of main (z ∷ zs)) x
selected_later main z x zs h = along (is_selected main z zs)
  where
    along : (b : Bool) → Contains (if b then z ∷ greatest_of main zs else greatest_of main zs) x
    along true = member_tail z x (greatest_of main zs) h
    along false = h

selected_now : (main : List ℕ) (z : ModuleVersion) (zs : List ModuleVersion) → is_selected main z zs ≡ true → Contains (greatest_of main (z ∷ zs)) z
selected_now main z zs is = rw is (member_head z (greatest_of main zs))

-- No vertex of the same path comes after the greatest version.
last_of_path : (z : ModuleVersion) (zs : List ModuleVersion) → IsAscending pair_cmp (z ∷ zs)
    → ((y : ModuleVersion) → Contains zs y → y.0 ≡ z.0 → is_gt (version_cmp y.1 z.1) ≡ false)
    → first_has_path z.0 zs ≡ false
last_of_path z [] up top = refl
last_of_path z (next ∷ zs) up top = apart_texts next.0 z.0 (λ same.
    let less = lower_version z next (pairs_head Below z next (next ∷ zs) up (member_head next zs)) (sym same) in
    let more : version_cmp next.1 z.1 ≡ Greater = version_total.antisymm next.1 z.1 ∙ ap ordering_reverse less in
    false≢true (sym (top next (member_head next zs) same) ∙ ap is_gt more))

is_selected_in : (main : List ℕ) (xs : List ModuleVersion) → IsAscending pair_cmp xs → (x : ModuleVersion)
    → IsGreatestOf main xs x → Contains (greatest_of main xs) x
is_selected_in main [] up x is = absurd (no_member x is.1)
is_selected_in main (z ∷ zs) up x is = elim (member_cases z x zs is.1) [
  | inl first ↦ rw⁻¹ first (selected_now main z zs (rw first (both_not (bytes_eq x.0 main) (first_has_path x.0 zs) (apart_texts x.0 main is.0)
      (last_of_path x zs (rw first at up) (λ y there. is.2 y (member_tail z y zs there))))))
  | inr later ↦ selected_later main z x zs
      (is_selected_in main zs (pairs_tail Below z zs up) x (is.0, later, λ y there. is.2 y (member_tail z y zs there)))
]

-- ---- each path has a selected vertex

abbrev HasSelected : List ℕ → List ModuleVersion → List ℕ → Type 0
HasSelected main xs path = (x : ModuleVersion) × Contains (greatest_of main xs) x × (x.0 ≡ path)

-- Among the vertices from one on, if the next one has its path only if there is one behind it.
selected_from : (main : List ℕ) (z : ModuleVersion) (zs : List ModuleVersion) → z.0 ≢ main
    → (first_has_path z.0 zs ≡ true → HasSelected main zs z.0) → HasSelected main (z ∷ zs) z.0
selected_from main z zs apart behind = elim (cases_Bool (first_has_path z.0 zs)) [
  | inl more ↦ let (x, there, is) = behind more in (x, selected_later main z x zs there, is)
  | inr last ↦ (z, selected_now main z zs (both_not (bytes_eq z.0 main) (first_has_path z.0 zs) (apart_texts z.0 main apart) last), refl)
]

selected_behind_first : (main : List ℕ) (z : ModuleVersion) (zs : List ModuleVersion) → z.0 ≢ main
    → ((y : ModuleVersion) → Contains zs y → y.0 ≢ main → HasSelected main zs y.0) → first_has_path z.0 zs ≡ true → HasSelected main zs z.0
selected_behind_first main z [] apart each none = absurd (false≢true none)
selected_behind_first main z (next ∷ zs) apart each same =
    let is = (bytes_eq-Decides next.0 z.0).0 same in
    let (x, there, path) = each next (member_head next zs) (λ e. apart (sym is ∙ e)) in (x, there, path ∙ is)

-- Each path of the vertices but the main module's has one.
pub path_selected : (main : List ℕ) (xs : List ModuleVersion) (y : ModuleVersion) → Contains xs y → y.0 ≢ main → HasSelected main xs y.0
path_selected main [] y there apart = absurd (no_member y there)
path_selected main (z ∷ zs) y there apart = elim (member_cases z y zs there) [
  | inl is ↦ rw⁻¹ is (selected_from main z zs (rw is apart)
      (selected_behind_first main z zs (rw is apart) (λ v within other. path_selected main zs v within other)))
  | inr later ↦ let (x, found, is) = path_selected main zs y later apart in (x, selected_later main z x zs found, is)
]

-- ---- their order

ascend_by : (main : List ℕ) (z : ModuleVersion) (zs : List ModuleVersion) → IsAscending pair_cmp (z ∷ zs)
    → IsAscending path_cmp (greatest_of main zs) → (b : Bool) → is_selected main z zs ≡ b
    → IsAscending path_cmp (if b then z ∷ greatest_of main zs else greatest_of main zs)
ascend_by main z zs up behind true e = pairs_cons (λ x y. path_cmp x y ≡ Less) z (greatest_of main zs)
    (λ y h. let there = (selected_is main zs (pairs_tail Below z zs up) y h).1 in
    lower_path z y (pairs_head Below z y zs up there) (other_paths z zs up (not_and_parts (bytes_eq z.0 main) (first_has_path z.0 zs) e).1 y there)) behind
ascend_by main z zs up behind false e = behind

selected_ascend : (main : List ℕ) (xs : List ModuleVersion) → IsAscending pair_cmp xs → IsAscending path_cmp (greatest_of main xs)
selected_ascend main [] up = λ i j d lt below. absurd (omega (arith, below))
selected_ascend main (z ∷ zs) up = ascend_by main z zs up (selected_ascend main zs (pairs_tail Below z zs up)) (is_selected main z zs) refl

-- Of vertices in ascending order, these are the selected ones of every relation that leads to exactly those vertices.
pub are_selected : (main : List ℕ) (xs : List ModuleVersion) → IsAscending pair_cmp xs → (edges : Edges)
    → AreEnds xs edges → AreSelected main edges (greatest_of main xs)
are_selected main xs up edges ends = record {
  ascending = selected_ascend main xs up;
  each = λ x. (
    (λ h. let is = selected_is main xs up x h in record { not_main = is.0; is_end = (ends x).0 is.1; greatest = λ y end same. is.2 y ((ends y).1 end) same }),
    (λ is. is_selected_in main xs up x (is.not_main, (ends x).1 is.is_end, λ y there same. is.greatest y ((ends y).0 there) same)),
  );
}

-- The main module and the selected vertices are the build list.
pub listed : {R : Type 0} {main : List ℕ} {edges : Edges} {xs : List ModuleVersion} (replaces : ModuleVersion → Option R)
    → AreSelected main edges xs → IsBuildList main replaces edges (main_entry ∷ map (entry_of replaces) xs)
listed {xs} replaces are = record { selected = xs; entries_are = refl; ascending = are.ascending; each = are.each }
