-- The greatest of a growing list of versions.
use Rattle.std.proofs.Common.{MatchOption, Bor, option_map, ◌≡◌, ◌⊎◌, ℕ, ◌<◌, Bool, true, false, List, [], ◌∷◌, ◌++◌, Option, Some, None, take, length, slice_index_or, inl, inr, sym, subst, ap, ◌∙◌, arith, refl, ◌+◌, ◌&&◌}
use Rattle.std.proofs.lemmas.Bool.{and_cases, and_parts}
use Rattle.std.specs.Ordering.{is_gt, ordering_reverse}
use Rattle.std.specs.declared.cmp.Ordering.{Ordering}
use Rattle.std.specs.declared.cmp.Ordering.TheVariants.{Less, Equal, Greater}
use Rattle.std.proofs.lemmas.Cmp.{upto, tied_itself}
use Rattle.std.proofs.lemmas.List.{take_more}
use Rattle.std.proofs.lemmas.List.Elements.{Contains-append_left, Contains-push, Contains-push_cases}
use Rattle.gm_version.specs.Version.{version_cmp}
use Rattle.gm_version.specs.VersionOrder.{version_total}
use Rattle.gm_store.specs.Latest.{IsLatest, NoneConsidered, counts}
use Rattle.gm_store.specs.Private.Versions.{IsGreatestOrNone, is_greater}

-- one more version, which isn't considered or isn't greater
pub greatest_same : (only : Bool) (xs : List (List ℕ)) (x : List ℕ) (best : Option (List ℕ)) → IsGreatestOrNone only xs best
    → (counts only x ≡ false) ⊎ (is_greater x best ≡ false) → IsGreatestOrNone only (xs ++ x ∷ []) best
greatest_same only xs x None known (inl not) = λ other inside. elim (Contains-push_cases xs x other inside) [
  | inl old ↦ known other old
  | inr same ↦ subst (λ v. counts only v ≡ false) same not
]
greatest_same only xs x None known (inr not) = cc not
greatest_same only xs x (Some best) known (inl not) = record {
  listed = Contains-append_left xs (x ∷ []) best known.listed;
  counted = known.counted;
  greatest = λ other inside counted. elim (Contains-push_cases xs x other inside) [
    | inl old ↦ known.greatest other old counted
    | inr same ↦ let e = sym counted ∙ ap (counts only) (sym same) ∙ not in absurd (cc)
  ];
}
greatest_same only xs x (Some best) known (inr not) = record {
  listed = Contains-append_left xs (x ∷ []) best known.listed;
  counted = known.counted;
  greatest = λ other inside counted. elim (Contains-push_cases xs x other inside) [
    | inl old ↦ known.greatest other old counted
    | inr same ↦ subst (λ v. is_gt (version_cmp v best) ≡ false) same not
  ];
}

turned : (r s : Ordering) → r ≡ ordering_reverse s → is_gt s ≡ true → is_gt r ≡ false
turned r Less e g = (cc)
turned r Equal e g = (cc)
turned r Greater e g = ap is_gt e

is_gt-turned : (x best : List ℕ) → is_gt (version_cmp x best) ≡ true → is_gt (version_cmp best x) ≡ false
is_gt-turned x best more = turned (version_cmp best x) (version_cmp x best) (version_total.antisymm best x) more

-- one more version, which is considered and greater
pub greatest_more : (only : Bool) (xs : List (List ℕ)) (x : List ℕ) (best : Option (List ℕ)) → IsGreatestOrNone only xs best
    → counts only x ≡ true → is_greater x best ≡ true → IsGreatestOrNone only (xs ++ x ∷ []) (Some x)
greatest_more only xs x None known counted more = record {
  listed = Contains-push xs x;
  counted = counted;
  greatest = λ other inside count. elim (Contains-push_cases xs x other inside) [
    | inl old ↦ let e = sym count ∙ known other old in absurd (cc)
    | inr same ↦ subst (λ v. is_gt (version_cmp v x) ≡ false) same (ap is_gt (tied_itself version_total x))
  ];
}
greatest_more only xs x (Some best) known counted more = record {
  listed = Contains-push xs x;
  counted = counted;
  greatest = λ other inside count. elim (Contains-push_cases xs x other inside) [
    | inl old ↦ upto version_total other best x (known.greatest other old count) (is_gt-turned x best more)
    | inr same ↦ subst (λ v. is_gt (version_cmp v x) ≡ false) same (ap is_gt (tied_itself version_total x))
  ];
}

pub step_same : (only : Bool) (xs : List (List ℕ)) (i : ℕ) (x : List ℕ) (best : Option (List ℕ)) (better : Bool) → i < length xs
    → x ≡ slice_index_or xs i x → better ≡ (counts only x && is_greater x best) → better ≡ false → IsGreatestOrNone only (take i xs) best
    → IsGreatestOrNone only (take (i + 1) xs) best
step_same only xs i x best better within item is not known =
    rw (take_more xs i x within, ← item) (greatest_same only (take i xs) x best known (and_cases _ _ (sym is ∙ not)))

pub step_more : (only : Bool) (xs : List (List ℕ)) (i : ℕ) (x : List ℕ) (best : Option (List ℕ)) (better : Bool) → i < length xs
    → x ≡ slice_index_or xs i x → better ≡ (counts only x && is_greater x best) → better ≡ true → IsGreatestOrNone only (take i xs) best
    → IsGreatestOrNone only (take (i + 1) xs) (Some x)
step_more only xs i x best better within item is taken known =
    let counted = and_parts _ _ (sym is ∙ taken) in
    rw (take_more xs i x within, ← item) (greatest_more only (take i xs) x best known counted.0 counted.1)

-- if all versions are considered and none is found, there are no versions
pub none_listed : (xs : List (List ℕ)) → NoneConsidered false xs → xs ≡ []
none_listed [] none = refl
none_listed (x ∷ xs) none = let e : true ≡ false = none x (0, omega arith, refl) in cc

-- if there is no release, the greatest of all versions is the latest
pub latest_of_all : (xs : List (List ℕ)) (result : Option (Bor (List ℕ))) → NoneConsidered true xs
    → IsGreatestOrNone false xs (option_map (λ best. best.now) result) → MatchOption result (xs ≡ []) (λ version. IsLatest xs version.now)
latest_of_all xs None none known = none_listed xs known
latest_of_all xs (Some version) none known = inr (none, known)
