-- What an index holds after one more module.
use Rattle.std.proofs.Common.{◌≡◌, ◌∙◌, ℕ, cond, List, [], ◌∷◌, ◌++◌, Option, None, Some, length, nat_eq, ap, refl, sym, subst, inl, inr}
use Rattle.std.specs.Prelude.{◌⊎◌, slice_get}
use Rattle.std.specs.BTreeMap as map
use Rattle.std.specs.BTreeMap.{BTreeMap}
use Rattle.std.specs.Ordering.{is_eq}
use Rattle.std.proofs.lemmas.Bool.{cases_Bool, eq-eqb, eqb-true}
use Rattle.gm_name_table.specs.Buckets.{PutsIn}
use Rattle.gm_name.specs.ModuleVersion.{ModuleVersion, pair_cmp}
use Rattle.gm_name.specs.Private.ModuleVersion.{pair-tie}
use Rattle.gm_name_table.specs.TagIndex.{place_under}
use Rattle.gm_name_table.specs.declared.tag_index.TagIndex.{TagIndex}
use Rattle.gm_name_table.specs.Index.{IsIndexOf, pair_tag}
use Rattle.gm_name_table.specs.Private.Lists.{IsAbsent}
use Rattle.gm_name_table.proofs.Buckets.{last}
use Rattle.gm_name_table.proofs.Lists.{kept, old-or-last, still-distinct}

-- A place that was put under a number that had none leaves the others as they were.
put-apart : (n m i place : ℕ) (old new : Option ℕ) → new ≡ cond (nat_eq n m) (Some place) old
    → (n ≡ m → old ≡ None) → old ≡ Some i → new ≡ Some i
put-apart n m i place old new puts none is = elim (cases_Bool (nat_eq n m)) [
  | inl e ↦ absurd (cc (none (eqb-true n m e), is))
  | inr e ↦ rw (puts, e) is
]

-- A tag that has a place isn't one without.
pub has-place : (held : Option ℕ) (place : ℕ) → held ≡ Some place → held ≡ None → ⊥
has-place held place is none = absurd (cc (is, none))

-- A tag that has a place still has one, after any tag got one.
still-taken : (n m place : ℕ) (old new : Option ℕ) → new ≡ cond (nat_eq n m) (Some place) old → (old ≡ None → ⊥) → new ≡ None → ⊥
still-taken n m place old new puts taken none = elim (cases_Bool (nat_eq n m)) [
  | inl e ↦ absurd (cc (rw (puts, e) at none))
  | inr e ↦ taken (rw (puts, e) at none)
]

-- One more module, under its tag, which had no place.
pub added-first : (old new : TagIndex) (others : BTreeMap ModuleVersion ℕ) (pairs : List ModuleVersion) (pair : ModuleVersion)
    → IsIndexOf (record { first = old; others = others }) pairs → IsAbsent pairs pair
    → place_under old (pair_tag pair) ≡ None → PutsIn place_under old new (pair_tag pair) (length pairs)
    → IsIndexOf (record { first = new; others = others }) (pairs ++ pair ∷ [])
added-first old new others pairs pair is absent none puts = record {
  distinct = still-distinct pairs pair is.distinct absent;
  others = λ i p e. kept pairs pair p i (is.others i p e);
  complete = λ i p e. elim (old-or-last pairs pair p i e) [
    | inl there ↦ before i p (is.complete i p there)
    | inr end ↦ inl (here i p end.0 end.1)
  ];
}
  where
    before : (i : ℕ) (p : ModuleVersion)
        → (place_under old (pair_tag p) ≡ Some i) ⊎ ((place_under old (pair_tag p) ≡ None → ⊥) × (map.get pair_cmp others p ≡ Some i))
        → (place_under new (pair_tag p) ≡ Some i) ⊎ ((place_under new (pair_tag p) ≡ None → ⊥) × (map.get pair_cmp others p ≡ Some i))
    before i p (inl first) = inl (put-apart (pair_tag pair) (pair_tag p) i (length pairs)
        (place_under old (pair_tag p)) (place_under new (pair_tag p))
        (puts (pair_tag p)) (λ same. subst (λ n. place_under old n ≡ None) same none) first)
    before i p (inr other) = inr (
      still-taken (pair_tag pair) (pair_tag p) (length pairs) (place_under old (pair_tag p)) (place_under new (pair_tag p)) (puts (pair_tag p)) other.0,
      other.1,
    )

    here : (i : ℕ) (p : ModuleVersion) → i ≡ length pairs → pair ≡ p → place_under new (pair_tag p) ≡ Some i
    here i p end same =
        subst (λ q. place_under new (pair_tag q) ≡ Some i) same
        (puts (pair_tag pair)
        ∙ ap (λ b. cond b (Some (length pairs)) (place_under old (pair_tag pair))) (eq-eqb (pair_tag pair) (pair_tag pair) refl)
        ∙ ap Some (sym end))

-- One more module among the others, whose tag has a place.
pub added-other : (first : TagIndex) (old new : BTreeMap ModuleVersion ℕ) (pairs : List ModuleVersion) (pair : ModuleVersion)
    → IsIndexOf (record { first = first; others = old }) pairs
    → IsAbsent pairs pair → (place_under first (pair_tag pair) ≡ None → ⊥)
    → ((p : ModuleVersion)
    → map.get pair_cmp new p ≡ cond (is_eq (pair_cmp pair p)) (Some (length pairs)) (map.get pair_cmp old p))
    → IsIndexOf (record { first = first; others = new }) (pairs ++ pair ∷ [])
added-other first old new pairs pair is absent taken puts = record {
  distinct = still-distinct pairs pair is.distinct absent;
  others = found;
  complete = λ i p e. elim (old-or-last pairs pair p i e) [
    | inl there ↦ before i p there (is.complete i p there)
    | inr end ↦ inr (subst (λ q. place_under first (pair_tag q) ≡ None → ⊥) end.1 taken, here i p end.0 end.1)
  ];
}
  where
    found : (i : ℕ) (p : ModuleVersion) → map.get pair_cmp new p ≡ Some i → slice_get (pairs ++ pair ∷ []) i ≡ Some p
    found i p e = elim (cases_Bool (is_eq (pair_cmp pair p))) [
      | inl tie ↦
          let end : Some (length pairs) ≡ Some i = sym (rw tie at (puts p)) ∙ e in
          subst (λ j. slice_get (pairs ++ pair ∷ []) j ≡ Some p) (cc end) (last pairs pair ∙ ap Some ((pair-tie pair p).0 tie))
      | inr tie ↦ kept pairs pair p i (is.others i p (sym (rw tie at (puts p)) ∙ e))
    ]

    still : (i : ℕ) (p : ModuleVersion) → slice_get pairs i ≡ Some p → map.get pair_cmp old p ≡ Some i → map.get pair_cmp new p ≡ Some i
    still i p there e = elim (cases_Bool (is_eq (pair_cmp pair p))) [
      | inl tie ↦ absurd (absent i (there ∙ ap Some (sym ((pair-tie pair p).0 tie))))
      | inr tie ↦ rw tie at (puts p) ∙ e
    ]

    before : (i : ℕ) (p : ModuleVersion) → slice_get pairs i ≡ Some p
        → (place_under first (pair_tag p) ≡ Some i) ⊎ ((place_under first (pair_tag p) ≡ None → ⊥) × (map.get pair_cmp old p ≡ Some i))
        → (place_under first (pair_tag p) ≡ Some i) ⊎ ((place_under first (pair_tag p) ≡ None → ⊥) × (map.get pair_cmp new p ≡ Some i))
    before i p there (inl e) = inl e
    before i p there (inr e) = inr (e.0, still i p there e.1)

    here : (i : ℕ) (p : ModuleVersion) → i ≡ length pairs → pair ≡ p → map.get pair_cmp new p ≡ Some i
    here i p end same =
        subst (λ q. map.get pair_cmp new q ≡ Some i) same
        (puts pair
        ∙ ap (λ b. cond b (Some (length pairs)) (map.get pair_cmp old pair)) ((pair-tie pair pair).1 refl)
        ∙ ap Some (sym end))
