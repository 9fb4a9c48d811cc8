-- What is at places of a list after one more value, or another one in the place of one.
use Rattle.std.proofs.Common.{◌≡◌, ◌∙◌, ◌<◌, ◌+◌, ℕ, Bool, true, false, cond, List, [], ◌∷◌, ◌++◌, Option, None, Some, length, nat_eq, ap, refl, sym, subst, arith}
use Rattle.std.specs.Prelude.{slice_get}
use Rattle.std.specs.Option.{option_and_then}
use Rattle.std.proofs.Math.ListN.{set}
use Rattle.std.proofs.lemmas.Bool.{eq-eqb, eqb-true}
use Rattle.gm_name_table.specs.Buckets.{PutsIn}
use Rattle.gm_name_table.specs.TagIndex.{HasSame, place_under}
use Rattle.gm_name_table.specs.Private.Tags.{ArePlacesBelow}
use Rattle.gm_name_table.specs.declared.tag_index.TagIndex.{TagIndex}
use Rattle.gm_name_table.proofs.Buckets.{before, elsewhere, last, there}

-- The value that was added is found at the place past the others, and they are found where they were.
pub put_value : {V : Type 0} (values : List V) (value : V) (b : Bool) (old : Option ℕ) → ((place : ℕ) → old ≡ Some place → place < length values)
    → option_and_then (slice_get (values ++ value ∷ [])) (cond b (Some (length values)) old)
    ≡ cond b (Some value) (option_and_then (slice_get values) old)
put_value values value true old within = last values value
put_value values value false None within = refl
put_value values value false (Some place) within = before values value place (within place refl)

-- A value that takes the place of another is found under the tag of the place, and under no other.
pub put_again : {V : Type 0} (values : List V) (value : V) (index : TagIndex) (tag place : ℕ)
    → ArePlacesBelow index (length values) → place_under index tag ≡ Some place
    → (t : ℕ) → option_and_then (slice_get (set values place value)) (place_under index t)
    ≡ cond (nat_eq tag t) (Some value) (option_and_then (slice_get values) (place_under index t))
put_again {V} values value index tag place are is t = by (nat_eq tag t) refl (place_under index t) refl
  where
    by : (b : Bool) → nat_eq tag t ≡ b → (held : Option ℕ) → place_under index t ≡ held
        → option_and_then (slice_get (set values place value)) held ≡ cond b (Some value) (option_and_then (slice_get values) held)
    by true e None none =
        absurd (cc (is, none, ap (place_under index) (eqb-true tag t e)))
    by true e (Some p) at =
        let same : place ≡ p = cc (is, at, ap (place_under index) (eqb-true tag t e)) in
        subst (λ m. slice_get (set values place value) m ≡ Some value) same (there values place value (are.below tag place is))
    by false e None none = refl
    by false e (Some p) at =
        elsewhere values place p value
        (λ same. absurd (cc (e, eq-eqb tag t (are.apart tag t place is (at ∙ ap Some (sym same))))))

-- With one more place, past the others, they are below the next number.
pub one_more_place : (old new : TagIndex) (many tag : ℕ) → ArePlacesBelow old many → PutsIn place_under old new tag many → ArePlacesBelow new (many + 1)
one_more_place old new many tag are puts = record {
  below = λ t p is. below-by (nat_eq tag t) p (place_under old t) (are.below t p) (sym (puts t) ∙ is);
  apart = λ t u p is also. apart-by (nat_eq tag t) (nat_eq tag u) t u p refl refl (sym (puts t) ∙ is) (sym (puts u) ∙ also);
}
  where
    below-by : (b : Bool) (p : ℕ) (held : Option ℕ) → (held ≡ Some p → p < many) → cond b (Some many) held ≡ Some p → p < many + 1
    below-by true p held within e = let same : many ≡ p = cc e in omega (arith, same)
    below-by false p held within e = omega (arith, within e)

    apart-by : (a b : Bool) (t u p : ℕ) → nat_eq tag t ≡ a → nat_eq tag u ≡ b → cond a (Some many) (place_under old t) ≡ Some p
        → cond b (Some many) (place_under old u) ≡ Some p → t ≡ u
    apart-by true true t u p et eu is also = sym (eqb-true tag t et) ∙ eqb-true tag u eu
    apart-by true false t u p et eu is also = let same : many ≡ p = cc is in absurd (omega (arith, same, are.below u p also))
    apart-by false true t u p et eu is also = let same : many ≡ p = cc also in absurd (omega (arith, same, are.below t p is))
    apart-by false false t u p et eu is also = are.apart t u p is also

-- What holds the same has the same places.
pub same_places : (old new : TagIndex) (many : ℕ) → HasSame old new → ArePlacesBelow old many → ArePlacesBelow new many
same_places old new many same are = record {
  below = λ t p is. are.below t p (sym (same t) ∙ is);
  apart = λ t u p is also. are.apart t u p (sym (same t) ∙ is) (sym (same u) ∙ also);
}
