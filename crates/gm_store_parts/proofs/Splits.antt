-- The split of two joined lists.
use Rattle.std.proofs.Common.{◌≡◌, Bool, true, false, not, cond, List, [], ◌∷◌, ◌++◌, ap, ◌∙◌, sym, refl}
use Rattle.std.proofs.lemmas.Bool.{not-true}
use Rattle.std.specs.List.{list_all, onto_first, slice_split}
use Rattle.std.specs.Cmp.{first_so, second_so}

-- joins the parts of two lists: the last part of the first list and the first part of the second become one part
abbrev pub glue_first : {X : Type 0} → List X → List (List X) → List (List X) → List (List X)
glue_first f [] [] = f ∷ []
glue_first f [] (g ∷ gs) = (f ++ g) ∷ gs
glue_first f (f2 ∷ fs) gs = f ∷ glue_first f2 fs gs

abbrev pub glue : {X : Type 0} → List (List X) → List (List X) → List (List X)
glue [] gs = gs
glue (f ∷ fs) gs = glue_first f fs gs

-- a split has at least one part
pub record SplitsOff {X : Type 0} (parts : List (List X)) : Type 0 where
  pub first : List X
  pub others : List (List X)
  pub is : parts ≡ first ∷ others

onto_off : {X : Type 0} (x : X) (parts : List (List X)) → SplitsOff (onto_first x parts)
onto_off x [] = record { first = x ∷ []; others = []; is = refl }
onto_off x (part ∷ parts) = record { first = x ∷ part; others = parts; is = refl }

cond_off : {X : Type 0} (b : Bool) (x : X) (parts : List (List X)) → SplitsOff (cond b ([] ∷ parts) (onto_first x parts))
cond_off true x parts = record { first = []; others = parts; is = refl }
cond_off false x parts = onto_off x parts

pub split_off : {X : Type 0} (p : X → Bool) (xs : List X) → SplitsOff (slice_split p xs)
split_off p [] = record { first = []; others = []; is = refl }
split_off p (x ∷ xs) = cond_off (p x) x (slice_split p xs)

glue_onto : {X : Type 0} (x : X) (f : List X) (fs gs : List (List X)) → onto_first x (glue_first f fs gs) ≡ glue (onto_first x (f ∷ fs)) gs
glue_onto x f [] [] = refl
glue_onto x f [] (g ∷ gs) = refl
glue_onto x f (f2 ∷ fs) gs = refl

glue_step : {X : Type 0} (b : Bool) (x : X) (f : List X) (fs gs : List (List X))
    → cond b ([] ∷ glue_first f fs gs) (onto_first x (glue_first f fs gs))
    ≡ glue (cond b ([] ∷ f ∷ fs) (onto_first x (f ∷ fs))) gs
glue_step true x f fs gs = refl
glue_step false x f fs gs = glue_onto x f fs gs

-- the split of two joined lists is the join of their splits
pub split-append : {X : Type 0} (p : X → Bool) (xs ys : List X) → slice_split p (xs ++ ys) ≡ glue (slice_split p xs) (slice_split p ys)
split-append p [] ys = let off = split_off p ys in rw off.is refl
split-append p (x ∷ xs) ys =
    let off = split_off p xs in
    let rest : slice_split p (xs ++ ys) ≡ glue_first off.first off.others (slice_split p ys) =
    split-append p xs ys ∙ ap (λ fs. glue fs (slice_split p ys)) off.is in
    ap (λ parts. cond (p x) ([] ∷ parts) (onto_first x parts)) rest
    ∙ glue_step (p x) x off.first off.others (slice_split p ys)
    ∙ ap (λ fs. glue (cond (p x) ([] ∷ fs) (onto_first x fs)) (slice_split p ys)) (sym off.is)

pub glue-last : {X : Type 0} (fs : List (List X)) (f g : List X) (gs : List (List X)) → glue (fs ++ f ∷ []) (g ∷ gs) ≡ fs ++ (f ++ g) ∷ gs
glue-last [] f g gs = refl
glue-last (a ∷ []) f g gs = refl
glue-last (a ∷ b ∷ fs) f g gs = ap (λ rest. a ∷ rest) (glue-last (b ∷ fs) f g gs)

-- a list without separators is one part
pub split_plain : {X : Type 0} (p : X → Bool) (xs : List X) → list_all (λ x. not (p x)) xs ≡ true → slice_split p xs ≡ xs ∷ []
split_plain p [] e = refl
split_plain p (x ∷ xs) e =
    let no : p x ≡ false = not-true (p x) (first_so (not (p x)) (list_all (λ x. not (p x)) xs) e) in
    rw (no, split_plain p xs (second_so (not (p x)) (list_all (λ x. not (p x)) xs) e)) refl
