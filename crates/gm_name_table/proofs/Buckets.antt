-- What buckets of any kind hold after one of them was changed, and that a number chooses one of them.
use Rattle.std.proofs.Common.{◌≡◌, ◌∙◌, ◌+◌, ◌<◌, ◌≤◌, ◌*◌, ℕ, zero, suc, cond, List, [], ◌∷◌, ◌++◌, ◌/◌, Option, None, Some, length, get_or, length-append, replicate, nat_eq, ap, refl, sym, subst, inl, inr, arith}
use Rattle.std.specs.Prelude.{slice_get}
use Rattle.std.specs.Option.{option_and_then}
use Rattle.std.proofs.Math.ListN.{set}
use Rattle.std.proofs.Math.Nat.{mul-suc, mul-zero, mul_assoc}
use Rattle.std.proofs.lemmas.Bool.{cases_eq, cases_lt, ne_eqb}
use Rattle.std.proofs.lemmas.List.{length-set, get_or-set_same, set-get_or}
use Rattle.std.proofs.lemmas.Option.{slice_get_past, slice_get_read}
use Rattle.gm_name_table.specs.Buckets.{PutsIn, bucket_of, value_at, value_in}
use Rattle.gm_name_table.specs.Private.Tags.{AreParts}

-- A list with one item changed has that item in its place.
pub there : {X : Type 0} (xs : List X) (i : ℕ) (x : X) → i < length xs → slice_get (set xs i x) i ≡ Some x
there xs i x within = slice_get_read (set xs i x) (length xs) i x (sym (length-set xs i x)) within (sym (get_or-set_same xs i x x within))

-- It has the others in theirs.
pub elsewhere : {X : Type 0} (xs : List X) (i j : ℕ) (x : X) → (i ≡ j → ⊥) → slice_get (set xs i x) j ≡ slice_get xs j
elsewhere [] i j x apart = refl
elsewhere (y ∷ ys) zero zero x apart = absurd (apart refl)
elsewhere (y ∷ ys) zero (suc j) x apart = refl
elsewhere (y ∷ ys) (suc i) zero x apart = refl
elsewhere (y ∷ ys) (suc i) (suc j) x apart = elsewhere ys i j x (λ e. apart (ap suc e))

-- A bucket that was put back as it was changes nothing.
pub set_there : {B : Type 0} (buckets : List B) (old new : B) (at : ℕ) → old ≡ get_or buckets at old → new ≡ old → set buckets at new ≡ buckets
set_there {B} buckets old new at is same = ap (set buckets at) (same ∙ is) ∙ set-get_or buckets at old

-- What the bucket at a place holds is what they hold there.
pub value_there : {B : Type 0} (holds : B → ℕ → Option ℕ) (buckets : List B) (old : B) (at n : ℕ) → at < length buckets → old ≡ get_or buckets at old
    → value_at holds buckets at n ≡ holds old n
value_there {B} holds buckets old at n within is =
    ap (λ o. option_and_then (λ bucket. holds bucket n) o) (slice_get_read buckets (length buckets) at old refl within is)

-- What is put in the bucket of its number is put in all.
pub put_in : {B : Type 0} (holds : B → ℕ → Option ℕ) (choice : ℕ → ℕ → ℕ) (buckets : List B) (old new : B) (at number value : ℕ)
    → at ≡ choice number (length buckets) → at < length buckets → old ≡ get_or buckets at old → PutsIn holds old new number value
    → (n : ℕ) → value_in holds choice (set buckets at new) n ≡ cond (nat_eq number n) (Some value) (value_in holds choice buckets n)
put_in {B} holds choice buckets old new at number value chosen within is puts n =
    ap (λ many. value_at holds (set buckets at new) (choice n many) n) (length-set buckets at new)
    ∙ elim (cases_eq at (choice n (length buckets))) [ inl same ↦ here same | inr apart ↦ other apart ]
  where
    here : at ≡ choice n (length buckets)
        → value_at holds (set buckets at new) (choice n (length buckets)) n ≡ cond (nat_eq number n) (Some value) (value_in holds choice buckets n)
    here same =
        subst (λ m. value_at holds (set buckets at new) m n ≡ cond (nat_eq number n) (Some value) (value_at holds buckets m n)) same
        (ap (λ o. option_and_then (λ bucket. holds bucket n) o) (there buckets at new within)
        ∙ puts n
        ∙ ap (cond (nat_eq number n) (Some value)) (sym (value_there holds buckets old at n within is)))

    other : (at ≡ choice n (length buckets) → ⊥)
        → value_at holds (set buckets at new) (choice n (length buckets)) n ≡ cond (nat_eq number n) (Some value) (value_in holds choice buckets n)
    other apart =
        ap (λ o. option_and_then (λ bucket. holds bucket n) o) (elsewhere buckets at (choice n (length buckets)) new apart)
        ∙ sym (ap (λ b. cond b (Some value) (value_in holds choice buckets n))
        (ne_eqb number n (λ same. apart (chosen ∙ ap (λ m. choice m (length buckets)) same))))

mul-below : (number many : ℕ) → number < 4294967296 → number * many + many ≤ 4294967296 * many
mul-below number zero small = omega (arith, mul-zero number)
mul-below number (suc many) small = omega (arith, small, mul-below number many small, mul-suc number many)

-- A number of 32 bits chooses a bucket that there is.
pub within : (number many : ℕ) → number < 4294967296 → 0 < many → bucket_of number many < many
within number many fits some =
    let product = mul-below number many fits in
    omega (arith, product, some)

-- Buckets that are all the same empty one hold nothing.
pub none_in : {B : Type 0} (holds : B → ℕ → Option ℕ) (bucket : B) → ((number : ℕ) → holds bucket number ≡ None)
    → (many at number : ℕ) → value_at holds (replicate many bucket) at number ≡ None
none_in holds bucket none zero at number = refl
none_in holds bucket none (suc many) zero number = none number
none_in holds bucket none (suc many) (suc at) number = none_in holds bucket none many at number

-- An item that was added stands past the others.
pub last : {X : Type 0} (xs : List X) (x : X) → slice_get (xs ++ x ∷ []) (length xs) ≡ Some x
last [] x = refl
last (first ∷ xs) x = last xs x

-- The others stand where they stood.
pub before : {X : Type 0} (xs : List X) (x : X) (i : ℕ) → i < length xs → slice_get (xs ++ x ∷ []) i ≡ slice_get xs i
before [] x i within = absurd (omega (arith, within))
before (first ∷ xs) x zero within = refl
before (first ∷ xs) x (suc i) within = before xs x i (omega (arith, within))

-- With one more part, which holds what the bucket that it is half of holds, parts are parts.
pub one_more_part : {B : Type 0} (holds : B → ℕ → Option ℕ) (choice : ℕ → ℕ → ℕ) (buckets : List B) (many : ℕ) (parts : List B) (whole part : B)
    → AreParts holds choice buckets many parts → slice_get buckets (length parts / 2) ≡ Some whole
    → ((number : ℕ) → choice number many ≡ length parts → holds part number ≡ holds whole number)
    → AreParts holds choice buckets many (parts ++ part ∷ [])
one_more_part {B} holds choice buckets many parts whole part are is same at number within chosen = elim (cases_eq at (length parts)) [
  | inl end ↦
      subst (λ n. value_at holds (parts ++ part ∷ []) n number ≡ value_at holds buckets (n / 2) number) (sym end)
      (ap (λ o. option_and_then (λ bucket. holds bucket number) o) (last parts part)
      ∙ same number (chosen ∙ end)
      ∙ ap (λ o. option_and_then (λ bucket. holds bucket number) o) (sym is))
  | inr other ↦
      let small : at < length parts = omega (arith, within, other, length-append parts (part ∷ [])) in
      ap (λ o. option_and_then (λ bucket. holds bucket number) o) (before parts part at small) ∙ are at number small chosen
]

-- Twice as many buckets, each of which is a part, hold what the buckets hold.
pub parts_hold : {B : Type 0} (holds : B → ℕ → Option ℕ) (buckets parts : List B) → length parts ≡ length buckets * 2
    → AreParts holds bucket_of buckets (length buckets * 2) parts → (number : ℕ)
    → value_in holds bucket_of parts number ≡ value_in holds bucket_of buckets number
parts_hold {B} holds buckets parts size are number =
    let many = length buckets in
    let chosen : bucket_of number (length parts) ≡ bucket_of number (many * 2) = ap (bucket_of number) size in
    let product = mul_assoc number many 2 in
    let half : bucket_of number (many * 2) / 2 ≡ bucket_of number many = omega (arith, product) in
    ap (λ at. value_at holds parts at number) chosen
    ∙ elim (cases_lt (bucket_of number (many * 2)) (length parts)) [
      | inl there ↦ are (bucket_of number (many * 2)) number there refl ∙ ap (λ at. value_at holds buckets at number) half
      | inr past ↦
          let outside : many ≤ bucket_of number many = omega (arith, half, past, size) in
          ap (λ o. option_and_then (λ bucket. holds bucket number) o)
          (slice_get_past parts (bucket_of number (many * 2)) past ∙ sym (slice_get_past buckets (bucket_of number many) outside))
    ]
