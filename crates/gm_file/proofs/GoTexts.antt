-- The positions at which the texts of go versions are split.
use Rattle.std.proofs.Common.{◌≡◌, ◌≢◌, ℕ, ◌+◌, ◌-◌, ◌==◌, ◌<◌, ◌≤◌, nat_lt, Bool, true, false, List, [], ◌∷◌, length, get_or, drop, take_while, Option, Some, None, inl, inr, refl, subst, ◌∙◌, arith}
use Rattle.std.specs.Prelude.{if◌then◌else◌, is_some}
use Rattle.std.proofs.Math.ListN.{drop_of_length-le}
use Rattle.std.proofs.lemmas.Bool.{cases_Bool, cases_lt}
use Rattle.std.proofs.lemmas.Bool.Decides.{nat_tests}
use Rattle.std.proofs.lemmas.List.Folds.{length-prefix_len}
use Rattle.std.proofs.lemmas.List.Sums.{prefix_len-le-length, prefix_len_passes}
use Rattle.std.proofs.lemmas.Str.{IsCharBoundary-start, IsCharBoundary-after_ascii}
use Rattle.std.specs.Char.{is_ascii_digit}
use Rattle.std.specs.List.{list_any, position_or_len}
use Rattle.std.specs.Str.{IsCharBoundary, IsUtf8}
use Rattle.gm_file.specs.GoVersions.{after_dot, before_dot, has_dot, is_go_suffix, last_number, lax_go, lax_go_text, numbers, second_number, small_number, strict_go}
use Rattle.gm_file.specs.Values.{both}

digit-ascii : {b : ℕ} → is_ascii_digit b ≡ true → b < 128
digit-ascii e = grind (arith, nat_tests)

boundary-at : (text : List ℕ) (n : ℕ) → IsUtf8 text → n ≤ length text → ((k : ℕ) → k < n → is_ascii_digit (get_or text k 0) ≡ true) → IsCharBoundary text n
boundary-at text n utf8 le passes = elim (cases_lt 0 n) [
  | inl some ↦
      let lt : n - 1 < length text = omega (arith, le, some) in
      let e : (n - 1) + 1 ≡ n = omega (arith, some) in
      let small : get_or text (n - 1) 0 < 128 = digit-ascii (passes (n - 1) (omega (arith, some))) in
      rw e at (IsCharBoundary-after_ascii _ _ utf8 lt small)
  | inr none ↦
      let e : 0 ≡ n = omega (arith, none) in
      subst (IsCharBoundary text) e (IsCharBoundary-start text utf8)
]

-- a text may be split after the digits that it begins with
pub digits-boundary : (text : List ℕ) → IsUtf8 text → IsCharBoundary text (length (take_while is_ascii_digit text))
digits-boundary text utf8 =
    rw (length-prefix_len _ _) (boundary-at _ _ utf8 (prefix_len-le-length _ _)
    (λ k lt. prefix_len_passes is_ascii_digit text k 0 lt))

-- a list has an element that passes a test if the first one's position is inside the list
any-position : (p : ℕ → Bool) (xs : List ℕ) → list_any p xs ≡ nat_lt (position_or_len p xs) (length xs)
any-position p [] = refl
any-position p (x ∷ xs) = elim (cases_Bool (p x)) [
  | inl holds ↦ rw holds (grind (arith, nat_tests))
  | inr fails ↦ let rest = any-position p xs in rw (fails, rest) (grind (arith, nat_tests))
]

pub dot-none : (text : List ℕ) → position_or_len (λ b. b == 46) text ≡ length text → has_dot text ≡ false
dot-none text e = any-position (λ b. b == 46) text ∙ (let f : nat_lt (position_or_len (λ b. b == 46) text) (length text)
    ≡ false = grind (arith, nat_tests) in f)

pub dot-some : (text : List ℕ) → position_or_len (λ b. b == 46) text < length text → has_dot text ≡ true
dot-some text lt = any-position (λ b. b == 46) text ∙ (let f : nat_lt (position_or_len (λ b. b == 46) text)
    (length text) ≡ true = grind (arith, nat_tests) in f)

both-none : (o : Option ℕ) → both numbers o None ≡ None
both-none None = refl
both-none (Some n) = refl

drop-past : (text : List ℕ) (n : ℕ) → n ≡ length text → drop (n + 1) text ≡ []
drop-past text n e = drop_of_length-le text (omega (arith, e))

-- a text without a dot has nothing after a dot
pub nothing-after : (text : List ℕ) → position_or_len (λ b. b == 46) text ≡ length text → after_dot text ≡ []
nothing-after text e = drop-past _ _ e

pub strict-none : (text : List ℕ) → position_or_len (λ b. b == 46) text ≡ length text → strict_go text ≡ None
unfolding strict_go second_number last_number small_number is_go_suffix
strict-none text e = rw (nothing-after _ e) (both-none _)

pub lax-none : (text : List ℕ) → position_or_len (λ b. b == 46) text ≡ length text → lax_go_text text ≡ None
unfolding lax_go_text small_number
lax-none text e = rw (nothing-after _ e) (both-none _)

pub lax-plain : (text : List ℕ) → ((rest : List ℕ) → text ≢ 118 ∷ rest) → lax_go text ≡ lax_go_text text
unfolding lax_go
lax-plain [] none = refl
lax-plain (b ∷ text) none = elim (cases_Bool (b == 118)) [
  | inl holds ↦ let e : b ≡ 118 = grind (arith, nat_tests) in absurd (none text (rw e))
  | inr fails ↦ rw fails refl
]

-- the second number of a text that is split at its first dot
pub second-cut : (text second third : List ℕ) → position_or_len (λ b. b == 46) text < length text → second ≡ before_dot text → third ≡ after_dot text
    → second_number text ≡ (if is_some (last_number third) then small_number second else None)
unfolding second_number
second-cut text second third lt es et = rw (dot-some _ lt, ← es, ← et) refl
