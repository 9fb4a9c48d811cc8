-- The number that the value of `--limit` stands for, by way of `parse`.
use Rattle.std.proofs.Common.{◌≡◌, ◌≢◌, ℕ, ◌∷◌, [], ◌&&◌, ◌^◌, ◌<◌, ◌≤◌, ◌∙◌, ap, subst, nat_lt, Bool, true, false, List, length, get_or, Some, None, Result, Ok, Err, refl, arith, sym}
use Rattle.std.proofs.lemmas.Bool.{and_from, and_left}
use Rattle.std.proofs.lemmas.Bool.Decides.{nat_tests}
use Rattle.std.proofs.lemmas.Str.Parse.{parse_plain}
use Rattle.std.specs.Char.{is_ascii_digit}
use Rattle.std.specs.List.{list_all}
use Rattle.std.specs.Str.Parse.{ParsesUnsigned, digits_value}
use Rattle.gm_version.proofs.Numbers.{digits}
use Rattle.gm_name.proofs.NameTests.{and_both}
use Rattle.gomod_words.specs.Limits.{limit_of}

-- a text of digits does not begin with a sign
unsigned : (text : List ℕ) → list_all is_ascii_digit text ≡ true → get_or text 0 0 ≢ 43
unsigned [] all = λ e. absurd (omega (arith, e))
unsigned (c ∷ text) all = λ e.
    let first = (and_both _ _ all).0 in
    let plus = e in
    let bad : is_ascii_digit 43 ≡ true = subst (λ d. is_ascii_digit d ≡ true) plus first in
    cc bad

pub limit_no_digits : (text : List ℕ) → list_all is_ascii_digit text ≡ false → limit_of text ≡ None
unfolding limit_of
limit_no_digits text none = rw none refl

limit_by : (text : List ℕ) (a b : Bool) → list_all is_ascii_digit text ≡ true → a ≡ nat_lt 0 (digits_value 10 text) → b ≡ nat_lt (digits_value 10 text) (2 ^ 32)
    → (a && b) ≡ true → limit_of text ≡ Some (digits_value 10 text)
unfolding limit_of
limit_by text true true all some below e = rw (all, ← some, ← below) refl
limit_by text true false all some below e = cc e
limit_by text false b all some below e = cc e

none_by : (text : List ℕ) (a b : Bool) → list_all is_ascii_digit text ≡ true → a ≡ nat_lt 0 (digits_value 10 text) → b ≡ nat_lt (digits_value 10 text) (2 ^ 32)
    → (a && b) ≡ false → limit_of text ≡ None
unfolding limit_of
none_by text true true all some below e = cc e
none_by text true false all some below e = rw (all, ← some, ← below) refl
none_by text false b all some below e = rw (all, ← some) refl

-- a number other than 0 has digits
has_some : (text : List ℕ) → true ≡ nat_lt 0 (digits_value 10 text) → 0 < length text
has_some [] e = cc e
has_some (c ∷ text) e = omega arith

pub limit_read : {E : Type 0} (text : List ℕ) (n : ℕ) → list_all is_ascii_digit text ≡ true → (r : Result ℕ E)
    → r ≡ Ok n → ParsesUnsigned 32 10 text r → 0 < n → Some n ≡ limit_of text
limit_read {E} text n all r is parsed some =
    let known = rw is at (parse_plain digits 32 text r parsed (unsigned text all)) in
    let same = known.1 in
    let below = known.0.2 in
    let value : 0 < digits_value 10 text = subst (λ m. 0 < m) same some in
    let first : nat_lt 0 (digits_value 10 text) ≡ true = grind (arith, nat_tests) in
    let second : nat_lt (digits_value 10 text) (2 ^ 32) ≡ true = grind (arith, nat_tests) in
    ap Some same ∙ sym (limit_by _ _ _ all refl refl (and_from _ _ first second))

pub limit_zero : {E : Type 0} (text : List ℕ) (n : ℕ) → list_all is_ascii_digit text ≡ true → (r : Result ℕ E)
    → r ≡ Ok n → ParsesUnsigned 32 10 text r → n ≤ 0 → None ≡ limit_of text
limit_zero {E} text n all r is parsed none =
    let known = rw is at (parse_plain digits 32 text r parsed (unsigned text all)) in
    let same = known.1 in
    let value : digits_value 10 text ≤ 0 = subst (λ m. m ≤ 0) same none in
    let first : nat_lt 0 (digits_value 10 text) ≡ false = grind (arith, nat_tests) in
    sym (none_by _ _ _ all refl refl (and_left _ _ first))

unread_by : (text : List ℕ) (a b : Bool) → list_all is_ascii_digit text ≡ true → a ≡ nat_lt 0 (digits_value 10 text)
    → b ≡ nat_lt (digits_value 10 text) (2 ^ 32)
    → ¬ ((list_all is_ascii_digit text ≡ true) × (0 < length text) × (digits_value 10 text < 2 ^ 32)) → limit_of text ≡ None
unread_by text true true all some below none =
    let fits : digits_value 10 text < 2 ^ 32 = grind (arith, nat_tests) in
    absurd (none (all, has_some _ some, fits))
unread_by text true false all some below none = none_by _ _ _ all some below refl
unread_by text false b all some below none = none_by _ _ b all some below refl

pub limit_unread : {E : Type 0} (text : List ℕ) (e : E) → list_all is_ascii_digit text ≡ true → ParsesUnsigned 32 10 text (Err e) → limit_of text ≡ None
limit_unread {E} text e all parsed =
    unread_by _ _ _ all refl refl
    (parse_plain digits {E = E} 32 text (Err e) parsed (unsigned text all))
