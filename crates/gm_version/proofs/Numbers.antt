-- The text of a number has only digits; `parse` reads the number that `decimal` writes, if the text begins like a number.
use Rattle.std.proofs.Common.{◌≡◌, ◌≢◌, ℕ, ◌^◌, ◌<◌, true, false, List, length, get_or, Result, Ok, Err, refl, sym, inl, inr, arith, rules, IfNone, IfSome}
use Rattle.std.proofs.lemmas.Bool.{cases_lt}
use Rattle.std.proofs.lemmas.Bool.Decides.{nat_tests}
use Rattle.std.proofs.lemmas.Fmt.{decimal-digits_value, decimal_digit, decimal_nonempty, digits_decimal, digits_value-decimal, first_decimal}
use Rattle.std.proofs.lemmas.Str.Parse.{IsNumeralModel, digit_at, numerals_by_value, parse_plain, tells_digits}
use Rattle.std.specs.Char.{is_ascii_digit}
use Rattle.std.specs.Fmt.{decimal}
use Rattle.std.specs.List.{list_all}
use Rattle.std.specs.Result.{result_ok}
use Rattle.std.specs.Str.Parse.{AllDigits, ParsesUnsigned, digits_value}
use Rattle.gm_version.specs.Number.{IsNumber, starts_as_no_number}

pub digits : IsNumeralModel (λ ds. list_all is_ascii_digit ds ≡ true) (digits_value 10)
digits = numerals_by_value (λ ds. list_all is_ascii_digit ds ≡ true) (search rules)

-- the text of a number has only digits
pub decimal-digits : (n : ℕ) → n < 2 ^ 64 → list_all is_ascii_digit (decimal n) ≡ true
decimal-digits n small = digits_decimal digits n small

numerals : IsNumeralModel (AllDigits 10) (digits_value 10)
numerals = numerals_by_value (AllDigits 10) tells_digits

-- the text of a number begins like a number
pub starts-decimal : (n : ℕ) → n < 2 ^ 64 → starts_as_no_number (decimal n) ≡ false
starts-decimal n small =
    let some = decimal_nonempty n small in
    let digit = digit_at (decimal n) 0 (digits_decimal numerals n small) some in
    elim (cases_lt 0 n) [
      | inl positive ↦ let first = first_decimal n positive small in grind (arith, nat_tests)
      | inr none ↦
          let e : n ≡ 0 = omega arith in
          rw (e, decimal_digit 0 (omega arith)) refl
    ]

-- what `parse` returns for a text that begins like a number
pub read-decimal : {E : Type 0} (bs : List ℕ) (r : Result ℕ E) → starts_as_no_number bs ≡ false → ParsesUnsigned 64 10 bs r
    → IfSome (result_ok r) (IsNumber bs) × IfNone (result_ok r) ((n : ℕ) → ¬ (IsNumber bs n))
read-decimal {E} bs (Ok x) start h =
    let plain : get_or bs 0 0 ≢ 43 = grind (arith, nat_tests) in
    let some : 0 < length bs = grind (arith, nat_tests) in
    let zero : get_or bs 0 0 ≡ 48 → length bs ≡ 1 = λ z. grind (arith, nat_tests) in
    let p = parse_plain numerals {E = E} 64 bs (Ok x) h plain in
    (rw p.1 (p.0.2, sym (decimal-digits_value numerals bs p.0.0 some zero p.0.2)), tt)
read-decimal {E} bs (Err e) start h =
    let plain : get_or bs 0 0 ≢ 43 = grind (arith, nat_tests) in
    let p = parse_plain numerals {E = E} 64 bs (Err e) h plain in
    (tt, λ n is. p (rw is.1 (digits_decimal numerals n is.0, decimal_nonempty n is.0, rw (digits_value-decimal numerals n is.0) is.0)))
