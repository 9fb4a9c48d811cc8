-- A text that `parse` refuses is not a small number.
use Rattle.std.proofs.Common.{◌≡◌, ◌≢◌, ℕ, ◌&&◌, ◌^◌, ◌<◌, nat_lt, Bool, true, false, List, length, get_or, Some, None, Err, refl, arith, lit<}
use Rattle.std.specs.Prelude.{if◌then◌else◌}
use Rattle.std.proofs.lemmas.Bool.Decides.{nat_tests}
use Rattle.std.proofs.lemmas.Str.Parse.{parse_plain}
use Rattle.std.specs.Char.{is_ascii_digit}
use Rattle.std.specs.Fmt.{decimal}
use Rattle.std.specs.List.{list_all}
use Rattle.std.specs.Str.Parse.{ParsesUnsigned, digits_value}
use Rattle.gm_file.specs.GoVersions.{small_number}
use Rattle.gm_version.specs.Number.{is_decimal, starts_as_no_number}
use Rattle.gm_version.proofs.Numbers.{digits}
use Rattle.gm_name.proofs.NameTests.{and_both, not_true}

unread-by : (text : List ℕ) (b : Bool) → b ≡ nat_lt (digits_value 10 text) 1000000000 → is_decimal text ≡ true
    → ¬ ((list_all is_ascii_digit text ≡ true) × (0 < length text) × (digits_value 10 text < 2 ^ 32))
    → (if is_decimal text && b then Some (digits_value 10 text) else None) ≡ None
unread-by text false is decimal none = rw decimal refl
unread-by text true is decimal none =
    let parts = and_both _ _ decimal in
    let start = not_true (starts_as_no_number text) parts.0 in
    let some : 0 < length text = grind (arith, nat_tests) in
    let below : digits_value 10 text < 1000000000 = grind (arith, nat_tests) in
    let fits : 1000000000 < 2 ^ 32 = lit< tt in
    absurd (none (parts.1, some, omega (arith, below, fits)))

-- a text that `parse` refuses is not a small number
pub unread-small : {E : Type 0} (text : List ℕ) (e : E) → is_decimal text ≡ true → ParsesUnsigned 32 10 text (Err e) → small_number text ≡ None
unfolding small_number
unread-small {E} text e decimal parsed =
    let parts = and_both _ _ decimal in
    let start = not_true (starts_as_no_number text) parts.0 in
    let plain : get_or text 0 0 ≢ 43 = grind (arith, nat_tests) in
    unread-by text _ refl decimal (parse_plain digits {E = E} 32 text (Err e) parsed plain)
