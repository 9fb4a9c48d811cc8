-- How the classes of bytes relate to each other.
use Rattle.std.proofs.Common.{◌≡◌, ℕ, ◌<◌, true, false, refl, arith}
use Rattle.std.specs.Prelude.{◌||◌, not}
use Rattle.std.proofs.lemmas.Bool.{true≢false}
use Rattle.std.proofs.lemmas.Bool.Decides.{nat_tests}
use Rattle.gm_syntax_words.specs.Bytes.{is_blank, is_bracket_or_comma, is_quote, is_bad, is_word_byte, is_plain}

pub word_not_blank : (b : ℕ) → is_blank b ≡ true → is_word_byte b ≡ false
unfolding is_word_byte
word_not_blank b h = rw h refl

pub word_not_bracket : (b : ℕ) → is_bracket_or_comma b ≡ true → is_word_byte b ≡ false
unfolding is_word_byte
word_not_bracket b h = elim (is_blank b) as (λ v. not (v || (is_bracket_or_comma b || (is_quote b || is_bad b))) ≡ false) [ true ↦ refl | false ↦ rw h refl ]

pub bracket_not_blank : (b : ℕ) → is_bracket_or_comma b ≡ true → is_blank b ≡ false
unfolding is_bracket_or_comma is_blank
bracket_not_blank b h = grind (arith, nat_tests)

pub quote_not_others : (b : ℕ) → is_quote b ≡ true → (is_blank b ≡ false) × (is_bracket_or_comma b ≡ false) × (is_word_byte b ≡ false)
unfolding is_bracket_or_comma is_blank is_quote is_word_byte
quote_not_others b h = (grind (arith, nat_tests), grind (arith, nat_tests), grind (arith, nat_tests))

pub bad_not_others : (b : ℕ) → is_bad b ≡ true → (is_blank b ≡ false) × (is_bracket_or_comma b ≡ false) × (is_quote b ≡ false) × (is_word_byte b ≡ false)
unfolding is_bracket_or_comma is_blank is_quote is_bad is_word_byte
bad_not_others b h = (grind (arith, nat_tests), grind (arith, nat_tests), grind (arith, nat_tests), grind (arith, nat_tests))

pub word_not_others : (b : ℕ) → is_word_byte b ≡ true → (is_blank b ≡ false) × (is_bracket_or_comma b ≡ false) × (is_quote b ≡ false) × (is_bad b ≡ false)
unfolding is_word_byte
word_not_others b h = (grind arith, grind arith, grind arith, grind arith)

pub blank_ascii : (b : ℕ) → is_blank b ≡ true → b < 128
unfolding is_blank
blank_ascii b h = grind (arith, nat_tests)

pub other_ascii : (b : ℕ) → is_word_byte b ≡ false → b < 128
unfolding is_bracket_or_comma is_blank is_quote is_bad is_word_byte
other_ascii b h = grind (arith, nat_tests)

pub slash_word : is_word_byte 47 ≡ true
unfolding is_bracket_or_comma is_blank is_quote is_bad is_word_byte
slash_word = refl

pub equals_word : is_word_byte 61 ≡ true
unfolding is_bracket_or_comma is_blank is_quote is_bad is_word_byte
equals_word = refl

pub star_word : is_word_byte 42 ≡ true
unfolding is_bracket_or_comma is_blank is_quote is_bad is_word_byte
star_word = refl

pub quote_quote : is_quote 34 ≡ true
unfolding is_quote
quote_quote = refl

pub grave_quote : is_quote 96 ≡ true
unfolding is_quote
grave_quote = refl

pub greater_word : is_word_byte 62 ≡ true
unfolding is_bracket_or_comma is_blank is_quote is_bad is_word_byte
greater_word = refl

pub plain_word : (b : ℕ) → is_plain b ≡ true → is_word_byte b ≡ true
unfolding is_plain
plain_word b h = grind arith

pub plain_no_slash : (b : ℕ) → is_plain b ≡ true → (b ≡ 47 → ⊥)
unfolding is_bracket_or_comma is_blank is_quote is_bad is_word_byte is_plain
plain_no_slash b h e = true≢false (rw (← h, e) refl)

pub plain_no_equals : (b : ℕ) → is_plain b ≡ true → (b ≡ 61 → ⊥)
unfolding is_bracket_or_comma is_blank is_quote is_bad is_word_byte is_plain
plain_no_equals b h e = true≢false (rw (← h, e) refl)
