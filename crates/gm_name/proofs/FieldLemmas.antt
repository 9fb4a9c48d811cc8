-- Cutting the first word off a line; the fields of a line are that word, and then the fields of the rest.
use Rattle.std.proofs.Common.{◌≡◌, ◌-◌, ◌==◌, ◌++◌, ℕ, Bool, true, false, List, [], ◌∷◌, length, take, drop, ap, ◌∙◌, sym, refl, inl, inr, arith}
use Rattle.std.proofs.lemmas.Grind.{common_steps}
use Rattle.std.proofs.lemmas.Bool.{cases_Bool, eqb-true}
use Rattle.std.proofs.lemmas.Bool.Decides.{nat_tests}
use Rattle.std.proofs.lemmas.List.{take-append-drop}
use Rattle.std.proofs.lemmas.List.Splits.{slice_split-cons_no, slice_split-cons_yes}
use Rattle.std.specs.Prelude.{nat_lt}
use Rattle.std.specs.List.{before_first, filter, list_any, onto_first, position_or_len, prefix_len, slice_split, take_while}
use Rattle.gm_name.specs.Lines.{after_blanks, fields, first_word, is_blank_byte}
use Rattle.gm_name.specs.Cuts.{EndsWord, IsCut, prepend_word}
use Rattle.gm_name.proofs.Fronts.{while-passes}

fields-blank : (b : ℕ) (xs : List ℕ) → is_blank_byte b ≡ true → fields (b ∷ xs) ≡ fields xs
fields-blank b xs e = ap (filter (λ word. nat_lt 0 (length word))) (slice_split-cons_yes is_blank_byte b xs e)

after-blank : (b : ℕ) (xs : List ℕ) → is_blank_byte b ≡ true → after_blanks (b ∷ xs) ≡ after_blanks xs
after-blank b xs e = rw e (grind (arith, common_steps))

after-word : (b : ℕ) (xs : List ℕ) → is_blank_byte b ≡ false → after_blanks (b ∷ xs) ≡ b ∷ xs
after-word b xs e = rw e refl

fields-after : (line : List ℕ) → fields line ≡ fields (after_blanks line)
fields-after [] = refl
fields-after (b ∷ xs) = elim (cases_Bool (is_blank_byte b)) [
  | inl e ↦ fields-blank b xs e ∙ fields-after xs ∙ ap fields (sym (after-blank b xs e))
  | inr e ↦ ap fields (sym (after-word b xs e))
]

-- the text begins with no blank
abbrev pub BeginsNoBlank : List ℕ → Type 0
BeginsNoBlank xs = (c : ℕ) (ys : List ℕ) → xs ≡ c ∷ ys → is_blank_byte c ≡ false

begins : (line : List ℕ) → BeginsNoBlank (after_blanks line)
begins [] c ys is = cc is
begins (b ∷ xs) c ys is = elim (cases_Bool (is_blank_byte b)) [
  | inl e ↦ begins xs c ys (sym (after-blank b xs e) ∙ is)
  | inr e ↦ let same : b ≡ c = cc (sym (after-word b xs e) ∙ is) in rw (← same) e
]

take_before : (x : ℕ) (xs : List ℕ) → is_blank_byte x ≡ false → before_first is_blank_byte (x ∷ xs) ≡ x ∷ before_first is_blank_byte xs
take_before x xs e = rw e (grind (arith, common_steps))

-- the text from its first blank on
abbrev pub from_blank : List ℕ → List ℕ
from_blank xs = drop (position_or_len is_blank_byte xs) xs

drop_before : (x : ℕ) (xs : List ℕ) → is_blank_byte x ≡ false → from_blank (x ∷ xs) ≡ from_blank xs
drop_before x xs e = rw e (grind (arith, common_steps))

-- the first part of a split at blanks is the bytes before the first blank, and the other parts have the fields of
-- the rest
cuts_word : (xs : List ℕ) → (others : List (List ℕ)) × (slice_split is_blank_byte xs ≡ before_first is_blank_byte xs ∷ others)
    × (filter (λ word. nat_lt 0 (length word)) others ≡ fields (from_blank xs))
cuts_word [] = ([], refl, refl)
cuts_word (x ∷ xs) = elim (cases_Bool (is_blank_byte x)) [
  | inl e ↦
      let whole : from_blank (x ∷ xs) ≡ x ∷ xs = rw e refl in
      (slice_split is_blank_byte xs, slice_split-cons_yes is_blank_byte x xs e ∙ rw e refl, sym (ap fields whole ∙ fields-blank x xs e))
  | inr e ↦
      let w = cuts_word xs in
      let first = slice_split-cons_no is_blank_byte x xs e ∙ ap (onto_first x) w.1 ∙ ap (◌∷ w.0) (sym (take_before x xs e)) in
      (w.0, first, w.2 ∙ ap fields (sym (drop_before x xs e)))
]

fields_from : (xs : List ℕ) → BeginsNoBlank xs → fields xs ≡ prepend_word (before_first is_blank_byte xs) (fields (from_blank xs))
fields_from [] word = refl
fields_from (x ∷ xs) word =
    let w = cuts_word (x ∷ xs) in
    let cut : slice_split is_blank_byte (x ∷ xs) ≡ (x ∷ before_first is_blank_byte xs) ∷ w.0 = w.1 ∙ ap (◌∷ w.0) (take_before x xs (word x xs refl)) in
    rw (cut, take_before x xs (word x xs refl), ← w.2) (grind (arith, nat_tests))

-- the fields of a line are its first word, if there is one, and the fields of the rest
pub fields_step : (line : List ℕ) → fields line ≡ prepend_word (first_word line) (fields (from_blank (after_blanks line)))
fields_step line = fields-after line ∙ fields_from (after_blanks line) (begins line)

-- ---- the cut of a line

word-free : (xs : List ℕ) → list_any is_blank_byte (before_first is_blank_byte xs) ≡ false
word-free [] = refl
word-free (x ∷ xs) = elim (cases_Bool (is_blank_byte x)) [ inl e ↦ rw e refl | inr e ↦ rw (take_before x xs e, e) (word-free xs) ]

ends-word : (xs : List ℕ) → EndsWord (from_blank xs)
ends-word [] = tt
ends-word (x ∷ xs) = elim (cases_Bool (is_blank_byte x)) [ inl e ↦ rw e e | inr e ↦ rw (drop_before x xs e) (ends-word xs) ]

all-blank : (xs : List ℕ) → BeginsNoBlank xs → before_first is_blank_byte xs ≡ [] → from_blank xs ≡ []
all-blank [] word none = refl
all-blank (x ∷ xs) word none = cc (sym (take_before x xs (word x xs refl)) ∙ none)

-- a line is cut at the end of its first word
pub is_cut : (line : List ℕ) → IsCut line (first_word line) (from_blank (after_blanks line))
is_cut line =
    let text = after_blanks line in
    let parts = sym (take-append-drop (position_or_len is_blank_byte text) text) in
    record {
      blanks = take_while is_blank_byte line;
      parts = sym (take-append-drop (prefix_len is_blank_byte line) line) ∙ ap (take_while is_blank_byte line ++◌) parts;
      are_blank = while-passes is_blank_byte line;
      is_word = word-free text;
      ends_word = ends-word text;
      all_blank = all-blank text (begins line);
    }

pub drop_whole : (n : ℕ) (xs : List ℕ) → take (length xs - n) (drop n xs) ≡ drop n xs
drop_whole n xs = grind (arith, common_steps)

pub put_none : (word : List ℕ) (all words : List (List ℕ)) → all ≡ prepend_word word words → (length word == 0) ≡ true → all ≡ []
put_none [] all words e none = e
put_none (b ∷ word) all words e none = absurd (omega (arith, eqb-true (length (b ∷ word)) 0 none))

pub put_some : (word : List ℕ) (all words : List (List ℕ)) → all ≡ prepend_word word words → (length word == 0) ≡ false → all ≡ word ∷ words
put_some [] all words e some = cc some
put_some (b ∷ word) all words e some = e

-- a test of emptiness, moved along equalities
pub is_empty_word : (word w : List ℕ) (b : Bool) → w ≡ word → b ≡ (length w == 0) → b ≡ true → (length word == 0) ≡ true
is_empty_word word w b same test empty = ap (λ w. length w == 0) (sym same) ∙ sym test ∙ empty

pub is_some : (word w : List ℕ) (b : Bool) → w ≡ word → b ≡ (length w == 0) → b ≡ false → (length word == 0) ≡ false
is_some word w b same test filled = ap (λ w. length w == 0) (sym same) ∙ sym test ∙ filled
