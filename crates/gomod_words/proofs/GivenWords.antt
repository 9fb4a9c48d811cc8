-- Facts about the words that a program was given.
use Rattle.std.proofs.Common.{◌≡◌, ◌∷◌, ℕ, zero, suc, Bool, List, [], Option, None, Some, Global, String, inl, inr, ◌+◌, ◌++◌, ◌≤◌, ◌∙◌, ap, false, length, map, option_map, refl, subst, sym, take, take_all, true}
use Rattle.std.proofs.lemmas.List.{map-append}
use Rattle.std.proofs.lemmas.Option.{get_or_from_slice_get, slice_get_cases, slice_get_within}
use Rattle.std.proofs.lemmas.Str.{IsUtf8-from_is_utf8, IsUtf8-string_bytes, is_utf8-from_IsUtf8}
use Rattle.std.specs.Prelude.{IfSome, cond, not, slice_get}
use Rattle.std.specs.Str.{IsUtf8, is_utf8}
use Rattle.std.specs.String.{string_bytes}
use Rattle.std.proofs.lemmas.Grind.{take_at_read}
use Rattle.gomod_words.specs.Given.{AreGiven, IsUnreadableWords, first_unreadable}
use Rattle.gomod_words.specs.Private.Given.{IsWordAt, IsUnreadable, IsUnreadableWord}
use Rattle.gomod_words.specs.Usage.{unreadable_text}
use Rattle.gomod_words.specs.Private.Usage.{IsLineOf}
use Rattle.gomod_words.specs.declared.usage.UsageFault.{UsageFault}
use Rattle.gomod_words.specs.declared.usage.UsageFault.TheVariants.{NoMemory, Help, Version, Line, BadPath, BadProxy}

is_false : (b : Bool) → ¬ (b ≡ true) → b ≡ false
is_false true other = absurd (other refl)
is_false false other = refl

-- the test fails on a word that is not UTF-8
not_utf8 : (word : List ℕ) → ¬ (IsUtf8 word) → is_utf8 word ≡ false
not_utf8 word bad = is_false _ (λ is. bad (IsUtf8-from_is_utf8 _ is))

-- the usage error of a word that is not UTF-8 shows it
pub shows_word : (word : List ℕ) (fault : UsageFault) → ¬ (IsUtf8 word) → IsLineOf (unreadable_text word) fault → IsUnreadable word fault
shows_word word NoMemory bad known = tt
shows_word word (Line text) bad known = (word, (refl, not_utf8 _ bad), known)
shows_word word (Help text) bad known = absurd known
shows_word word (Version text) bad known = absurd known
shows_word word (BadPath text) bad known = absurd known
shows_word word (BadProxy text) bad known = absurd known

-- and that is the word with a number, if its bytes were
pub shows_number : (given : Option (List (List ℕ))) (number : ℕ) (word : List ℕ) (fault : UsageFault)
    → IsWordAt given number (Some word) → IsUnreadable word fault
    → IsUnreadableWord given number fault
shows_number given number word NoMemory at is = tt
shows_number given number word (Line text) at is =
    (is.0, (subst (λ shown. IsWordAt given number (Some shown)) (sym is.1.0) at, is.1.1), is.2)
shows_number given number word (Help text) at is = absurd is
shows_number given number word (Version text) at is = absurd is
shows_number given number word (BadPath text) at is = absurd is
shows_number given number word (BadProxy text) at is = absurd is

-- ---- all words

-- texts are UTF-8
pub all_readable : (words : List (String Global)) → first_unreadable (map string_bytes words) ≡ None
all_readable [] = refl
all_readable (word ∷ words) = rw (is_utf8-from_IsUtf8 _ (IsUtf8-string_bytes word)) (all_readable words)

-- the first of a word and others, where the word is not the one
not_here : (test : Bool) (found : Option (List ℕ)) (front : List ℕ) → cond (not test) (Some front) found ≡ None → test ≡ true
not_here true found front none = refl
not_here false found front none = cc none

-- if no word before it is unreadable, the word with a number is the first that is
pub first_is : (words : List (List ℕ)) (number : ℕ) (word : List ℕ) → first_unreadable (take number words) ≡ None
    → slice_get words number ≡ Some word → is_utf8 word ≡ false → first_unreadable words ≡ Some word
first_is [] number word none at bad = cc at
first_is (front ∷ words) zero word none at bad =
    let same : front ≡ word = cc at in
    rw same (rw bad refl)
first_is (front ∷ words) (suc number) word none at bad =
    let good = not_here (is_utf8 front) _ _ none in
    rw good (first_is words _ _ (subst (λ b. cond (not b) (Some front) (first_unreadable (take number words)) ≡ None) good none) at bad)

-- these are the words before the one with a number
abbrev pub AreBefore : Option (List (List ℕ)) → ℕ → List (String Global) → Type 0
AreBefore given number words = IfSome given (λ all. map string_bytes words ≡ take number all)

pub none_before : (given : Option (List (List ℕ))) → AreBefore given 0 []
none_before None = tt
none_before (Some all) = refl

past : (all : List (List ℕ)) (number : ℕ) → None ≡ slice_get all number → length all ≤ number
past all number none = elim (slice_get_cases all number).1 [
  | inl within ↦ let wrong = none ∙ within.2 in cc wrong
  | inr outside ↦ outside.0
]

-- if there is no word with that number, these are all
pub all_before : (given : Option (List (List ℕ))) (number : ℕ) (words : List (String Global))
    (found : Option (String Global)) → AreBefore given number words → found ≡ None
    → IsWordAt given number (option_map string_bytes found) → AreGiven given (map string_bytes words)
all_before None number words found before none is = tt
all_before (Some all) number words found before none is =
    before ∙ take_all number all (past all number (subst (λ f. option_map string_bytes f ≡ slice_get all number) none is))

-- with the word of that number, these are those before the next
pub one_more : (given : Option (List (List ℕ))) (number : ℕ) (words new : List (String Global))
    (found : Option (String Global)) (word : String Global) → AreBefore given number words
    → found ≡ Some word → IsWordAt given number (option_map string_bytes found) → new ≡ words ++ word ∷ [] → AreBefore given (number + 1) new
one_more None number words new found word before some is same = tt
one_more (Some all) number words new found word before some is same =
    let at : slice_get all number ≡ Some (string_bytes word) = sym is ∙ ap (option_map string_bytes) some in
    let within = slice_get_within all _ _ at in
    let next =
    (take_at_read all _ [] within).1 ∙ ap (λ w. take number all ++ w ∷ []) (get_or_from_slice_get all _ _ [] at) in
    ap (map string_bytes) same ∙ map-append _ words (word ∷ []) ∙ ap (λ ws. ws ++ string_bytes word ∷ []) before ∙ sym next

-- if it is not UTF-8, it is the first that isn't
pub shows_first : (given : Option (List (List ℕ))) (number : ℕ) (words : List (String Global)) (fault : UsageFault) → AreBefore given number words
    → IsUnreadableWord given number fault → IsUnreadableWords given fault
shows_first given number words NoMemory before is = tt
shows_first None number words (Line text) before is = (is.0, (is.0 ∷ [], tt, rw is.1.1 refl), is.2)
shows_first (Some all) number words (Line text) before is =
    let none : first_unreadable (take number all) ≡ None = subst (λ ws. first_unreadable ws ≡ None) before (all_readable words) in
    (is.0, (all, refl, first_is _ number _ none (sym is.1.0) is.1.1), is.2)
shows_first given number words (Help text) before is = absurd is
shows_first given number words (Version text) before is = absurd is
shows_first given number words (BadPath text) before is = absurd is
shows_first given number words (BadProxy text) before is = absurd is
