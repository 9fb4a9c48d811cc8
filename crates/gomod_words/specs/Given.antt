-- The words that a program was given, if they are known, and the error if one is not UTF-8.
use Rattle.std.specs.Prelude.{◌≡◌, ◌<◌, ℕ, IfSome, List, Option, Some, None, Result, Ok, Err, find, length, not, take}
use Rattle.std.specs.Str.{is_utf8}
use Rattle.std.specs.String.{string_bytes}
use Rattle.std.specs.declared.env.FillError.{FillError}
use Rattle.std.specs.declared.env.FillError.TheVariants.{NotPresent, TooLong}
use Rattle.gomod_words.specs.Usage.{unreadable_text}
use Rattle.gomod_words.specs.declared.usage.UsageFault.{UsageFault}
use Rattle.gomod_words.specs.declared.usage.UsageFault.TheVariants.{Line, NoMemory}

-- the word was copied to the front of the room; or there is none; or the room is too small for it
abbrev pub IsFilled : Option (List ℕ) → List ℕ → Result ℕ FillError → Type 0
IsFilled (Some word) room (Ok count) = take count room ≡ word
IsFilled (Some word) room (Err TooLong) = length room < length word
IsFilled None room (Err NotPresent) = Unit {0}
IsFilled _ room _ = ⊥

-- these are the words that were given
abbrev pub AreGiven : Option (List (List ℕ)) → List (List ℕ) → Type 0
AreGiven given words = IfSome given (λ all. words ≡ all)

-- the first word that is not UTF-8, if there is one
abbrev pub first_unreadable : List (List ℕ) → Option (List ℕ)
first_unreadable words = find (λ word. not (is_utf8 word)) words

-- the error that shows a word of this kind, which is not UTF-8, or that memory ran out
abbrev pub ShowsUnreadable : (List ℕ → Type 0) → UsageFault → Type 0
ShowsUnreadable is_kind NoMemory = Unit {0}
ShowsUnreadable is_kind (Line text) = (word : List ℕ) × is_kind word × (string_bytes text ≡ unreadable_text word)
ShowsUnreadable is_kind _ = ⊥

-- it shows the first of the given words that is not UTF-8
abbrev pub IsUnreadableWords : Option (List (List ℕ)) → UsageFault → Type 0
IsUnreadableWords given =
    ShowsUnreadable (λ word. (words : List (List ℕ)) × AreGiven given words × (first_unreadable words ≡ Some word))
