-- The words that a program was given, by their numbers, while the command line is read.
use Rattle.std.specs.Prelude.{◌≡◌, ℕ, IfSome, List, Option, Some, false, slice_get}
use Rattle.std.specs.Str.{is_utf8}
use Rattle.gomod_words.specs.declared.usage.UsageFault.{UsageFault}
use Rattle.gomod_words.specs.Given.{ShowsUnreadable}

-- this is the word with that number, or there is none
abbrev pub IsWordAt : Option (List (List ℕ)) → ℕ → Option (List ℕ) → Type 0
IsWordAt given number word = IfSome given (λ all. word ≡ slice_get all number)

-- it shows this word
abbrev pub IsUnreadable : List ℕ → UsageFault → Type 0
IsUnreadable word = ShowsUnreadable (λ shown. (shown ≡ word) × (is_utf8 shown ≡ false))

-- it shows the word with that number
abbrev pub IsUnreadableWord : Option (List (List ℕ)) → ℕ → UsageFault → Type 0
IsUnreadableWord given number = ShowsUnreadable (λ word. IsWordAt given number (Some word) × (is_utf8 word ≡ false))
