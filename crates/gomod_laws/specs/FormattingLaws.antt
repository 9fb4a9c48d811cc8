-- What formatting a file leaves as it is.
use Rattle.std.specs.Prelude.{◌≡◌, ◌≤◌, ℕ, List, [], Option, None, length, true}
use Rattle.gm_store_parts.specs.Asked.{Name, Reply}
use Rattle.gm_file.specs.Main.{Main, IsMainFile}
use Rattle.gomod_texts.specs.QueryLaws.{AnswerAlike}
use Rattle.gomod_texts.specs.Queries.{longest}
use Rattle.gomod_texts.specs.Outcome.{Outcome, text_outcome}
use Rattle.gomod_words.specs.declared.usage.Command.{Command}
use Rattle.gomod_words.specs.declared.usage.Command.TheVariants.{Fmt}
use Rattle.gomod_outcomes.specs.Runs.{is_query}
use Rattle.gomod_laws.specs.Runs.{HasOutcome}

-- `fmt` prints this text of a file with these bytes
abbrev pub IsFormatted : List ℕ → List ℕ → Type 0
IsFormatted file text = HasOutcome Fmt file None [] (text_outcome text)

-- `list`, `graph` and `chain` come to the same over a valid main file and over what `fmt` prints of it, if that has at
-- most 16,777,216 bytes. More can't be read, and a layout can have more bytes than its file.
abbrev pub FormattingChangesNoBuild : Type 0
FormattingChangesNoBuild = (command : Command) (file text : List ℕ) (main : Main) (sums : Option (List ℕ))
    (asked answered : List (Name × Reply)) (before after : Outcome)
    → is_query command ≡ true → IsMainFile file main → IsFormatted file text → length text ≤ longest
    → AnswerAlike asked answered
    → HasOutcome command file sums asked before → HasOutcome command text sums answered after
    → before ≡ after

-- `fmt` of what `fmt` prints is that text, if that has at most 16,777,216 bytes.
abbrev pub LayoutsAreFormatted : Type 0
LayoutsAreFormatted = (file text : List ℕ) (formatted : Outcome)
    → IsFormatted file text → length text ≤ longest → HasOutcome Fmt text None [] formatted
    → formatted ≡ text_outcome text
