-- What the order of the lines of a main file leaves as it is.
use Rattle.std.specs.Prelude.{◌≡◌, ◌↔◌, ℕ, List, Option, Contains, true}
use Rattle.gm_syntax_words.specs.Tokens.{Placed}
use Rattle.gm_syntax_words.specs.Words.{Word}
use Rattle.gm_syntax.specs.Document.{Line}
use Rattle.gm_syntax.specs.LineViews.{plain_lines}
use Rattle.gm_file.specs.Directives.{Directive, Strict, directives}
use Rattle.gm_store_parts.specs.Asked.{Name, Reply}
use Rattle.gm_file.specs.Main.{IsMainOf}
use Rattle.gomod_texts.specs.Outcome.{Outcome}
use Rattle.gomod_texts.specs.QueryLaws.{AnswerAlike}
use Rattle.gomod_words.specs.declared.usage.Command.{Command}
use Rattle.gomod_outcomes.specs.Runs.{is_query}
use Rattle.gomod_laws.specs.Runs.{HasOutcome}

-- Two main files hold the same directives, in whatever order, in whatever blocks, and however often.
abbrev pub HoldTheSame : List (Line Word) → List (Line Word) → Type 0
HoldTheSame one other = (directive : Directive)
    → Contains (directives Strict one) directive ↔ Contains (directives Strict other) directive

-- `list`, `graph` and `chain` come to the same over two valid main files that hold the same directives.
abbrev pub LinesInAnyOrder : Type 0
LinesInAnyOrder = (command : Command) (file other : List ℕ) (lines also : List (Line Placed))
    (sums : Option (List ℕ)) (asked answered : List (Name × Reply)) (a b : Outcome)
    → is_query command ≡ true → IsMainOf file lines → IsMainOf other also
    → HoldTheSame (plain_lines lines) (plain_lines also) → AnswerAlike asked answered
    → HasOutcome command file sums asked a → HasOutcome command other sums answered b
    → a ≡ b
