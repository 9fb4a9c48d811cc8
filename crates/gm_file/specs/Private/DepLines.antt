-- Which line of a dependency's file is read next, and with what fault.
use Rattle.std.specs.Prelude.{ℕ, ◌+◌, List, [], ◌∷◌, ◌++◌, length, Result, Ok, Err}
use Rattle.std.specs.Option.{option_map}
use Rattle.gm_syntax_words.specs.Words.{Word}
use Rattle.gm_syntax_words.specs.Tokens.{Placed}
use Rattle.gm_syntax.specs.Document.{Line}
use Rattle.gm_syntax.specs.LineViews.{plain_lines}
use Rattle.gm_syntax.specs.Parsed.{IsParsedAs}
use Rattle.gm_file.specs.declared.dep_lines.DepLines.{DepLines}
use Rattle.gm_file.specs.declared.fault.LineFault.{LineFault}
use Rattle.gm_file.specs.Directives.{Lax}
use Rattle.gm_file.specs.Private.Holding.{AreReadTo}
use Rattle.gm_file.specs.Views.{ReportsFault}
use Rattle.gm_file.specs.Private.Reading.{file_fault_at}

-- the lines so far have no fault, and this is what they say
abbrev pub AreDepLines : List (Line Word) → DepLines → Type 0
AreDepLines lines said = AreReadTo Lax lines (option_map (λ t. t.word) said.block) said.fields

-- the next line has this fault, whatever lines follow
abbrev pub HasNextFault : List (Line Word) → Line Word → LineFault → Type 0
HasNextFault lines here fault = (later : List (Line Word))
    → ReportsFault Lax ((lines ++ here ∷ []) ++ later) (file_fault_at (length lines + 1) fault)

-- one more line has been read, or has this fault
abbrev pub IsNextLineOf : List (Line Word) → Line Word → DepLines → Result (Unit {0}) LineFault → Type 0
IsNextLineOf lines here said (Ok u) = AreDepLines (lines ++ here ∷ []) said
IsNextLineOf lines here said (Err fault) = HasNextFault lines here fault

-- all lines of the bytes have been read
abbrev pub AreAllRead : List ℕ → DepLines → Type 0
AreAllRead bytes said = (doc : List (Line Placed)) × IsParsedAs bytes (Ok doc) × AreDepLines (plain_lines doc) said
