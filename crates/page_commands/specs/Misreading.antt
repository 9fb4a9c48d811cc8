-- A copy from crates/gm_file/specs/Misreading.antt, which tools/check/headline.py writes.
use Rattle.std.specs.Prelude.{◌≡◌, ℕ, List, codes, Some, Ok, Err}
use Rattle.page_commands.specs.Tokens.{Placed}
use Rattle.page_commands.specs.Types.SyntaxFault as text
use Rattle.page_commands.specs.Types.SyntaxKind.{SyntaxKind}
use Rattle.page_commands.specs.Types.SyntaxKind as syntax
use Rattle.page_commands.specs.Document.{Line}
use Rattle.page_commands.specs.LineViews.{plain_lines}
use Rattle.page_commands.specs.Files.{IsParsedAs}
use Rattle.page_commands.specs.Types.DirectiveKind.{DirectiveKind}
use Rattle.page_commands.specs.Types.DirectiveKind as directive
use Rattle.page_commands.specs.Types.Misreading.{Misreading}
use Rattle.page_commands.specs.Types.Misreading as misreading
use Rattle.page_commands.specs.Directives.{Mode}
use Rattle.page_commands.specs.Faults.{fault_of}

-- The bytes can't be read as a file in this mode: the line, or 0 for the whole file, and the kind of the fault there.
-- A fault of the text comes before those of directives.
abbrev pub IsMisread : Mode → List ℕ → ℕ → Misreading → Type 0
IsMisread mode bytes line misreading.TooMany = (line ≡ 0) × IsParsedAs bytes (Err text.TooMany)
IsMisread mode bytes line misreading.NotUtf8 = (line ≡ 0) × IsParsedAs bytes (Err text.NotUtf8)
IsMisread mode bytes line (misreading.Syntax kind) = IsParsedAs bytes (Err (text.Syntax line kind))
IsMisread mode bytes line (misreading.Directive kind) = (lines : List (Line Placed)) × IsParsedAs bytes (Ok lines)
    × (fault_of mode (plain_lines lines) ≡ Some (line, kind))

abbrev pub syntax_word : SyntaxKind → List ℕ
syntax_word syntax.BadByte = codes "BadByte"
syntax_word syntax.OpenString = codes "OpenString"
syntax_word syntax.BadEscape = codes "BadEscape"
syntax_word syntax.BlockComment = codes "BlockComment"
syntax_word syntax.StrayClose = codes "StrayClose"
syntax_word syntax.NestedOpen = codes "NestedOpen"
syntax_word syntax.OpenBlock = codes "OpenBlock"

abbrev pub directive_word : DirectiveKind → List ℕ
directive_word directive.UnknownVerb = codes "UnknownVerb"
directive_word directive.WrongArguments = codes "WrongArguments"
directive_word directive.BadPath = codes "BadPath"
directive_word directive.BadVersion = codes "BadVersion"
directive_word directive.Misfit = codes "Misfit"
directive_word directive.Repeated = codes "Repeated"
directive_word directive.NoModule = codes "NoModule"
directive_word directive.ConflictingReplace = codes "ConflictingReplace"
directive_word directive.BadGo = codes "BadGo"

abbrev pub misreading_word : Misreading → List ℕ
misreading_word misreading.TooMany = codes "TooMany"
misreading_word misreading.NotUtf8 = codes "NotUtf8"
misreading_word (misreading.Syntax kind) = syntax_word kind
misreading_word (misreading.Directive kind) = directive_word kind
