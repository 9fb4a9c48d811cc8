-- Why bytes can't be read as a go.mod file, and the names of that in reports.
use Rattle.std.specs.Prelude.{◌≡◌, ℕ, List, codes, Some, Ok, Err, ⊤}
use Rattle.gm_syntax_words.specs.Tokens.{Placed}
use Rattle.gm_syntax_words.specs.declared.fault.SyntaxFault.TheVariants as text
use Rattle.gm_syntax_words.specs.declared.fault.SyntaxKind.{SyntaxKind}
use Rattle.gm_syntax_words.specs.declared.fault.SyntaxKind.TheVariants as syntax
use Rattle.gm_syntax.specs.Document.{Line}
use Rattle.gm_syntax.specs.LineViews.{plain_lines}
use Rattle.gm_syntax.specs.Parsed.{IsParsedAs}
use Rattle.gm_file.specs.declared.fault.DirectiveKind.{DirectiveKind}
use Rattle.gm_file.specs.declared.fault.DirectiveKind.TheVariants as directive
use Rattle.gm_file.specs.declared.misreading.BytesFault.{BytesFault}
use Rattle.gm_file.specs.declared.misreading.BytesFault.TheVariants as fault
use Rattle.gm_file.specs.declared.misreading.Misreading.{Misreading}
use Rattle.gm_file.specs.declared.misreading.Misreading.TheVariants as misreading
use Rattle.gm_file.specs.Directives.{Mode}
use Rattle.gm_file.specs.Faults.{fault_of}

-- The bytes can't be read as a file in this mode: the line, or 0 for the whole file, and the kind of the fault there.
-- A fault of the text comes before those of directives.
abbrev pub IsMisread : Mode → List ℕ → ℕ → Misreading → Type 0
IsMisread mode bytes line misreading.TooMany = (line ≡ 0) × IsParsedAs bytes (Err text.TooMany)
IsMisread mode bytes line misreading.NotUtf8 = (line ≡ 0) × IsParsedAs bytes (Err text.NotUtf8)
IsMisread mode bytes line (misreading.Syntax kind) = IsParsedAs bytes (Err (text.Syntax line kind))
IsMisread mode bytes line (misreading.Directive kind) = (lines : List (Line Placed)) × IsParsedAs bytes (Ok lines)
    × (fault_of mode (plain_lines lines) ≡ Some (line, kind))

-- the fault of the bytes in this mode; NoMemory says nothing about them
abbrev pub IsBytesFault : Mode → List ℕ → BytesFault → Type 0
IsBytesFault mode bytes fault.NoMemory = ⊤
IsBytesFault mode bytes (fault.Misread line kind) = IsMisread mode bytes line kind

-- ---- names in reports

abbrev pub syntax_word : SyntaxKind → List ℕ
syntax_word syntax.BadByte = codes "BadByte"
syntax_word syntax.OpenString = codes "OpenString"
syntax_word syntax.BadEscape = codes "BadEscape"
syntax_word syntax.BlockComment = codes "BlockComment"
syntax_word syntax.StrayClose = codes "StrayClose"
syntax_word syntax.NestedOpen = codes "NestedOpen"
syntax_word syntax.OpenBlock = codes "OpenBlock"

abbrev pub directive_word : DirectiveKind → List ℕ
directive_word directive.UnknownVerb = codes "UnknownVerb"
directive_word directive.WrongArguments = codes "WrongArguments"
directive_word directive.BadPath = codes "BadPath"
directive_word directive.BadVersion = codes "BadVersion"
directive_word directive.Misfit = codes "Misfit"
directive_word directive.Repeated = codes "Repeated"
directive_word directive.NoModule = codes "NoModule"
directive_word directive.ConflictingReplace = codes "ConflictingReplace"
directive_word directive.BadGo = codes "BadGo"

abbrev pub misreading_word : Misreading → List ℕ
misreading_word misreading.TooMany = codes "TooMany"
misreading_word misreading.NotUtf8 = codes "NotUtf8"
misreading_word (misreading.Syntax kind) = syntax_word kind
misreading_word (misreading.Directive kind) = directive_word kind
