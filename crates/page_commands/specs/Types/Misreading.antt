-- why bytes can't be read as a go.mod file
use Rattle.page_commands.specs.Types.DirectiveKind.{DirectiveKind}
use Rattle.page_commands.specs.Types.SyntaxKind.{SyntaxKind}

pub data Misreading : Type 0 where
  TooMany : Misreading
  NotUtf8 : Misreading
  Syntax : SyntaxKind → Misreading
  Directive : DirectiveKind → Misreading
