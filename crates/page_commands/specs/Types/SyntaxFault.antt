-- why bytes are not a document
use Rattle.std.specs.Prelude.{ℕ}
use Rattle.page_commands.specs.Types.SyntaxKind.{SyntaxKind}

pub data SyntaxFault : Type 0 where
  NoMemory : SyntaxFault
  TooMany : SyntaxFault
  NotUtf8 : SyntaxFault
  Syntax : ℕ → SyntaxKind → SyntaxFault
