-- why a line is not read as go.mod text

pub data SyntaxKind : Type 0 where
  BadByte : SyntaxKind
  OpenString : SyntaxKind
  BadEscape : SyntaxKind
  BlockComment : SyntaxKind
  StrayClose : SyntaxKind
  NestedOpen : SyntaxKind
  OpenBlock : SyntaxKind
