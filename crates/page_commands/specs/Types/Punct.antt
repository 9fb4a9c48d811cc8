-- a punctuation word

pub data Punct : Type 0 where
  LeftParen : Punct
  RightParen : Punct
  LeftBracket : Punct
  RightBracket : Punct
  Comma : Punct
  Arrow : Punct
