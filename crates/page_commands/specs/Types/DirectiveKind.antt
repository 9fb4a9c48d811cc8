-- what is wrong with a directive

pub data DirectiveKind : Type 0 where
  UnknownVerb : DirectiveKind
  WrongArguments : DirectiveKind
  BadPath : DirectiveKind
  BadVersion : DirectiveKind
  Misfit : DirectiveKind
  Repeated : DirectiveKind
  NoModule : DirectiveKind
  ConflictingReplace : DirectiveKind
  BadGo : DirectiveKind
