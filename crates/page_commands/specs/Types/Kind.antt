-- the kind of a word

pub data Kind : Type 0 where
  Bare : Kind
  Text : Kind
  Mark : Kind
