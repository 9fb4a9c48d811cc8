-- what the verb of an entry is for

pub data Verb : Type 0 where
  Module : Verb
  Go : Verb
  Require : Verb
  Exclude : Verb
  Replace : Verb
  Retract : Verb
  Nothing : Verb
  Unknown : Verb
