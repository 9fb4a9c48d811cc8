-- The value of a word, as a function of its spelling.
use Rattle.std.specs.Prelude.{ℕ, ◌-◌, ◌==◌, if◌then◌else◌, List, [], ◌∷◌, length, take}
use Rattle.gm_syntax_words.specs.Words.{Word}
use Rattle.gm_syntax_words.specs.declared.word.Kind.{Kind}
use Rattle.gm_syntax_words.specs.declared.word.Kind.TheVariants.{Bare, Text, Mark}

-- the text between the quotes of a string, without the backslashes that escape
abbrev pub unescaped_bytes : List ℕ → List ℕ
unescaped_bytes [] = []
unescaped_bytes (b ∷ []) = b ∷ []
unescaped_bytes (b ∷ c ∷ bytes) = if b == 92 then c ∷ unescaped_bytes bytes else b ∷ unescaped_bytes (c ∷ bytes)

abbrev pub all_but_last : List ℕ → List ℕ
all_but_last text = take (length text - 1) text

-- the value of a string, in quotes or in grave accents
abbrev pub string_value : List ℕ → List ℕ
string_value [] = []
string_value (quote ∷ rest) = if quote == 34 then unescaped_bytes (all_but_last rest) else all_but_last rest

abbrev pub value_of_kind : Kind → List ℕ → List ℕ
value_of_kind Bare text = text
value_of_kind Text text = string_value text
value_of_kind Mark text = text

-- the value of a word
abbrev pub value_of : Word → List ℕ
value_of w = value_of_kind w.kind w.spelling
