-- The spelling of a whole line: words with blanks before, between and after them, and the ending.
use Rattle.std.specs.Prelude.{⊤, ◌≡◌, ◌≢◌, ℕ, List, [], ◌∷◌, ◌++◌, IsTrue, ◌⊎◌, Option, Some, None}
use Rattle.gm_syntax_words.specs.declared.fault.SyntaxKind.{SyntaxKind}
use Rattle.gm_syntax_words.specs.declared.fault.SyntaxKind.TheVariants.{BadByte, OpenString, BadEscape, BlockComment, StrayClose, NestedOpen, OpenBlock}
use Rattle.gm_syntax_words.specs.declared.word.Kind.TheVariants.{Bare, Mark}
use Rattle.gm_syntax_words.specs.Bytes.{is_blank, is_quote, is_bad}
use Rattle.gm_syntax_words.specs.Lines.{HasNoLineFeed}
use Rattle.gm_syntax_words.specs.Words.{Word, AllBlank, IsShaped, HasNoGrave, escaped_value}

-- what follows the words of a line: nothing, a comment or a fault
pub data Ending : Type 0 where
  Nothing : Ending
  Comment : List ℕ → Ending
  Fault : SyntaxKind → Ending

-- the word that a text directly follows, if there is no blank in between
abbrev pub touching_word : Option Word → List ℕ → Option Word
touching_word before [] = before
touching_word before (b ∷ blanks) = None

-- there is a word before, and it is bare
abbrev pub IsBareWord : Option Word → Type 0
IsBareWord None = ⊥
IsBareWord (Some w) = w.kind ≡ Bare

-- the word before is bare and ends in a slash; no comment can directly follow it, since it would have begun
-- with that slash
abbrev pub EndsInSlash : Option Word → Type 0
EndsInSlash None = ⊥
EndsInSlash (Some w) = (w.kind ≡ Bare) × (front : List ℕ) × (w.spelling ≡ front ++ 47 ∷ [])

-- no bare word, no string and no => directly follows a bare word
abbrev pub MayFollow : Option Word → Word → Type 0
MayFollow before w = IsBareWord before → (w.kind ≡ Mark) × (w.spelling ≢ 61 ∷ 62 ∷ [])

-- the text begins with // and does not end in a blank
pub record IsComment (text : List ℕ) : Type 0 where
  pub slashes : (rest : List ℕ) × (text ≡ 47 ∷ 47 ∷ rest)
  pub trimmed : (front : List ℕ) (b : ℕ) → IsTrue (is_blank b) → text ≢ front ++ b ∷ []

-- rest begins with the fault of this kind; anything may follow
abbrev pub BeginsFault : Option Word → SyntaxKind → List ℕ → Type 0
-- a byte that isn't allowed there, such as a quote directly after a bare word
BeginsFault before BadByte rest = (b : ℕ) × (more : List ℕ) × (rest ≡ b ∷ more)
    × (IsTrue (is_bad b) ⊎ (IsTrue (is_quote b) × IsBareWord before))
-- a string that is not terminated on its line
BeginsFault before OpenString rest = ¬ IsBareWord before × (value : List ℕ)
    × ((rest ≡ 34 ∷ escaped_value value)
    ⊎ ((rest ≡ 34 ∷ (escaped_value value ++ 92 ∷ [])) ⊎ ((rest ≡ 96 ∷ value) × HasNoGrave value)))
-- a backslash before a character other than a quote or a backslash
BeginsFault before BadEscape rest = ¬ IsBareWord before × (value : List ℕ) × (b : ℕ) × (more : List ℕ)
    × (rest ≡ 34 ∷ (escaped_value value ++ 92 ∷ b ∷ more)) × (b ≢ 34) × (b ≢ 92)
BeginsFault before BlockComment rest = ¬ EndsInSlash before × (more : List ℕ) × (rest ≡ 47 ∷ 42 ∷ more)
-- these are not lexical faults: they depend on all words of a line
BeginsFault before StrayClose rest = ⊥
BeginsFault before NestedOpen rest = ⊥
BeginsFault before OpenBlock rest = ⊥

-- rest, which follows the word before, is this ending
abbrev pub Ends : Option Word → Ending → List ℕ → Type 0
Ends before Nothing rest = rest ≡ []
Ends before (Comment text) rest = ¬ EndsInSlash before × IsComment text × (blanks : List ℕ) × AllBlank blanks
    × (rest ≡ text ++ blanks)
Ends before (Fault kind) rest = BeginsFault before kind rest

-- a text that follows the word before consists of blanks and this ending
pub record EndsLine (before : Option Word) (text : List ℕ) (ending : Ending) : Type 0 where
  pub blanks : List ℕ
  pub rest : List ℕ
  pub parts : text ≡ blanks ++ rest
  pub are_blank : AllBlank blanks
  pub ends : Ends (touching_word before blanks) ending rest

-- a text that follows the word before consists of blanks, the word w, and rest
pub record BeginsWithWord (before : Option Word) (text : List ℕ) (w : Word) (rest : List ℕ) : Type 0 where
  pub blanks : List ℕ
  pub parts : text ≡ blanks ++ (w.spelling ++ rest)
  pub are_blank : AllBlank blanks
  pub shape : IsShaped w
  pub may_follow : MayFollow (touching_word before blanks) w

-- a text that follows the word before consists of these words and this ending
abbrev pub Reads : Option Word → List ℕ → List Word → Ending → Type 0
Reads before text [] ending = EndsLine before text ending
Reads before text (w ∷ words) ending = (rest : List ℕ)
    × BeginsWithWord before text w rest × Reads (Some w) rest words ending

abbrev pub ending_of : Option (List ℕ) → Ending
ending_of None = Nothing
ending_of (Some text) = Comment text

-- the line is spelled by these words and perhaps a comment
abbrev pub IsSpelledBy : List ℕ → List Word → Option (List ℕ) → Type 0
IsSpelledBy line words comment = Reads None line words (ending_of comment)

-- the line has no spelling: a prefix of it is words, and the fault follows
abbrev pub HasLexicalFault : List ℕ → SyntaxKind → Type 0
HasLexicalFault line kind = (words : List Word) × Reads None line words (Fault kind)

-- the line has a spelling
abbrev pub IsSpelled : List ℕ → Type 0
IsSpelled line = (words : List Word) × (comment : Option (List ℕ)) × IsSpelledBy line words comment

-- the line has a lexical fault
abbrev pub IsFaulty : List ℕ → Type 0
IsFaulty line = (kind : SyntaxKind) × HasLexicalFault line kind

-- a word that is valid on a line: it has a shape of its kind and no line feed
abbrev pub IsWord : Word → Type 0
IsWord w = IsShaped w × HasNoLineFeed w.spelling

abbrev pub IsSuffix : Option (List ℕ) → Type 0
IsSuffix None = ⊤
IsSuffix (Some text) = IsComment text × HasNoLineFeed text
