-- Where the words of a line stand in its text: with blanks and a comment they make it up.
use Rattle.std.specs.Prelude.{◌≡◌, ℕ, ◌+◌, List, [], ◌∷◌, ◌++◌, length, Option, Some, None}
use Rattle.gm_syntax_words.specs.declared.word.Span.{Span}
use Rattle.gm_syntax_words.specs.Words.{AllBlank}
use Rattle.gm_syntax_words.specs.Spelling.{IsComment}
use Rattle.gm_syntax_words.specs.Tokens.{Placed}

-- A text that begins at the offset `from` of the source is blanks, the word t, which has this span, and rest.
pub record IsNextWord (from : ℕ) (text : List ℕ) (t : Placed) (span : Span) (rest : List ℕ) : Type 0 where
  pub blanks : List ℕ
  pub are_blank : AllBlank blanks
  pub parts : text ≡ blanks ++ (t.word.spelling ++ rest)
  pub placed : t.span ≡ Some span
  pub first : span.first ≡ from + length blanks
  pub after : span.after ≡ span.first + length t.word.spelling

-- what follows the last word of a line: only blanks, or blanks, the comment, which begins with //, and blanks
abbrev pub IsTail : List ℕ → Option (List ℕ) → Type 0
IsTail text None = AllBlank text
IsTail text (Some comment) = IsComment comment × (before after : List ℕ) × AllBlank before × AllBlank after
    × (text ≡ before ++ (comment ++ after))

-- a text that begins at this offset of the source is these words at their spans, with only blanks before each,
-- and a tail with this comment
abbrev pub FillText : ℕ → List ℕ → List Placed → Option (List ℕ) → Type 0
FillText from text [] comment = IsTail text comment
FillText from text (t ∷ tokens) comment = (span : Span) × (rest : List ℕ)
    × IsNextWord from text t span rest × FillText span.after rest tokens comment
