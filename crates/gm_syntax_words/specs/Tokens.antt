-- Words with their positions, as contracts see them.
use Rattle.std.specs.Prelude.{◌≡◌, ℕ, ◌+◌, ◌≤◌, List, [], ◌∷◌, length, slice_range, Option, Some, None, map}
use Rattle.std.specs.List.{AllByRecursion}
use Rattle.std.specs.Cow.{cow_str_bytes}
use Rattle.std.specs.String.{string_bytes}
use Rattle.std.specs.declared.borrow.CowStr.{CowStr}
use Rattle.std.specs.declared.alloc.Global.{Global}
use Rattle.gm_syntax_words.specs.declared.token.Text.{Text}
use Rattle.gm_syntax_words.specs.declared.token.Text.TheVariants.{Source, Own}
use Rattle.gm_syntax_words.specs.declared.word.Span.{Span}
use Rattle.gm_syntax_words.specs.declared.word.Kind.{Kind}
use Rattle.gm_syntax_words.specs.declared.word.Kind.TheVariants.{Bare, Text as Quoted}
use Rattle.gm_syntax_words.specs.Bare.{in_quotes}
use Rattle.gm_syntax_words.specs.Words.{Word, IsBare}

-- a word, the number of its line, and its span in the source
pub record Placed : Type 0 where
  pub word : Word
  pub line : ℕ
  pub span : Option Span

abbrev pub bytes_of : Text → List ℕ
bytes_of (Source text first) = text.now
bytes_of (Own text) = string_bytes text

abbrev pub span_of : Text → Option Span
span_of (Source text first) = Some (record { first = first; after = first + length text.now })
span_of (Own text) = None

abbrev pub words_of : List Placed → List Word
words_of tokens = map (λ t. t.word) tokens

abbrev pub comment_of : Option (CowStr Global) → Option (List ℕ)
comment_of None = None
comment_of (Some text) = Some (cow_str_bytes text)

-- The words are in the source in this order, all at or after the offset from and before the offset to. Each is
-- the slice of the source at its span.
abbrev pub AreSlicesBetween : List ℕ → ℕ → ℕ → List Placed → Type 0
AreSlicesBetween source from to [] = from ≤ to
AreSlicesBetween source from to (t ∷ tokens) =
    (s : Span) × (t.span ≡ Some s) × (from ≤ s.first) × (s.after ≡ s.first + length t.word.spelling)
    × (slice_range source s.first s.after ≡ t.word.spelling) × AreSlicesBetween source s.after to tokens

-- each word has this line number
abbrev pub AreNumbered : ℕ → List Placed → Type 0
AreNumbered number tokens = AllByRecursion (λ t. t.line ≡ number) tokens

-- a word of this kind and spelling that is in no source: it has line 0 and no span
abbrev pub own_word : Kind → List ℕ → Placed
own_word kind spelling = record { word = record { kind = kind; spelling = spelling }; line = 0; span = None }

-- the word that an edit makes for this value: bare if possible, otherwise in quotes
pub record IsNewWord (value : List ℕ) (t : Placed) : Type 0 where
  pub bare : IsBare value → t ≡ own_word Bare value
  pub quoted : ¬ IsBare value → t ≡ own_word Quoted (in_quotes value)
