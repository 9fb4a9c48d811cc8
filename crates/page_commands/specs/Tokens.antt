-- A copy from crates/gm_syntax_words/specs/Tokens.antt, which tools/check/headline.py writes.
use Rattle.std.specs.Prelude.{ℕ, Option}
use Rattle.page_commands.specs.Types.Span.{Span}
use Rattle.page_commands.specs.Words.{Word}

-- a word, the number of its line, and its span in the source
pub record Placed : Type 0 where
  pub word : Word
  pub line : ℕ
  pub span : Option Span
