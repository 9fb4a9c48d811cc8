use Rattle.std.proofs.Common.{◌≡◌, ◌+◌, ◌-◌, ◌≤◌, ◌++◌, ℕ, List, length, drop}
use denote.Text.{Utf8}
use denote.Shadow.{shadow}
use Rattle.gm_syntax_words.specs.Tokens.{words_of, AreSlicesBetween, AreNumbered}
use Rattle.gm_syntax_words.proofs.Progress.{Progress}
use Rattle.gm_syntax_words.proofs.LineText.{FillsUpTo}
use Rattle.gm_syntax_words.proofs.reader.read_line.Given as goal

abbrev pub invariant-pieces : goal.invariant-pieces
invariant-pieces l = record {
  utf8 : shadow (Utf8 l.rest);
  progress : Progress l.line (words_of l.words.items) l.after_bare l.rest;
  in_range : length l.rest ≤ length l.line;
  suffix : l.rest ≡ drop (length l.line - length l.rest) l.line;
  placed : (source after : List ℕ) → drop l.first source ≡ l.line ++ after
      → AreSlicesBetween source l.first (l.first + (length l.line - length l.rest)) l.words.items;
  numbered : AreNumbered l.number l.words.items;
  filled : FillsUpTo l.first l.line l.words.items (l.first + (length l.line - length l.rest)) l.rest;
}

abbrev pub decreases-pieces : goal.decreases-pieces
decreases-pieces l = length l.rest
