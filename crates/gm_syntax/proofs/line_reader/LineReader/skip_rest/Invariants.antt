use Rattle.std.proofs.Common.{◌≡◌, ◌++◌, List, length}
use Rattle.gm_syntax_words.specs.Tokens.{Placed}
use Rattle.gm_syntax.specs.Document.{Line}
use Rattle.gm_syntax.specs.LineReading.{HasRead}
use Rattle.gm_syntax.proofs.line_reader.LineReader.skip_rest.Given as goal

abbrev pub invariant-loop-line : goal.invariant-loop-line
invariant-loop-line l = record {
  source : l.self.source ≡ l.initial.self.source;
  read : (lines : List (Line Placed)) → HasRead l.initial.self lines → (more : List (Line Placed)) × HasRead l.self (lines ++ more);
}

abbrev pub decreases-loop-line : goal.decreases-loop-line
decreases-loop-line l = length l.self.rest
