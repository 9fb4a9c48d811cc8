use Rattle.std.proofs.Common.{◌≡◌, ◌++◌, ℕ, List, length}
use Rattle.std.specs.String.{string_bytes}
use denote.Text.{Utf8}
use denote.Shadow.{shadow}
use Rattle.gm_syntax_words.specs.Words.{escaped_value}
use Rattle.gm_syntax_words.proofs.spell.unescaped.Given as goal

abbrev pub invariant-loop-rest : goal.invariant-loop-rest
invariant-loop-rest l = record {
  utf8 : shadow (Utf8 l.rest);
  so_far : (value : List ℕ) × (l.rest ≡ escaped_value value) × (l.text ≡ escaped_value (string_bytes l.out ++ value));
}

abbrev pub decreases-loop-rest : goal.decreases-loop-rest
decreases-loop-rest l = length l.rest
