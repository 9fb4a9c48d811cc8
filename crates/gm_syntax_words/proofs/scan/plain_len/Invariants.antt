use Rattle.std.proofs.Common.{◌≡◌, ◌+◌, drop}
use Rattle.gm_syntax_words.specs.Private.Scan.{plain_len}
use Rattle.gm_syntax_words.proofs.scan.plain_len.Given as goal

abbrev pub invariant-loop-n : goal.invariant-loop-n
invariant-loop-n l = l.n + plain_len (drop l.n l.bytes) ≡ plain_len l.bytes
