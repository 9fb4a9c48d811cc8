use Rattle.std.proofs.Common.{◌≡◌, drop}
use Rattle.gm_syntax_words.specs.Private.Scan.{raw_len, longer}
use Rattle.gm_syntax_words.proofs.scan.raw_len.Given as goal

abbrev pub invariant-loop-n : goal.invariant-loop-n
invariant-loop-n l = longer l.n (raw_len (drop l.n l.bytes)) ≡ raw_len l.bytes
