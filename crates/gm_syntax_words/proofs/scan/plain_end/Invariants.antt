use Rattle.std.proofs.Common.{◌≡◌, ◌+◌, ◌-◌, ◌≤◌, drop, length}
use Rattle.gm_syntax_words.specs.Bare.{bare_len}
use Rattle.gm_syntax_words.proofs.scan.plain_end.Given as goal

abbrev pub invariant-loop-n : goal.invariant-loop-n
invariant-loop-n l = record {
  past : l.from ≤ l.n;
  in_range : l.n ≤ length l.bytes;
  counted : l.n + bare_len (drop l.n l.bytes) ≡ l.from + bare_len (drop l.from l.bytes);
}

abbrev pub decreases-loop-n : goal.decreases-loop-n
decreases-loop-n l = length l.bytes - l.n

abbrev pub invariant-loop-n-2 : goal.invariant-loop-n-2
invariant-loop-n-2 l = record {
  past : l.from ≤ l.n;
  in_range : l.n ≤ length l.bytes;
  counted : l.n + bare_len (drop l.n l.bytes) ≡ l.from + bare_len (drop l.from l.bytes);
}

abbrev pub decreases-loop-n-2 : goal.decreases-loop-n-2
decreases-loop-n-2 l = length l.bytes - l.n
