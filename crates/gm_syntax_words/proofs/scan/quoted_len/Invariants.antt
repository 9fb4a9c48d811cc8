use Rattle.std.proofs.Common.{length, ◌-◌, ◌≡◌, ◌≤◌, drop}
use Rattle.gm_syntax_words.specs.Private.Scan.{quoted_len, longer}
use Rattle.gm_syntax_words.proofs.scan.quoted_len.Given as goal

abbrev pub invariant-loop-n : goal.invariant-loop-n
invariant-loop-n l = record { in_range : l.n ≤ length l.bytes; counted : longer l.n (quoted_len (drop l.n l.bytes)) ≡ quoted_len l.bytes }

abbrev pub decreases-loop-n : goal.decreases-loop-n
decreases-loop-n l = length l.bytes - l.n
