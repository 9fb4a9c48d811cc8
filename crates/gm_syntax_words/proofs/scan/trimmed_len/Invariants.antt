use Rattle.std.proofs.Common.{◌≡◌, ◌≤◌, length, take}
use Rattle.gm_syntax_words.specs.Private.Scan.{trim_end}
use Rattle.gm_syntax_words.proofs.scan.trimmed_len.Given as goal

abbrev pub invariant-loop-n : goal.invariant-loop-n
invariant-loop-n l = record { in_range : l.n ≤ length l.bytes; trimmed : trim_end (take l.n l.bytes) ≡ trim_end l.bytes }

abbrev pub decreases-loop-n : goal.decreases-loop-n
decreases-loop-n l = l.n
