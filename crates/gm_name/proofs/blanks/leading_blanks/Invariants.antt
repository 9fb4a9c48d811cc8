use Rattle.std.proofs.Common.{◌≡◌, ◌+◌, drop}
use Rattle.std.specs.List.{prefix_len}
use Rattle.gm_name.specs.Lines.{is_blank_byte}
use Rattle.gm_name.proofs.blanks.leading_blanks.Given as goal

abbrev pub invariant-loop-len : goal.invariant-loop-len
invariant-loop-len l = prefix_len is_blank_byte l.line ≡ l.len + prefix_len is_blank_byte (drop l.len l.line)
