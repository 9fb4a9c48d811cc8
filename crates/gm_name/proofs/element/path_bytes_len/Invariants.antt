use Rattle.std.proofs.Common.{◌≡◌, ◌+◌, drop}
use Rattle.std.specs.List.{prefix_len}
use Rattle.gm_name.specs.Element.{is_path_byte}
use Rattle.gm_name.proofs.element.path_bytes_len.Given as goal

abbrev pub invariant-loop-len : goal.invariant-loop-len
invariant-loop-len l = prefix_len is_path_byte l.text ≡ l.len + prefix_len is_path_byte (drop l.len l.text)
