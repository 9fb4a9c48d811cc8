use Rattle.std.proofs.Common.{◌≡◌, ◌+◌, drop}
use Rattle.std.specs.List.{prefix_len}
use Rattle.gm_name.specs.Private.Texts.{is_stem_byte}
use Rattle.gm_name.proofs.element.stem_len.Given as goal

abbrev pub invariant-loop-len : goal.invariant-loop-len
invariant-loop-len l = prefix_len is_stem_byte l.text ≡ l.len + prefix_len is_stem_byte (drop l.len l.text)
