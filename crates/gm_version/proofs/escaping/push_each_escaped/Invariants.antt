use Rattle.std.proofs.Common.{◌≡◌, ◌++◌}
use Rattle.std.specs.Prelude.{encode_utf8_all, string_bytes}
use Rattle.gm_version.specs.Escape.{escaped_text}
use Rattle.gm_version.proofs.escaping.push_each_escaped.Given as goal

abbrev pub invariant-loop-c : goal.invariant-loop-c
invariant-loop-c l = string_bytes l.name ≡ string_bytes l.initial.name ++ escaped_text (encode_utf8_all l.yielded)
