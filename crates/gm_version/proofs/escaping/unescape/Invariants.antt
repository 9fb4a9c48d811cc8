use Rattle.std.proofs.Common.{◌≡◌, true}
use Rattle.std.specs.Prelude.{encode_utf8_all, string_bytes}
use Rattle.gm_version.specs.Escape.{has_no_bang}
use Rattle.gm_version.specs.Private.Texts.{read_so_far}
use Rattle.gm_version.proofs.escaping.unescape.Given as goal

abbrev pub invariant-loop-c : goal.invariant-loop-c
invariant-loop-c l = record {
  read : read_so_far (string_bytes l.text) l.after_bang ≡ encode_utf8_all l.yielded;
  no_bang : has_no_bang (string_bytes l.text) ≡ true;
}
