use Rattle.std.proofs.Common.{◌∙◌, sym}
use Rattle.std.specs.Prelude.{string_bytes}
use Rattle.gm_version.proofs.Escapes.{bad_after_bang, bad_capital, no_bang-push, read-push}
use Rattle.gm_version.proofs.escaping.take_char.Goals as goal

pub returns-then-not-is_ascii_lowercase-clause-bad : goal.returns-then-not-is_ascii_lowercase-clause-bad
returns-then-not-is_ascii_lowercase-clause-bad c =
    rw c.if-after_bang.true (λ _ no_bang whole rest.
    bad_after_bang (string_bytes c.args.text.now) whole rest c.args.c (sym c.is_ascii_lowercase.ensures.value ∙ c.if-not-is_ascii_lowercase.true) no_bang)

pub returns-then-is_ascii_uppercase-clause-bad : goal.returns-then-is_ascii_uppercase-clause-bad
returns-then-is_ascii_uppercase-clause-bad c =
    rw c.if-after_bang.false (λ _ no_bang whole rest.
    bad_capital (string_bytes c.args.text.now) whole rest c.args.c (sym c.is_ascii_uppercase.ensures.value ∙ c.if-is_ascii_uppercase.true) no_bang)

pub returns-clause-ok : goal.returns-clause-ok
returns-clause-ok c =
    rw c.if-after_bang.false (read-push (string_bytes c.args.text.now) (string_bytes c.push-2.new.self) c.args.c
    (sym c.is_ascii_uppercase.ensures.value ∙ c.if-is_ascii_uppercase.false) c.in_ok-push-2.ensures.bytes)

pub returns-clause-no_bang : goal.returns-clause-no_bang
returns-clause-no_bang c =
    no_bang-push (string_bytes c.args.text.now) (string_bytes c.push-2.new.self) c.args.c c.if-c-eq33.false c.in_ok-push-2.ensures.bytes
