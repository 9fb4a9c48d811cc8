use Rattle.std.proofs.lemmas.Iterator.{YieldsList-from_chars}
use Rattle.std.proofs.Common.{◌+◌, length, drop}
use Rattle.std.proofs.lemmas.Iterator.Consumers.{YieldsList-end, YieldsList-so_far, YieldsList-turn}
use Rattle.std.proofs.lemmas.Result.{err_from_is_err_and}
use Rattle.std.specs.Prelude.{encode_utf8_all, string_bytes}
use Rattle.std.specs.Str.{chars}
use Rattle.gm_version.proofs.Escapes.{begins-more, escaped-more, escaped-whole, name-split}
use Rattle.gm_version.proofs.escaping.push_each_escaped.Goals as goal

pub loop-c-preserved : goal.loop-c-preserved
loop-c-preserved c =
    escaped-more (string_bytes c.args.name.now) (string_bytes c.loop-c.name) (string_bytes c.push_escaped_char.new.name)
    c.loop-c.yielded c.in-Some.c c.loop-c.invariant c.in_ok-push_escaped_char.ensures.ok

pub returns-clause-ok : goal.returns-clause-ok
returns-clause-ok c =
    let end = YieldsList-end (YieldsList-from_chars c.args.text.now c.utf8.text cc) c.loop-c.yielded _
    c.loop-c.yielded_by _ _ c.in-None.is c.next.ensures.steps in
    escaped-whole (string_bytes c.args.name.now) (string_bytes c.loop-c.name) c.args.text.now c.loop-c.yielded end.0 c.utf8.text c.loop-c.invariant

pub returns-in_err-push_escaped_char-clause-refused : goal.returns-in_err-push_escaped_char-clause-refused
returns-in_err-push_escaped_char-clause-refused c =
    let road = YieldsList-from_chars c.args.text.now c.utf8.text cc in
    let front = YieldsList-so_far road c.loop-c.yielded _ c.loop-c.yielded_by in
    let turn = YieldsList-turn road c.loop-c.yielded _ c.loop-c.yielded_by _ _ c.in-Some.c c.in-Some.is c.next.ensures.steps in
    let rest = encode_utf8_all (drop (length c.loop-c.yielded + 1) (chars c.args.text.now)) in
    let split = name-split c.args.text.now c.loop-c.yielded c.in-Some.c c.utf8.text front turn.0 turn.1 in
    let p = err_from_is_err_and c.from_residual.result c.from_residual.ensures.1 in
    rw (p.1) (begins-more (string_bytes c.args.name.now) (string_bytes c.loop-c.name)
    (string_bytes c.push_escaped_char.new.name) c.args.text.now c.loop-c.yielded rest c.in-Some.c c.loop-c.invariant
    split c.in_err-push_escaped_char.ensures.refused)
