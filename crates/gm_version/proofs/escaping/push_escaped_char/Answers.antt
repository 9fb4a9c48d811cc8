use Rattle.std.proofs.Common.{sym, ◌∙◌}
use Rattle.std.proofs.lemmas.Result.{err_from_is_err_and}
use Rattle.std.specs.Prelude.{string_bytes}
use Rattle.gm_version.proofs.Escapes.{mark-begins}
use Rattle.gm_version.proofs.escaping.push_escaped_char.Goals as goal

pub returns-in_err-push-3-clause-refused : goal.returns-in_err-push-3-clause-refused
returns-in_err-push-3-clause-refused c =
    let p = err_from_is_err_and c.from_residual-in_err-push-3.result c.from_residual-in_err-push-3.ensures.1 in
    rw (p.1) (mark-begins (string_bytes c.args.name.now) (string_bytes c.push-2.new.self)
    (string_bytes c.push-3.new.self) c.args.c (sym c.is_ascii_uppercase.ensures.value
    ∙ c.if-not-is_ascii_uppercase.false) c.in_ok-push-2.ensures.bytes c.in_err-push-3.ensures.bytes)
