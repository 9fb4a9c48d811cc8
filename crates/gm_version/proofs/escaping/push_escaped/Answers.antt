use Rattle.std.proofs.Common.{◌++◌, ◌∙◌, ap, sym}
use Rattle.std.specs.Prelude.{string_bytes}
use Rattle.gm_version.proofs.Escapes.{escaped-lower}
use Rattle.gm_version.proofs.escaping.push_escaped.Goals as goal

pub returns-clause-ok : goal.returns-clause-ok
returns-clause-ok c =
    let same = sym (escaped-lower c.args.text.now (sym c.has_upper_case.ensures ∙ c.if-has_upper_case.false)) in
    c.in_ok-push_str.ensures.bytes ∙ ap (string_bytes c.args.name.now ++◌) same
