use Rattle.std.proofs.Common.{sym, ap, ◌∙◌}
use Rattle.gm_version.specs.Number.{is_decimal}
use Rattle.gm_file.proofs.SmallNumbers.{unread-small}
use Rattle.gm_file.proofs.go_version.small_number.Goals as goal

pub returns-in-Err : goal.returns-in-Err
returns-in-Err c =
    sym (unread-small c.args.text.now c.in-Err.field-0 (ap is_decimal (sym c.as_bytes.ensures.value)
    ∙ sym c.is_decimal.ensures ∙ c.if-not-is_decimal.false) c.in-Err.ensures.value.0)
