use Rattle.std.proofs.Common.{◌∙◌, ap, sym}
use Rattle.std.specs.Char.{is_ascii_digit}
use Rattle.std.specs.List.{list_all}
use Rattle.gomod_words.proofs.Limits.{limit_no_digits, limit_read, limit_unread, limit_zero}
use Rattle.gomod_words.proofs.query.limit_in.Goals as goal

pub returns-then-not-has_only_digits : goal.returns-then-not-has_only_digits
returns-then-not-has_only_digits c =
    sym (limit_no_digits c.args.text.now
    (ap (list_all is_ascii_digit) (sym c.as_bytes.ensures.value) ∙ sym c.has_only_digits.ensures ∙ c.if-not-has_only_digits.true))

pub returns-then-number-gt0 : goal.returns-then-number-gt0
returns-then-number-gt0 c =
    limit_read c.args.text.now c.in-Ok.number
    (ap (list_all is_ascii_digit) (sym c.as_bytes.ensures.value) ∙ sym c.has_only_digits.ensures ∙ c.if-not-has_only_digits.false)
    c.parse.result c.in-Ok.is c.parse.ensures.value.0 c.if-number-gt0.true

pub returns-else-number-gt0 : goal.returns-else-number-gt0
returns-else-number-gt0 c =
    limit_zero c.args.text.now c.in-Ok.number
    (ap (list_all is_ascii_digit) (sym c.as_bytes.ensures.value) ∙ sym c.has_only_digits.ensures ∙ c.if-not-has_only_digits.false)
    c.parse.result c.in-Ok.is c.parse.ensures.value.0 c.if-number-gt0.false

pub returns-in-Err : goal.returns-in-Err
returns-in-Err c =
    sym (limit_unread c.args.text.now c.in-Err.field-0
    (ap (list_all is_ascii_digit) (sym c.as_bytes.ensures.value) ∙ sym c.has_only_digits.ensures ∙ c.if-not-has_only_digits.false)
    c.in-Err.ensures.value.0)
