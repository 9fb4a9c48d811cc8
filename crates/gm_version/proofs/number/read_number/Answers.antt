use Rattle.std.proofs.Common.{◌∙◌, ap, sym}
use Rattle.std.proofs.lemmas.Bool.{false≢true}
use Rattle.gm_version.specs.Number.{starts_as_no_number}
use Rattle.gm_version.proofs.Numbers.{read-decimal, starts-decimal}
use Rattle.gm_version.proofs.number.read_number.Goals as goal

pub returns-then-starts_as_no_number-clause-none : goal.returns-then-starts_as_no_number-clause-none
returns-then-starts_as_no_number-clause-none c = λ n is.
    let test = rw c.as_bytes.ensures.value at c.starts_as_no_number.ensures in
    false≢true (sym (starts-decimal n is.0) ∙ sym (ap starts_as_no_number is.1) ∙ sym test ∙ c.if-starts_as_no_number.true)

pub returns-clause-some : goal.returns-clause-some
returns-clause-some c =
    let start = sym (rw c.as_bytes.ensures.value at c.starts_as_no_number.ensures) ∙ c.if-starts_as_no_number.false in
    rw c.ok.ensures.value (read-decimal c.args.text.now c.parse.result start c.parse.ensures.value.0).0

pub returns-clause-none : goal.returns-clause-none
returns-clause-none c =
    let start = sym (rw c.as_bytes.ensures.value at c.starts_as_no_number.ensures) ∙ c.if-starts_as_no_number.false in
    rw c.ok.ensures.value (read-decimal c.args.text.now c.parse.result start c.parse.ensures.value.0).1
