use Rattle.std.proofs.Common.{inl, inr}
use Rattle.gomod_hints.specs.Hints.{HasSaid, HasSaidIn, hints, other_hints}
use Rattle.gomod_hints.proofs.HintWords.{says_too, some_too}
use Rattle.gomod_hints.proofs.hints.tables_say.Goals as goal

pub returns-then-is_some : goal.returns-then-is_some
returns-then-is_some c =
    let taken = c.args.takes_operations in
    let near = c.args.is_near in
    let key = c.args.key.now in
    some_too (HasSaidIn hints taken near key) (HasSaid taken near key) (λ text said. inl said) c.in_ok-said.said (rw c.rows.ensures at c.in_ok-said.ensures)

pub returns : goal.returns
returns c =
    let taken = c.args.takes_operations in
    let near = c.args.is_near in
    let key = c.args.key.now in
    says_too (HasSaidIn other_hints taken near key) (HasSaid taken near key) (λ text said. inr said) c.rows_say-2.result (rw c.other_rows.ensures at c.rows_say-2.ensures)
