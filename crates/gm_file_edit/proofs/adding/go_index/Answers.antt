use Rattle.std.proofs.Common.{◌∙◌, arith, refl, sym}
use Rattle.gm_file_edit.proofs.AddingCode.{outside-end, outside-found, unmet-end, unmet-found, unmet-more}
use Rattle.gm_file_edit.proofs.adding.go_index.Goals as goal

pub loop-n-init : goal.loop-n-init
loop-n-init c = λ new. refl

pub loop-n-preserved : goal.loop-n-preserved
loop-n-preserved c =
    let inside = c.loop-n-test.true in
    let len = c.len-n-end.ensures in
    unmet-more c.args.lines.now (omega (arith, inside, len)) c.key-key.ensures c.is_of.ensures c.loop-n.invariant c.if-is_of.false

pub returns-then-is_inside-clause-index : goal.returns-then-is_inside-clause-index
returns-then-is_inside-clause-index c = λ new.
    let inside = c.loop-n-test.true in
    let len = c.len-n-end.ensures in
    c.close_index.ensures.index new
    ∙ rw (sym c.is_inside.ensures ∙ c.if-is_inside.true) at (unmet-found c.args.lines.now (omega (arith, inside, len)) c.key-key.ensures c.is_of.ensures c.loop-n.invariant c.if-is_of.true new)

pub returns-then-is_inside-clause-outside : goal.returns-then-is_inside-clause-outside
returns-then-is_inside-clause-outside c = c.close_index.ensures.outside c.requires.closed

pub returns-then-is_of-clause-index : goal.returns-then-is_of-clause-index
returns-then-is_of-clause-index c = λ new.
    let inside = c.loop-n-test.true in
    let len = c.len-n-end.ensures in
    rw (sym c.is_inside.ensures ∙ c.if-is_inside.false) at (unmet-found c.args.lines.now (omega (arith, inside, len)) c.key-key.ensures c.is_of.ensures c.loop-n.invariant c.if-is_of.true new)

pub returns-then-is_of-clause-outside : goal.returns-then-is_of-clause-outside
returns-then-is_of-clause-outside c =
    let inside = c.loop-n-test.true in
    let len = c.len-n-end.ensures in
    outside-found c.args.lines.now (omega (arith, inside, len)) c.key-key.ensures c.is_of.ensures c.loop-n.invariant c.if-is_of.true (sym c.is_inside.ensures ∙ c.if-is_inside.false)

pub returns-clause-index : goal.returns-clause-index
returns-clause-index c = λ new.
    let over = c.loop-n-test.false in
    let len = c.len-n-end.ensures in
    unmet-end c.args.lines.now (omega (arith, over, len)) c.len.ensures c.loop-n.invariant new

pub returns-clause-outside : goal.returns-clause-outside
returns-clause-outside c = outside-end c.args.lines.now c.len.ensures c.requires.closed
