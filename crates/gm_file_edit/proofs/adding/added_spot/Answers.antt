use Rattle.std.proofs.Common.{◌-◌, arith}
use Rattle.gm_file_edit.proofs.AddingCode.{tail-begin, tail-end, tail-found, tail-more}
use Rattle.gm_file_edit.proofs.adding.added_spot.Goals as goal

pub loop-n-init : goal.loop-n-init
loop-n-init c = tail-begin c.args.own c.len-n.ensures

pub loop-n-preserved : goal.loop-n-preserved
loop-n-preserved c =
    let more = c.loop-n-test.true in
    tail-more (c.loop-n.n - 1) c.requires.known (omega (arith, more)) c.key-key.ensures c.is_of.ensures c.loop-n.invariant c.if-is_of.false

pub returns-then-is_of-clause-place : goal.returns-then-is_of-clause-place
returns-then-is_of-clause-place c =
    let more = c.loop-n-test.true in
    tail-found (c.loop-n.n - 1) c.requires.known (omega (arith, more)) c.key-key.ensures c.is_of.ensures c.loop-n.invariant c.if-is_of.true

pub returns-clause-none : goal.returns-clause-none
returns-clause-none c = let over = c.loop-n-test.false in tail-end (omega (arith, over)) c.loop-n.invariant
