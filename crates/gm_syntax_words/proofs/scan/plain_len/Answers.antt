use Rattle.std.proofs.Common.{inl, inr, arith}
use Rattle.gm_syntax_words.proofs.Spelled.{plain_stops, plain_goes_on, plain_ends}
use Rattle.gm_syntax_words.proofs.scan.plain_len.Goals as goal
use Rattle.gm_syntax_words.proofs.scan.plain_len.Goals.{then-b-eq34-via-then-b-eq34, then-b-eq34-via-else-b-eq34+then-b-eq92}

pub returns-then-b-eq34-clause-value : goal.returns-then-b-eq34-clause-value
returns-then-b-eq34-clause-value c =
    elim c.then-b-eq34.branch [
      | then-b-eq34-via-then-b-eq34 w ↦ omega (arith, plain_stops c.args.bytes.now c.loop-n.n (omega arith) (inl w.if-b-eq34.true), c.loop-n.invariant)
      | then-b-eq34-via-else-b-eq34+then-b-eq92 w ↦ omega (
        arith,
        plain_stops c.args.bytes.now c.loop-n.n (omega arith) (inr w.if-b-eq92.true),
        c.loop-n.invariant,
      )
    ]

pub loop-n-preserved : goal.loop-n-preserved
loop-n-preserved c = omega (arith, plain_goes_on c.args.bytes.now c.loop-n.n (omega arith) c.if-b-eq34.false c.if-b-eq92.false, c.loop-n.invariant)

pub returns-clause-value : goal.returns-clause-value
returns-clause-value c = omega (arith, plain_ends c.args.bytes.now c.loop-n.n (omega arith), c.loop-n.invariant)
