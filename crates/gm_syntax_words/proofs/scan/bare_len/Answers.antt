use Rattle.std.proofs.Common.{sym, ◌∙◌, arith}
use Rattle.gm_syntax_words.proofs.Steps.{bare_goes_on, bare_stops, bare_stops_at_end}
use Rattle.gm_syntax_words.proofs.scan.bare_len.Goals as goal

pub loop-n-preserved : goal.loop-n-preserved
loop-n-preserved c =
    let step = bare_goes_on _ _ c.loop-n-test.true (sym c.goes_on.ensures ∙ c.if-goes_on.true) in
    record {
      in_range = c.plain_end-n-in-loop-n.ensures.in_range.1;
      counted =
          omega (arith, step, c.plain_end-n-in-loop-n.ensures.run, c.loop-n.invariant.counted);
    }

pub returns-else-goes_on : goal.returns-else-goes_on
returns-else-goes_on c = omega (
  arith,
  bare_stops _ _ c.loop-n-test.true
      (sym c.goes_on.ensures ∙ c.if-goes_on.false),
  c.loop-n.invariant.counted,
)

pub returns-after-loop-n : goal.returns-after-loop-n
returns-after-loop-n c = omega (arith, bare_stops_at_end _ _ c.loop-n-test.false, c.loop-n.invariant.counted)
