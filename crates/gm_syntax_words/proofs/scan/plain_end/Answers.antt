use Rattle.std.proofs.Common.{sym, ◌∙◌, arith}
use Rattle.gm_syntax_words.proofs.Steps.{plain_counts}
use Rattle.gm_syntax_words.proofs.scan.plain_end.Goals as goal

pub returns-then-not-is_plain-2-clause-run : goal.returns-then-not-is_plain-2-clause-run
returns-then-not-is_plain-2-clause-run c =
    plain_counts _ _ _ _ (omega arith) (omega arith) (sym c.is_plain.ensures ∙ c.if-not-is_plain.false) c.loop-n.invariant.counted

pub returns-then-not-is_plain-3-clause-run : goal.returns-then-not-is_plain-3-clause-run
returns-then-not-is_plain-3-clause-run c =
    plain_counts _ _ _ _ (omega arith) (omega arith) (sym c.is_plain-in-loop-n.ensures ∙ c.if-not-is_plain-2.false)
    (plain_counts _ _ _ _ (omega arith) (omega arith) (sym c.is_plain.ensures ∙ c.if-not-is_plain.false) c.loop-n.invariant.counted)

pub returns-then-not-is_plain-4-clause-run : goal.returns-then-not-is_plain-4-clause-run
returns-then-not-is_plain-4-clause-run c =
    plain_counts _ _ _ _ (omega arith) (omega arith) (sym c.is_plain-in-loop-n-2.ensures ∙ c.if-not-is_plain-3.false)
    (plain_counts _ _ _ _ (omega arith) (omega arith) (sym c.is_plain-in-loop-n.ensures ∙ c.if-not-is_plain-2.false)
    (plain_counts _ _ _ _ (omega arith) (omega arith) (sym c.is_plain.ensures ∙ c.if-not-is_plain.false) c.loop-n.invariant.counted))

pub loop-n-preserved : goal.loop-n-preserved
loop-n-preserved c = record {
  past = omega arith;
  in_range = omega arith;
  counted = plain_counts _ _ _ _ (omega arith) (omega arith) (sym c.is_plain-in-loop-n-3.ensures ∙ c.if-not-is_plain-4.false)
      (plain_counts _ _ _ _ (omega arith) (omega arith) (sym c.is_plain-in-loop-n-2.ensures ∙ c.if-not-is_plain-3.false)
      (plain_counts _ _ _ _ (omega arith) (omega arith) (sym c.is_plain-in-loop-n.ensures ∙ c.if-not-is_plain-2.false)
      (plain_counts _ _ _ _ (omega arith) (omega arith)
      (sym c.is_plain.ensures ∙ c.if-not-is_plain.false) c.loop-n.invariant.counted)));
}

pub loop-n-2-preserved : goal.loop-n-2-preserved
loop-n-2-preserved c = record {
  past = omega arith;
  in_range = omega arith;
  counted = plain_counts _ _ _ _ (omega arith) (omega arith)
      (sym c.is_plain-in-loop-n-2-2.ensures ∙ c.if-is_plain.true) c.loop-n-2.invariant.counted;
}
