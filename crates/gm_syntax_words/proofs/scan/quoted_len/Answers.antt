use Rattle.std.proofs.Common.{ap, sym, ◌∙◌, inl, inr, arith}
use Rattle.gm_syntax_words.specs.Private.Scan.{longer}
use Rattle.gm_syntax_words.proofs.Steps.{quoted_ends_at, quoted_goes_on, quoted_skips, quoted_refuses, quoted_is_cut, quoted_is_open, escape_is, escape_is_not}
use Rattle.gm_syntax_words.proofs.scan.quoted_len.Goals as goal
use Rattle.gm_syntax_words.proofs.scan.quoted_len.Goals.{else-c-ne34-via-then-c-ne34+else-c-ne92, else-c-ne34-via-else-c-ne34}

pub returns-then-b-eq34-clause-value : goal.returns-then-b-eq34-clause-value
returns-then-b-eq34-clause-value c = sym (ap (longer c.loop-n.n)
    (quoted_ends_at c.args.bytes.now c.loop-n.n (omega arith) (omega arith))) ∙ c.loop-n.invariant.counted

pub returns-then-n-bytes-clause-value : goal.returns-then-n-bytes-clause-value
returns-then-n-bytes-clause-value c = sym (ap (longer c.loop-n.n)
    (quoted_is_cut c.args.bytes.now c.loop-n.n (omega arith) (omega arith))) ∙ c.loop-n.invariant.counted

pub returns-then-c-ne92-clause-value : goal.returns-then-c-ne92-clause-value
returns-then-c-ne92-clause-value c = sym (ap (longer c.loop-n.n)
    (quoted_refuses c.args.bytes.now c.loop-n.n (omega arith) (omega arith)
    (escape_is_not _ c.if-c-ne34.true c.if-c-ne92.true))) ∙ c.loop-n.invariant.counted

pub loop-n-preserved-then-b-eq92 : goal.loop-n-preserved-then-b-eq92
loop-n-preserved-then-b-eq92 c = record {
  in_range = omega arith;
  counted = sym (quoted_skips c.args.bytes.now c.loop-n.n (omega arith) (omega arith)
      (escape_is _
      (elim c.else-c-ne34.branch [
        | else-c-ne34-via-then-c-ne34+else-c-ne92 w ↦ inr w.if-c-ne92.false
        | else-c-ne34-via-else-c-ne34 w ↦ inl w.if-c-ne34.false
      ]))) ∙ c.loop-n.invariant.counted;
}

pub loop-n-preserved : goal.loop-n-preserved
loop-n-preserved c = record {
  in_range = omega arith;
  counted = sym (quoted_goes_on c.args.bytes.now c.loop-n.n (omega arith) c.if-b-eq34.false c.if-b-eq92.false) ∙ c.loop-n.invariant.counted;
}

pub returns-clause-value : goal.returns-clause-value
returns-clause-value c = sym (ap (longer c.loop-n.n) (quoted_is_open c.args.bytes.now c.loop-n.n (omega arith))) ∙ c.loop-n.invariant.counted
