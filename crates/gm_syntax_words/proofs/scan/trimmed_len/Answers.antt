use Rattle.std.proofs.Common.{sym, ◌∙◌, arith}
use Rattle.gm_syntax_words.proofs.Trim.{trim_done, trim_empty, trim_less}
use Rattle.gm_syntax_words.proofs.scan.trimmed_len.Goals as goal

pub loop-n-preserved : goal.loop-n-preserved
loop-n-preserved c = record {
  in_range = omega arith;
  trimmed =
      trim_less _ _ (omega arith) c.loop-n.invariant.in_range (sym c.is_blank.ensures ∙ c.if-is_blank.true)
      ∙ c.loop-n.invariant.trimmed;
}

pub returns-else-is_blank-clause-text : goal.returns-else-is_blank-clause-text
returns-else-is_blank-clause-text c =
    sym (trim_done _ _ (omega arith) c.loop-n.invariant.in_range (sym c.is_blank.ensures ∙ c.if-is_blank.false))
    ∙ c.loop-n.invariant.trimmed

pub returns-after-loop-n-clause-text : goal.returns-after-loop-n-clause-text
returns-after-loop-n-clause-text c = sym (trim_empty _ _ (omega arith)) ∙ c.loop-n.invariant.trimmed
