use Rattle.std.proofs.Common.{ap, sym, ◌∙◌, arith}
use Rattle.gm_syntax_words.specs.Private.Scan.{longer}
use Rattle.gm_syntax_words.proofs.Steps.{raw_ends_at, raw_goes_on, raw_is_open}
use Rattle.gm_syntax_words.proofs.scan.raw_len.Goals as goal

pub returns-then-b-eq96-clause-value : goal.returns-then-b-eq96-clause-value
returns-then-b-eq96-clause-value c = sym (ap (longer c.loop-n.n) (raw_ends_at c.args.bytes.now c.loop-n.n (omega arith) (omega arith))) ∙ c.loop-n.invariant

pub loop-n-preserved : goal.loop-n-preserved
loop-n-preserved c = sym (raw_goes_on c.args.bytes.now c.loop-n.n (omega arith) c.if-b-eq96.false) ∙ c.loop-n.invariant

pub returns-clause-value : goal.returns-clause-value
returns-clause-value c = sym (ap (longer c.loop-n.n) (raw_is_open c.args.bytes.now c.loop-n.n (omega arith))) ∙ c.loop-n.invariant
