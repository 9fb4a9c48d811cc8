use Rattle.std.proofs.Common.{ℕ, List, subst, ◌∙◌}
use Rattle.std.proofs.lemmas.Result.{err_from_is_err_and}
use Rattle.gm_syntax.specs.LineViews.{line_of, plain_lines}
use Rattle.gm_syntax.specs.Parsed.{IsFaultOrNoMemory}
use Rattle.gm_file.specs.Directives.{Lax}
use Rattle.gm_file.proofs.DepReading.{misread-text}
use Rattle.gm_file.proofs.Keeping.{keeps_both}
use Rattle.gm_file.proofs.Retracted.{retracted-sofar}
use Rattle.gm_file.proofs.retractions.retractions_left.Goals as goal

pub returns-in_err-line-clause-fault : goal.returns-in_err-line-clause-fault
returns-in_err-line-clause-fault c =
    let so = c.loop-said.invariant.read in
    let fault = c.in_err-line.field-0.0 in
    let parsed : IsFaultOrNoMemory c.args.reader.now.source fault =
    subst (λ (source : List ℕ). IsFaultOrNoMemory source fault)
    (c.in_err-line.ensures.source ∙ c.loop-said.invariant.source) (c.in_err-line.ensures.next so.0 so.1) in
    let p = err_from_is_err_and c.from_residual.result c.from_residual.ensures.1 in
    rw (p.1, p.2) (misread-text Lax c.args.reader.now.source fault parsed)

pub loop-said-preserved : goal.loop-said-preserved
loop-said-preserved c =
    let so = c.loop-said.invariant.read in
    rw c.recycle.ensures (record {
      kept = keeps_both c.loop-said.invariant.kept c.read_line-read.ensures.kept;
      source = c.in_ok-line.ensures.source ∙ c.loop-said.invariant.source;
      read = retracted-sofar c.next.new.self so.0 (line_of c.in-Some.line) c.read_line-read.new.self (rw c.in-Some.is at c.in_ok-line.ensures.next so.0 so.1)
          (c.in_ok-read.ensures.read (plain_lines so.0) so.2);
    })
