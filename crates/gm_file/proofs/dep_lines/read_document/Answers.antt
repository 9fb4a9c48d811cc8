use Rattle.std.proofs.Common.{◌+◌, List, drop, length, take, subst, sym, ◌∙◌}
use Rattle.gm_syntax_words.specs.Words.{Word}
use Rattle.gm_syntax.specs.Document.{Line}
use Rattle.gm_syntax.specs.LineViews.{line_views, plain_lines}
use Rattle.gm_file.specs.Directives.{Lax}
use Rattle.gm_file.specs.Views.{ReportsFault}
use Rattle.gm_file.specs.Private.Reading.{file_fault_at}
use Rattle.gm_file.proofs.Keeping.{keeps_both}
use Rattle.gm_file.proofs.Lines.{length-before, lines-all, lines-next, lines-split}
use Rattle.gm_file.proofs.dep_lines.read_document.Goals as goal

pub loop-n-preserved : goal.loop-n-preserved
loop-n-preserved c =
    let lines = c.args.lines.now in
    let before = take c.loop-n.n (plain_lines (line_views lines)) in
    record {
      kept = keeps_both c.loop-n.invariant.kept c.read_line.ensures.kept;
      before = c.read_line.ensures.before ∙ c.loop-n.invariant.before;
      found = c.in_default.ensures.found;
      read = rw (lines-next lines c.loop-n.n c.index-lines-n.result c.loop-n-test.true c.index-lines-n.is)
          (c.in_default.ensures.read before c.loop-n.invariant.read);
    }

pub returns-in-Err-clause-kept : goal.returns-in-Err-clause-kept
returns-in-Err-clause-kept c = keeps_both c.loop-n.invariant.kept c.read_line.ensures.kept

pub returns-in-Err-clause-fault : goal.returns-in-Err-clause-fault
returns-in-Err-clause-fault c =
    let lines = c.args.lines.now in
    let all = plain_lines (line_views lines) in
    let told = c.in-Err.ensures.read (take c.loop-n.n all) c.loop-n.invariant.read (drop (c.loop-n.n + 1) all) in
    rw (c.at_line.ensures, length-before lines c.loop-n.n c.loop-n-test.true)
    (subst (λ (ls : List (Line Word)). ReportsFault Lax ls
    (file_fault_at (length (take c.loop-n.n all) + 1) c.in-Err.fault))
    (sym (lines-split lines c.loop-n.n c.index-lines-n.result c.loop-n-test.true c.index-lines-n.is)) told)

pub returns-clause-ok : goal.returns-clause-ok
returns-clause-ok c = rw (lines-all c.args.lines.now c.loop-n.n c.loop-n-test.false) at c.loop-n.invariant.read
