use Rattle.std.proofs.Common.{take}
use Rattle.gm_syntax.specs.LineViews.{line_views, plain_lines}
use Rattle.gm_file.proofs.Keeping.{keeps_both}
use Rattle.gm_file.proofs.Lines.{lines-next}
use Rattle.gm_file.proofs.retractions.retractions_of_lines.Goals as goal

pub loop-line-preserved : goal.loop-line-preserved
loop-line-preserved c =
    let lines = c.args.lines.now in
    let before = take c.loop-line.line-index (plain_lines (line_views lines)) in
    record {
      kept = keeps_both c.loop-line.invariant.kept c.read_line.ensures.kept;
      read = rw (lines-next lines c.loop-line.line-index c.line-item.result c.loop-line-test.true c.line-item.is)
          (c.in_ok-read_line.ensures.read before c.loop-line.invariant.read);
    }
