use Rattle.std.proofs.Common.{arith, ap, sym, ◌∙◌}
use Rattle.gm_syntax.specs.LineViews.{line_of}
use Rattle.gm_file_edit.proofs.AddingCode.{outside-closing, outside-end}
use Rattle.gm_file_edit.proofs.adding.close_index.Goals as goal

pub returns-in-Close-clause-outside : goal.returns-in-Close-clause-outside
returns-in-Close-clause-outside c = λ closed.
    let inside = c.loop-n-test.true in
    let len = c.len-n-end.ensures in
    outside-closing c.args.lines.now c.loop-n.n (omega (arith, inside, len)) (sym c.line.ensures.line ∙ ap line_of c.in-Close.is)

pub returns-clause-outside : goal.returns-clause-outside
returns-clause-outside c = λ closed. outside-end c.args.lines.now c.len.ensures closed
