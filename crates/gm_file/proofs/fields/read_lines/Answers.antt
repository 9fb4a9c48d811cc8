use Rattle.std.proofs.Common.{arith, drop, take, ◌+◌, ◌∙◌}
use Rattle.std.specs.Option.{option_map}
use Rattle.gm_syntax.specs.LineViews.{line_of, line_views, plain, plain_lines}
use Rattle.gm_file.specs.Directives.{Strict}
use Rattle.gm_file.proofs.Keeping.{keeps_both}
use Rattle.gm_file.proofs.Lines.{fault-reported, length-before, lines-all, lines-next, lines-split, read-more, read-none}
use Rattle.gm_file.proofs.fields.read_lines.Goals as goal

pub loop-n-init : goal.loop-n-init
loop-n-init c = record {
  kept = record { kept = omega arith; within = λ before. before };
  own = c.new-fields.ensures.own;
  read = read-none Strict c.new-fields.result (c.new-fields.ensures.holds Strict)
      c.new-fields.ensures.found;
}

pub loop-n-preserved : goal.loop-n-preserved
loop-n-preserved c =
    let lines = c.args.lines.now in
    let next = lines-next lines c.loop-n.n c.index-lines-n.result c.loop-n-test.true c.index-lines-n.is in
    record {
      kept = keeps_both c.loop-n.invariant.kept c.read_line.ensures.kept;
      own = c.read_line.ensures.before ∙ c.loop-n.invariant.own;
      read = rw (next, c.block_after_line-block.ensures.words)
          (read-more Strict (take c.loop-n.n (plain_lines (line_views lines)))
          (option_map (λ t. t.now.word) c.loop-n.block) (plain (line_of c.index-lines-n.result)) c.loop-n.fields
          c.read_line.new.self c.loop-n.invariant.read c.in_default.ensures.found c.in_default.ensures.added);
    }

pub returns-in-Err-clause-kept : goal.returns-in-Err-clause-kept
returns-in-Err-clause-kept c = keeps_both c.loop-n.invariant.kept c.read_line.ensures.kept

pub returns-in-Err-clause-fault : goal.returns-in-Err-clause-fault
returns-in-Err-clause-fault c =
    rw c.at_line.ensures
    (fault-reported Strict (take c.loop-n.n (plain_lines (line_views c.args.lines.now)))
    (option_map (λ t. t.now.word) c.loop-n.block) (plain (line_of c.index-lines-n.result))
    (drop (c.loop-n.n + 1) (plain_lines (line_views c.args.lines.now))) (plain_lines (line_views c.args.lines.now))
    (c.loop-n.n + 1) c.loop-n.fields c.read_line.new.self c.in-Err.fault
    c.loop-n.invariant.read (length-before c.args.lines.now c.loop-n.n c.loop-n-test.true)
    (lines-split c.args.lines.now c.loop-n.n c.index-lines-n.result c.loop-n-test.true c.index-lines-n.is)
    c.in-Err.ensures.added)

pub returns-clause-ok : goal.returns-clause-ok
returns-clause-ok c = rw (lines-all c.args.lines.now c.loop-n.n c.loop-n-test.false) at c.loop-n.invariant.read.read
