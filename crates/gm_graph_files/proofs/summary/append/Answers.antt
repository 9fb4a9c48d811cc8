use Rattle.std.proofs.Common.{[]}
use Rattle.gm_name_table.proofs.Listed.{appends_after}
use Rattle.gm_graph_files.proofs.summary.append.Goals as goal

pub returns-in_err-push-clause-grows : goal.returns-in_err-push-clause-grows
returns-in_err-push-clause-grows c =
    (_, appends_after c.args.modules.now c.loop-x.modules c.push.new.self _ [] c.loop-x.invariant c.in_err-push.ensures.err)
