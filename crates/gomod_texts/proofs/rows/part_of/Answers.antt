use Rattle.gomod_texts.proofs.PartOfRows.{nothing_left, part_left}
use Rattle.gomod_texts.proofs.rows.part_of.Goals as goal

pub returns-then-rows-from : goal.returns-then-rows-from
returns-then-rows-from c = nothing_left c.args.limit c.args.from c.args.rows.now c.if-rows-from.true

pub returns : goal.returns
returns c = part_left c.args.limit c.args.from c.count_within.result c.args.rows.now c.count_within.ensures.rows
