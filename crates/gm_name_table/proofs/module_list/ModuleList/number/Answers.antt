use Rattle.std.proofs.Common.{◌∙◌, ap}
use Rattle.gm_name_table.specs.Listed.{modules_of}
use Rattle.gm_name_table.proofs.Listed.{begins_as, same_modules}
use Rattle.gm_name_table.proofs.module_list.ModuleList.number.Goals as goal

pub returns-clause-list : goal.returns-clause-list
returns-clause-list c =
    let inside = c.self.inside in
    same_modules inside.table c.number.new.self inside.numbers.items (begins_as inside.table c.number.new.self c.args.pair.now c.number.ensures.only)
    c.self.invariant
    ∙ ap modules_of c.self.view_is
