use Rattle.std.proofs.Common.{◌∙◌, ap}
use Rattle.gm_name_table.specs.Listed.{modules_of, part}
use Rattle.gm_name_table.proofs.Listed.{part_as}
use Rattle.gm_name_table.proofs.module_list.ModuleList.part.Goals as goal

pub returns : goal.returns
returns c =
    let inside = c.self.inside in
    let start = c.args.start in
    let end = c.args.end in
    part_as c.modules.result.now inside.table c.deref.result.now inside.numbers.items start end
    c.modules.ensures c.deref.ensures.value
    ∙ ap (λ list. part start end (modules_of list)) c.self.view_is
