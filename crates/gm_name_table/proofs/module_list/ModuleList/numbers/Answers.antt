use Rattle.std.proofs.Common.{◌∙◌, ap, refl}
use Rattle.gm_name_table.proofs.Listed.{part_as}
use Rattle.gm_name_table.proofs.module_list.ModuleList.numbers.Goals as goal

pub returns-clause-modules : goal.returns-clause-modules
returns-clause-modules c =
    let list = c.args.self.now in
    part_as list.modules list.modules c.deref.result.now list.numbers c.args.start c.args.end refl
    (c.deref.ensures.value ∙ ap (λ l. l.numbers) c.self.view_is)
