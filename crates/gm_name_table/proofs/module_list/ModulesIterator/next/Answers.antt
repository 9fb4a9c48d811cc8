use Rattle.std.proofs.Common.{◌<◌, length}
use Rattle.std.proofs.lemmas.List.Elements.{All-rest}
use Rattle.gm_name_table.proofs.module_list.ModulesIterator.next.Goals as goal

pub invariant_of-self : goal.invariant_of-self
invariant_of-self c =
    let inside = c.self.inside in
    All-rest (λ number. number < length inside.modules.now) c.in_ok-first.first.now c.in_ok-first.others.now
    inside.numbers.now c.in_ok-first.ensures.cases.0 c.self.invariant
