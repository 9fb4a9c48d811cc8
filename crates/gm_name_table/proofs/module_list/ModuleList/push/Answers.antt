use Rattle.std.proofs.Common.{rules, subst, sym}
use Rattle.gm_name_table.specs.Listed.{AreModuleNumbers}
use Rattle.gm_name_table.proofs.Listed.{begins_as, not_pushed, pushed, pushed_numbers, still_numbers}
use Rattle.gm_name_table.proofs.module_list.ModuleList.push.Goals as goal

pub returns-in_err-push-clause-err : goal.returns-in_err-push-clause-err
returns-in_err-push-clause-err c =
    let same = not_pushed c.number.new.self c.args.pair.now c.push.new.self.items c.self.view_is
    c.number.ensures.only c.self.invariant c.in_err-push.ensures.items in
    search (rules, same)

pub invariant_of-self-2 : goal.invariant_of-self-2
invariant_of-self-2 c =
    let inside = c.self.inside in
    let table = c.number.new.self in
    subst (AreModuleNumbers table) (sym c.in_ok-push.ensures.items)
    (pushed_numbers table c.args.pair.now inside.numbers.items c.in_ok-number.number c.in_ok-number.ensures.number
    (still_numbers inside.table table inside.numbers.items
    (begins_as inside.table table c.args.pair.now c.number.ensures.only) c.self.invariant))

pub returns-clause-ok : goal.returns-clause-ok
returns-clause-ok c =
    pushed c.number.new.self c.args.pair.now c.push.new.self.items c.in_ok-number.number c.self.view_is
    c.number.ensures.only c.self.invariant c.in_ok-number.ensures.number c.in_ok-push.ensures.items

pub invariant_of-self-in_err-push : goal.invariant_of-self-in_err-push
invariant_of-self-in_err-push c =
    let inside = c.self.inside in
    let table = c.number.new.self in
    subst (AreModuleNumbers table) (sym c.in_err-push.ensures.items)
    (still_numbers inside.table table inside.numbers.items (begins_as inside.table table c.args.pair.now c.number.ensures.only) c.self.invariant)
