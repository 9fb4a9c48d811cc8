use Rattle.std.proofs.Common.{inl, refl, subst, sym}
use Rattle.gm_name_table.specs.Listed.{AreModuleNumbers}
use Rattle.gm_name_table.proofs.Listed.{pushed, pushed_numbers}
use Rattle.gm_name_table.proofs.module_list.ModuleList.push_known.Goals as goal

pub returns-in_ok-push-in-Some-clause-pushed : goal.returns-in_ok-push-in-Some-clause-pushed
returns-in_ok-push-in-Some-clause-pushed c = λ _.
    pushed c.self.inside.table (c.args.path.now, c.args.version.now) c.push.new.self.items c.in-Some.number
    c.self.view_is (inl refl) c.self.invariant c.in-Some.ensures.number c.in_ok-push-in-Some.ensures.items

pub invariant_of-self-in-Some : goal.invariant_of-self-in-Some
invariant_of-self-in-Some c =
    let inside = c.self.inside in
    subst (AreModuleNumbers inside.table) (sym c.in_ok-push-in-Some.ensures.items)
    (pushed_numbers inside.table (c.args.path.now, c.args.version.now) inside.numbers.items c.in-Some.number c.in-Some.ensures.number c.self.invariant)
