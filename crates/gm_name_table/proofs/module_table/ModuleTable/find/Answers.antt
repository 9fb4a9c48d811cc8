use Rattle.std.proofs.Common.{◌≡◌, Some, subst}
use Rattle.std.specs.Prelude.{◌↔◌, slice_get}
use Rattle.gm_name_table.proofs.Lists.{found-exactly}
use Rattle.gm_name_table.proofs.module_table.ModuleTable.find.Goals as goal

pub returns : goal.returns
returns c = λ number.
    let pair = c.args.pair.now in
    subst (λ pairs. (c.find.result ≡ Some number) ↔ (slice_get pairs number ≡ Some pair)) c.self.view_is
    (found-exactly c.self.inside.modules.items pair c.find.result c.self.invariant.0.distinct
    (rw c.deref.ensures.value at c.find.ensures.some) (rw c.deref.ensures.value at c.find.ensures.none) number)
