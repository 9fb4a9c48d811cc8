-- The order of steps is total, and only equal ones compare as equal.
use Rattle.std.proofs.Common.{◌≡◌, ◌≢◌, Bool, refl, sym, Some}
use Rattle.std.specs.Cmp.{IsEquivalence, IsPartialOrder, IsTotalOrder, eq_by_cmp_equiv, po}
use Rattle.std.specs.Ordering.{eq_by_cmp, ordering_reverse}
use Rattle.std.specs.declared.cmp.Ordering.TheVariants.{Less, Equal, Greater}
use Rattle.gm_name.specs.ModuleVersion.{pair_total}
use Rattle.gm_graph_select.specs.declared.step.Step.{Step}
use Rattle.gm_graph_select.specs.declared.step.Step.TheVariants.{Main, Of}
use Rattle.gm_graph_select.specs.Graph.{step_cmp}

less_not_greater : Less ≢ Greater
less_not_greater e = cc

pub step_total : IsTotalOrder step_cmp
step_total = record { antisymm = antisymm; trans = trans; congr = congr }
  where
    antisymm : (s t : Step) → step_cmp s t ≡ ordering_reverse (step_cmp t s)
    antisymm Main Main = refl
    antisymm Main (Of y) = refl
    antisymm (Of x) Main = refl
    antisymm (Of x) (Of y) = pair_total.antisymm x y

    trans : (s t u : Step) → step_cmp s t ≡ Less → step_cmp t u ≡ Less → step_cmp s u ≡ Less
    trans Main Main u e f = f
    trans Main (Of y) Main e f = cc
    trans Main (Of y) (Of z) e f = refl
    trans (Of x) Main u e f = absurd (less_not_greater (sym e))
    trans (Of x) (Of y) Main e f = f
    trans (Of x) (Of y) (Of z) e f = pair_total.trans x y z e f

    congr : (s t u : Step) → step_cmp s t ≡ Equal → step_cmp s u ≡ step_cmp t u
    congr Main Main u e = refl
    congr Main (Of y) u e = cc
    congr (Of x) Main u e = cc
    congr (Of x) (Of y) Main e = refl
    congr (Of x) (Of y) (Of z) e = pair_total.congr x y z e

-- Whether two steps are the same.
abbrev pub step_eq : Step → Step → Bool
step_eq s t = eq_by_cmp step_cmp s t

pub step_equiv : IsEquivalence step_eq
step_equiv = eq_by_cmp_equiv step_total

pub step_po : IsPartialOrder step_eq (λ s t. Some (step_cmp s t))
step_po = po step_total (λ s t. refl)
