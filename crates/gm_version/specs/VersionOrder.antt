-- The order of versions is total, and only equal texts tie.
use Rattle.std.proofs.Common.{◌≡◌, ℕ, List, nat_eq, Some}
use Rattle.std.specs.Cmp.{IsPartialOrder, IsTotalOrder, nat_cmp_total, on_total, po, then_total}
use Rattle.std.specs.Cmp.Lexicographic.{nat_list_cmp_total, pointwise}
use Rattle.std.specs.FinMap.{IsAntisymmetric, nat_cmp-IsAntisymmetric, slice_cmp-IsAntisymmetric}
use Rattle.std.specs.Ordering.{eq_by_cmp, ordering_then}
use Rattle.std.specs.declared.cmp.Ordering.{Ordering}
use Rattle.std.specs.declared.cmp.Ordering.TheVariants.{Less, Equal, Greater}
use Rattle.semver.specs.OrderLaws.{order_ties, pre_total}
use Rattle.semver.specs.Parse.{Parts}
use Rattle.gm_version.specs.Version.{parts_in, precedence, version_cmp}

pub precedence_total : IsTotalOrder precedence
precedence_total = then_total (on_total (λ (p : Parts). p.0) nat_cmp_total)
    (then_total (on_total (λ (p : Parts). p.1) nat_cmp_total)
    (then_total (on_total (λ (p : Parts). p.2) nat_cmp_total) (on_total (λ (p : Parts). p.3) pre_total)))

pub version_total : IsTotalOrder version_cmp
version_total = then_total (on_total parts_in precedence_total) nat_list_cmp_total

-- a chain of two comparisons ties only if the second does
pub then_second : (r s : Ordering) → ordering_then r s ≡ Equal → s ≡ Equal
then_second Less s e = cc e
then_second Equal s e = e
then_second Greater s e = cc e

-- two versions that tie are equal
pub version-anti : IsAntisymmetric version_cmp
version-anti x y e = slice_cmp-IsAntisymmetric nat_cmp-IsAntisymmetric x y (then_second _ _ e)

pub version_ties : (x y : List ℕ) → pointwise nat_eq x y ≡ eq_by_cmp version_cmp x y
version_ties = order_ties version_cmp version_total version-anti

pub version_po : IsPartialOrder (pointwise nat_eq) (λ x y. Some (version_cmp x y))
version_po = po version_total version_ties
