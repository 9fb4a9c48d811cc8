-- Versions that are not above others.
use Rattle.std.proofs.Common.{◌≡◌, ◌⊎◌, ℕ, List, false, sym, refl, inl, inr}
use Rattle.std.specs.declared.cmp.Ordering.{Ordering}
use Rattle.std.specs.declared.cmp.Ordering.TheVariants.{Less, Equal, Greater}
use Rattle.std.specs.Ordering.{is_gt, ordering_reverse}
use Rattle.std.proofs.lemmas.Bool.{false≢true}
use Rattle.gm_version.specs.Version.{version_cmp}
use Rattle.gm_version.specs.VersionOrder.{version_total}

pub not_above_itself : (r : Ordering) → r ≡ ordering_reverse r → is_gt r ≡ false
not_above_itself Less e = refl
not_above_itself Equal e = refl
not_above_itself Greater e = cc

pub gt_false : (r : Ordering) → is_gt r ≡ false → (r ≡ Less) ⊎ (r ≡ Equal)
gt_false Less h = inl refl
gt_false Equal h = inr refl
gt_false Greater h = absurd (false≢true (sym h))

pub equal_itself : (a : List ℕ) → is_gt (version_cmp a a) ≡ false
equal_itself a = not_above_itself (version_cmp a a) (version_total.antisymm a a)
