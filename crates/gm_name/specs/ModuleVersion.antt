-- Modules at versions, and their order, which is total; only equal ones tie.
use Rattle.std.proofs.Common.{◌≡◌, ◌∙◌, ◌&&◌, ℕ, Bool, List, [], nat_eq, Some, ap₂}
use Rattle.std.specs.Prelude.{slice_index_or}
use Rattle.std.specs.Cmp.{IsPartialOrder, IsTotalOrder, on_total, po, then_total, tied_then}
use Rattle.std.specs.Cmp.Lexicographic.{nat_list_cmp_total, pointwise, slice_cmp, texts_ties}
use Rattle.std.specs.Ordering.{eq_by_cmp, nat_cmp, ordering_then}
use Rattle.std.specs.declared.cmp.Ordering.{Ordering}
use Rattle.gm_version.specs.Version.{version_cmp}
use Rattle.gm_version.specs.VersionOrder.{version_ties, version_total}

-- a module at a version: the texts of its path and its version (Go Modules Reference, "Module paths" and "Versions")
abbrev pub ModuleVersion : Type 0
ModuleVersion = List ℕ × List ℕ

-- the module at this place of a list; the number of a module is its place
abbrev pub module_at : List ModuleVersion → ℕ → ModuleVersion
module_at modules number = slice_index_or modules number ([], [])

-- with the same path and the same version
abbrev pub pair_eq : ModuleVersion → ModuleVersion → Bool
pair_eq x y = pointwise nat_eq x.0 y.0 && pointwise nat_eq x.1 y.1

-- by the bytes of the path, then by the version
abbrev pub pair_cmp : ModuleVersion → ModuleVersion → Ordering
pair_cmp x y = ordering_then (slice_cmp nat_cmp x.0 y.0) (version_cmp x.1 y.1)

pub pair_total : IsTotalOrder pair_cmp
pair_total = then_total (on_total (λ (x : ModuleVersion). x.0) nat_list_cmp_total)
    (on_total (λ (x : ModuleVersion). x.1) version_total)

-- Two pairs tie if their paths and their versions are the same.
pub pair_ties : (x y : ModuleVersion) → pair_eq x y ≡ eq_by_cmp pair_cmp x y
pair_ties x y = ap₂ (λ (a b : Bool). a && b) (texts_ties x.0 y.0) (version_ties x.1 y.1)
    ∙ tied_then (slice_cmp nat_cmp x.0 y.0) (version_cmp x.1 y.1)

pub pair_po : IsPartialOrder pair_eq (λ x y. Some (pair_cmp x y))
pair_po = po pair_total pair_ties
