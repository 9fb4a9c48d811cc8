-- A copy from crates/gm_name/specs/ModuleVersion.antt, which tools/check/headline.py writes.
use Rattle.std.proofs.Common.{◌&&◌, ℕ, Bool, List, nat_eq}
use Rattle.std.specs.Cmp.Lexicographic.{pointwise, slice_cmp}
use Rattle.std.specs.Ordering.{nat_cmp, ordering_then}
use Rattle.std.specs.declared.cmp.Ordering.{Ordering}
use Rattle.page_commands.specs.Version.{version_cmp}

-- a module at a version: the texts of its path and its version (Go Modules Reference, "Module paths" and "Versions")
abbrev pub ModuleVersion : Type 0
ModuleVersion = List ℕ × List ℕ

-- with the same path and the same version
abbrev pub pair_eq : ModuleVersion → ModuleVersion → Bool
pair_eq x y = pointwise nat_eq x.0 y.0 && pointwise nat_eq x.1 y.1

-- by the bytes of the path, then by the version
abbrev pub pair_cmp : ModuleVersion → ModuleVersion → Ordering
pair_cmp x y = ordering_then (slice_cmp nat_cmp x.0 y.0) (version_cmp x.1 y.1)
