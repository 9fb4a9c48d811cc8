-- What the index of a list of modules holds.
use Rattle.std.specs.Prelude.{◌≡◌, ◌⊎◌, ℕ, List, None, Some, slice_get}
use Rattle.std.specs.BTreeMap as map
use Rattle.std.specs.List.{IsDistinct}
use Rattle.gm_name.specs.Fingerprint.{fingerprint, tag_of}
use Rattle.gm_name.specs.ModuleVersion.{ModuleVersion, pair_cmp, pair_eq}
use Rattle.gm_name_table.specs.TagIndex.{place_under}
use Rattle.gm_name_table.specs.declared.index.Index.{Index}

-- the tag of a module: that of its fingerprint
unfoldable pub pair_tag : ModuleVersion → ℕ
pair_tag pair = tag_of (fingerprint (fingerprint 0 pair.0) pair.1)

-- The modules are distinct. Each is at its place, either under its tag or, if its tag has another place, among the
-- others, and the others are at theirs.
pub record IsIndexOf (index : Index) (pairs : List ModuleVersion) : Type 0 where
  pub distinct : IsDistinct pair_eq pairs
  pub others : (i : ℕ) (pair : ModuleVersion) → map.get pair_cmp index.others pair ≡ Some i
      → slice_get pairs i ≡ Some pair
  pub complete : (i : ℕ) (pair : ModuleVersion) → slice_get pairs i ≡ Some pair
      → (place_under index.first (pair_tag pair) ≡ Some i)
      ⊎ ((place_under index.first (pair_tag pair) ≡ None → ⊥) × (map.get pair_cmp index.others pair ≡ Some i))
