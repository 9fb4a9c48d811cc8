-- How the indexes of a main file relate to its lines.
use Rattle.std.specs.Prelude.{◌≡◌, ℕ, not, Bool, false, List, Option, Some, None}
use Rattle.std.specs.Option.{option_map}
use Rattle.std.specs.List.{list_any}
use Rattle.std.specs.Ordering.{nat_cmp}
use Rattle.std.specs.declared.cmp.Ordering.{Ordering}
use Rattle.std.specs.Cmp.Lexicographic.{slice_cmp}
use Rattle.std.specs.BTreeSet as set
use Rattle.std.specs.BTreeMap as map
use Rattle.gm_name.specs.ModuleVersion.{ModuleVersion, pair_cmp, pair_eq}
use Rattle.gm_file.specs.declared.replace.Right as declared
use Rattle.gm_file.specs.declared.replacements.Replacements.{Replacements}
use Rattle.gm_file.specs.declared.exclusions.Exclusions.{Exclusions}
use Rattle.gm_file.specs.Directives.{Right, Replacing, left_with, left_without}
use Rattle.gm_file.specs.Faults.{is_conflict, is_same_right}
use Rattle.gm_file.specs.Fields.{right_for}
use Rattle.gm_file.specs.Views.{replace_views, right_view}

-- the set contains exactly the pairs of the lines
abbrev pub IsSetOfLines : Exclusions → Type 0
IsSetOfLines e = (q : ModuleVersion) → set.contains pair_cmp e.set q ≡ list_any (λ y. pair_eq y q) e.lines.items

-- the right side that a map has at a key
abbrev pub right_at : {K : Type 0} → (K → K → Ordering) → map.BTreeMap K declared.Right → K → Option Right
right_at cmp index q = option_map right_view (map.get cmp index q)

-- there is a right side already, and it differs from this one
abbrev pub differs : Right → Option Right → Bool
differs right None = false
differs right (Some other) = not (is_same_right right other)

-- the maps have the right side of each left side in the lines, and a line conflicts with the lines if its right side
-- differs from that
pub record IndexLines (rs : List Replacing) (by_version : map.BTreeMap ModuleVersion declared.Right)
    (by_path : map.BTreeMap (List ℕ) declared.Right) : Type 0 where
  pub versions : (q : ModuleVersion) → right_at pair_cmp by_version q ≡ right_for rs (left_with q.0 q.1)
  pub paths : (p : List ℕ) → right_at (slice_cmp nat_cmp) by_path p ≡ right_for rs (left_without p)
  pub agree : (x : Replacing) → list_any (is_conflict x) rs ≡ differs x.1 (right_for rs x.0)

-- Its maps are those of its lines.
abbrev pub AreIndexed : Replacements → Type 0
AreIndexed r = IndexLines (replace_views r.lines.items) r.by_version r.by_path
