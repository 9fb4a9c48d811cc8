-- An index after one more line, and what it refuses.
use Rattle.std.specs.Prelude.{◌≡◌, ◌⊎◌, ⊤, true, false, List, Some, None, Result, Ok, Err}
use Rattle.std.specs.List.{list_any}
use Rattle.std.specs.declared.cmp.Ordering.{Ordering}
use Rattle.std.specs.BTreeMap as map
use Rattle.gm_file.specs.declared.fault.DirectiveKind.TheVariants.{ConflictingReplace}
use Rattle.gm_file.specs.declared.fault.LineFault.{LineFault}
use Rattle.gm_file.specs.declared.fault.LineFault.TheVariants as line
use Rattle.gm_file.specs.declared.replace.Right as declared
use Rattle.gm_file.specs.Directives.{Right, Replacing}
use Rattle.gm_file.specs.Faults.{is_conflict, is_same_right}
use Rattle.gm_file.specs.Views.{right_view}
use Rattle.gm_file.specs.Indexes.{differs, right_at}

-- the key has this right side, newly inserted
abbrev pub IsInserted : {K : Type 0} → (K → K → Ordering) → map.BTreeMap K declared.Right
    → map.BTreeMap K declared.Right → K → Right → Type 0
IsInserted cmp old new key right = (held : declared.Right) × (right_view held ≡ right)
    × map.Updates cmp old new key (Some held)

-- the key has this right side, either from before or newly inserted; or this one is refused, since the key has a
-- different one
abbrev pub IsNoted : {K : Type 0} → (K → K → Ordering) → map.BTreeMap K declared.Right → map.BTreeMap K declared.Right
    → K → Right → Result (Unit {0}) LineFault → Type 0
IsNoted cmp old new key right (Ok u) =
    ((other : Right) × (right_at cmp old key ≡ Some other) × (is_same_right right other ≡ true)
    × map.IsUnchanged old new)
    ⊎ ((right_at cmp old key ≡ None) × IsInserted cmp old new key right)
IsNoted cmp old new key right (Err line.NoMemory) = ⊤
IsNoted cmp old new key right (Err (line.Kind kind)) = (kind ≡ ConflictingReplace)
    × (differs right (right_at cmp old key) ≡ true)

-- unless memory runs out, the result is a conflict exactly if the replace conflicts with one of the lines
abbrev pub ReportsConflict : Replacing → List Replacing → Result (Unit {0}) LineFault → Type 0
ReportsConflict x lines (Ok u) = list_any (is_conflict x) lines ≡ false
ReportsConflict x lines (Err line.NoMemory) = ⊤
ReportsConflict x lines (Err (line.Kind kind)) = (kind ≡ ConflictingReplace) × (list_any (is_conflict x) lines ≡ true)
