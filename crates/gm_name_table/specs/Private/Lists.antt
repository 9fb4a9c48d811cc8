-- Modules that a list doesn't have.
use Rattle.std.specs.Prelude.{◌≡◌, ℕ, List, Some, slice_get}
use Rattle.gm_name.specs.ModuleVersion.{ModuleVersion}

-- The module stands nowhere in the list.
abbrev pub IsAbsent : List ModuleVersion → ModuleVersion → Type 0
IsAbsent pairs pair = (i : ℕ) → slice_get pairs i ≡ Some pair → ⊥
