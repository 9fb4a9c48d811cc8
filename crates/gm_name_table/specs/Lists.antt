-- Where modules stand in a list, and lists with one more.
use Rattle.std.specs.Prelude.{◌≡◌, ◌⊎◌, ◌++◌, ◌∷◌, [], List}
use Rattle.gm_name.specs.ModuleVersion.{ModuleVersion}

-- The new list is the old one, or has the module at its end, and nothing more.
abbrev pub IsOneMoreAtMost : List ModuleVersion → List ModuleVersion → ModuleVersion → Type 0
IsOneMoreAtMost old new pair = (new ≡ old) ⊎ (new ≡ old ++ pair ∷ [])
