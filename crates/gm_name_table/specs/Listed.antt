-- Lists of modules by their numbers.
use Rattle.std.specs.Prelude.{◌≡◌, ◌-◌, ◌<◌, ◌++◌, ℕ, List, drop, length, map, take}
use Rattle.std.specs.List.{All}
use Rattle.gm_name.specs.ModuleVersion.{ModuleVersion, module_at}

-- distinct modules, of which each has its place as its number, and the numbers of a list of these modules
pub record NumberedList : Type 0 where
  pub modules : List ModuleVersion
  pub numbers : List ℕ

-- the modules with these numbers
abbrev pub modules_at : List ModuleVersion → List ℕ → List ModuleVersion
modules_at modules numbers = map (module_at modules) numbers

-- the modules of the list
abbrev pub modules_of : NumberedList → List ModuleVersion
modules_of list = modules_at list.modules list.numbers

-- Each of the numbers is that of a module.
abbrev pub AreModuleNumbers : List ModuleVersion → List ℕ → Type 0
AreModuleNumbers modules numbers = All (λ number. number < length modules) numbers

-- The new list begins with the old one.
abbrev pub BeginsWith : {T : Type 0} → List T → List T → Type 0
BeginsWith {T} old new = (more : List T) × (new ≡ old ++ more)

-- These modules were put to the end of the list. The numbers that modules and places had, they have still.
pub record Appends (old new : NumberedList) (more : List ModuleVersion) : Type 0 where
  pub numbered : BeginsWith old.modules new.modules
  pub kept : BeginsWith old.numbers new.numbers
  pub listed : modules_of new ≡ modules_of old ++ more

-- the part of a list from one place to another
abbrev pub part : {T : Type 0} → ℕ → ℕ → List T → List T
part start end list = take (end - start) (drop start list)
