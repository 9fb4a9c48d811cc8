-- A copy from crates/gm_file/specs/Main.antt, which tools/check/headline.py writes.
use Rattle.std.specs.Prelude.{ℕ, ◌==◌, ◌&&◌, ◌||◌, not, nat_lt, nat_le, Bool, List, filter, Option}
use Rattle.std.specs.List.{list_any}
use Rattle.page.specs.ModuleVersion.{ModuleVersion, pair_eq}
use Rattle.page.specs.Directives.{Replacing, Right}
use Rattle.page.specs.Fields.{replacement_of}

-- what the main module's file says (Go Modules Reference, "go.mod files")
pub record Main : Type 0 where
  pub path : List ℕ
  pub go : ℕ × ℕ
  pub requirements : List ModuleVersion
  pub excludes : List ModuleVersion
  pub replaces : List Replacing

-- The main file excludes that version of that path (Go Modules Reference, "exclude directive").
abbrev pub is_excluded : Main → ModuleVersion → Bool
is_excluded main x = list_any (λ y. pair_eq y x) main.excludes

-- the modules that the main file does not exclude
abbrev pub without_excluded : Main → List ModuleVersion → List ModuleVersion
without_excluded main = filter (λ x. not (is_excluded main x))

-- What replaces a module at a version (Go Modules Reference, "replace directive"): the right-hand side of the
-- `replace` of that version, or otherwise of the whole path.
abbrev pub replacement_in : Main → ModuleVersion → Option Right
replacement_in main x = replacement_of main.replaces x

-- go 1.17 and later, by the first two numbers (Go Modules Reference, "Module graph pruning")
abbrev pub is_pruned_by : ℕ × ℕ → Bool
is_pruned_by go = nat_lt 1 go.0 || ((go.0 == 1) && nat_le 17 go.1)
