-- What the main module's file says, and what that means for a module at a version.
use Rattle.std.specs.Prelude.{◌≡◌, ℕ, ◌==◌, ◌&&◌, ◌||◌, not, nat_lt, nat_le, Bool, List, [], filter, Option, None, Ok, unwrap_or}
use Rattle.std.specs.List.{list_any}
use Rattle.gm_name.specs.ModuleVersion.{ModuleVersion, pair_eq}
use Rattle.gm_syntax_words.specs.Tokens.{Placed}
use Rattle.gm_syntax.specs.Document.{Line}
use Rattle.gm_syntax.specs.LineViews.{plain_lines}
use Rattle.gm_syntax.specs.Parsed.{IsParsedAs}
use Rattle.gm_file.specs.Directives.{Strict, Replacing, Right}
use Rattle.gm_file.specs.Faults.{fault_of}
use Rattle.gm_file.specs.Fields.{module_of, go_of, requirements_of, excludes_of, replaces_of, replacement_of}

-- what the main module's file says (Go Modules Reference, "go.mod files")
pub record Main : Type 0 where
  pub path : List ℕ
  pub go : ℕ × ℕ
  pub requirements : List ModuleVersion
  pub excludes : List ModuleVersion
  pub replaces : List Replacing

-- What these lines say as a main module's file. A valid file declares its path.
abbrev pub main_of : List (Line Placed) → Main
main_of lines = record {
  path = unwrap_or (module_of Strict (plain_lines lines)) [];
  go = go_of Strict (plain_lines lines);
  requirements = requirements_of Strict (plain_lines lines);
  excludes = excludes_of (plain_lines lines);
  replaces = replaces_of (plain_lines lines);
}

-- the bytes are a valid main module's file with these lines
abbrev pub IsMainOf : List ℕ → List (Line Placed) → Type 0
IsMainOf bytes lines = IsParsedAs bytes (Ok lines) × (fault_of Strict (plain_lines lines) ≡ None)

-- the bytes are a valid main module's file, and this is what it says
abbrev pub IsMainFile : List ℕ → Main → Type 0
IsMainFile bytes main = (lines : List (Line Placed)) × IsMainOf bytes lines × (main_of lines ≡ main)

-- The main file excludes that version of that path (Go Modules Reference, "exclude directive").
abbrev pub is_excluded : Main → ModuleVersion → Bool
is_excluded main x = list_any (λ y. pair_eq y x) main.excludes

-- the modules that the main file does not exclude
abbrev pub without_excluded : Main → List ModuleVersion → List ModuleVersion
without_excluded main = filter (λ x. not (is_excluded main x))

-- What replaces a module at a version (Go Modules Reference, "replace directive"): the right-hand side of the
-- `replace` of that version, or otherwise of the whole path.
abbrev pub replacement_in : Main → ModuleVersion → Option Right
replacement_in main x = replacement_of main.replaces x

-- go 1.17 and later, by the first two numbers (Go Modules Reference, "Module graph pruning")
abbrev pub is_pruned_by : ℕ × ℕ → Bool
is_pruned_by go = nat_lt 1 go.0 || ((go.0 == 1) && nat_le 17 go.1)
