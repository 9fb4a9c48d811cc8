-- A copy from crates/gm_file/specs/Main.antt, which tools/check/headline.py writes.
use Rattle.std.specs.Prelude.{◌≡◌, ℕ, List, None, Ok}
use Rattle.page_commands.specs.ModuleVersion.{ModuleVersion}
use Rattle.page_commands.specs.Tokens.{Placed}
use Rattle.page_commands.specs.Document.{Line}
use Rattle.page_commands.specs.LineViews.{plain_lines}
use Rattle.page_commands.specs.Files.{IsParsedAs}
use Rattle.page_commands.specs.Directives.{Strict, Replacing}
use Rattle.page_commands.specs.Faults.{fault_of}

-- what the main module's file says (Go Modules Reference, "go.mod files")
pub record Main : Type 0 where
  pub path : List ℕ
  pub go : ℕ × ℕ
  pub requirements : List ModuleVersion
  pub excludes : List ModuleVersion
  pub replaces : List Replacing

-- the bytes are a valid main module's file with these lines
abbrev pub IsMainOf : List ℕ → List (Line Placed) → Type 0
IsMainOf bytes lines = IsParsedAs bytes (Ok lines) × (fault_of Strict (plain_lines lines) ≡ None)
