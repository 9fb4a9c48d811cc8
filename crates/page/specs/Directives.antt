-- A copy from crates/gm_file/specs/Directives.antt, which tools/check/headline.py writes.
use Rattle.std.specs.Prelude.{ℕ, List, Option, Some, None}

-- how a file is read: strictly, as the main file, or laxly, as a dependency's
pub data Mode : Type 0 where
  Strict : Mode
  Lax : Mode

-- the left side of a replace: a path, and optionally one version of it
pub record Left : Type 0 where
  pub path : List ℕ
  pub version : Option (List ℕ)

-- the right side: a folder, or a path and a version
pub data Right : Type 0 where
  Folder : List ℕ → Right
  Module : List ℕ → List ℕ → Right

-- both sides of a replace
abbrev pub Replacing : Type 0
Replacing = Left × Right

abbrev pub left_with : List ℕ → List ℕ → Left
left_with path version = record { path = path; version = Some version }

abbrev pub left_without : List ℕ → Left
left_without path = record { path = path; version = None }
