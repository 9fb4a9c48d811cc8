-- A copy from crates/gm_file/specs/DepLines.antt, which tools/check/headline.py writes.
use Rattle.std.specs.Prelude.{◌≡◌, ℕ, List, None, Ok}
use Rattle.page_commands.specs.Tokens.{Placed}
use Rattle.page_commands.specs.Document.{Line}
use Rattle.page_commands.specs.LineViews.{plain_lines}
use Rattle.page_commands.specs.Files.{IsParsedAs}
use Rattle.page_commands.specs.Directives.{Lax, VersionInterval}
use Rattle.page_commands.specs.Faults.{fault_of}
use Rattle.page_commands.specs.Fields.{Dependency, dependency_of, lax_retracts_of}

-- the bytes are a document without a fault, and these are its fields
abbrev pub IsDependencyIn : List ℕ → Dependency → Type 0
IsDependencyIn bytes file = (doc : List (Line Placed)) × IsParsedAs bytes (Ok doc)
    × (fault_of Lax (plain_lines doc) ≡ None) × (dependency_of (plain_lines doc) ≡ file)

-- the bytes are a document, and its well-formed `retract` entries are these
abbrev pub AreRetractedIn : List ℕ → List VersionInterval → Type 0
AreRetractedIn bytes intervals = (doc : List (Line Placed)) × IsParsedAs bytes (Ok doc)
    × (lax_retracts_of (plain_lines doc) ≡ intervals)
