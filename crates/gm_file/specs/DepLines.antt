-- Reading a dependency's file from its bytes, line by line.
use Rattle.std.specs.Prelude.{◌≡◌, ℕ, List, None, Ok}
use Rattle.gm_syntax_words.specs.Tokens.{Placed}
use Rattle.gm_syntax.specs.Document.{Line}
use Rattle.gm_syntax.specs.LineViews.{plain_lines}
use Rattle.gm_syntax.specs.Parsed.{IsParsedAs}
use Rattle.gm_file.specs.Directives.{Lax, VersionInterval}
use Rattle.gm_file.specs.Faults.{fault_of}
use Rattle.gm_file.specs.Fields.{Dependency, dependency_of, lax_retracts_of}

-- the bytes are a document without a fault, and these are its fields
abbrev pub IsDependencyIn : List ℕ → Dependency → Type 0
IsDependencyIn bytes file = (doc : List (Line Placed)) × IsParsedAs bytes (Ok doc)
    × (fault_of Lax (plain_lines doc) ≡ None) × (dependency_of (plain_lines doc) ≡ file)

-- the bytes are a document, and its well-formed `retract` entries are these
abbrev pub AreRetractedIn : List ℕ → List VersionInterval → Type 0
AreRetractedIn bytes intervals = (doc : List (Line Placed)) × IsParsedAs bytes (Ok doc)
    × (lax_retracts_of (plain_lines doc) ≡ intervals)
