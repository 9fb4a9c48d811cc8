-- A copy from crates/gomod_texts/specs/Queries.antt, which tools/check/headline.py writes.
use Rattle.std.specs.Prelude.{◌≡◌, ℕ, List}
use Rattle.page_commands.specs.Main.{Main}
use Rattle.page_commands.specs.BuildList.{HasEntryFor}
use Rattle.page_commands.specs.Entries.{Entry}
use Rattle.page_commands.specs.Runs.{Run}
use Rattle.page_commands.specs.Outcome.{Outcome, refusal_outcome}
use Rattle.page_commands.specs.Reports.{not_listed_line}

-- What a command prints: a relation between what the files say and the outcome.
abbrev pub Prints : Type 1
Prints = Run → Outcome → Type 0

-- the path is not in the build list, and this is reported
abbrev pub IsUnlisted : Main → List Entry → List ℕ → Outcome → Type 0
IsUnlisted main rows path outcome =
    ¬ (HasEntryFor main.path rows path) × (outcome ≡ refusal_outcome (not_listed_line path))
