-- How the commands end in small worlds, worked by hand from docs/proof/SPEC.md or by go 1.19.8. A comment says what a
-- row
-- shows, or which misreading it refuses.
use Rattle.std.specs.Prelude.{ℕ, List, []}
use Rattle.page_commands.specs.Outcome.{Outcome}
pub mod Chains
pub mod Edits
pub mod Formats
pub mod Lines
pub mod Parts
pub mod Single
pub mod Sums
pub mod Texts
pub mod Versions

-- what is printed, with status 0, and what is reported, with status 1
abbrev pub prints : List ℕ → Outcome
prints text = record { text = text; report = []; status = 0 }

abbrev pub reports : List ℕ → Outcome
reports report = record { text = []; report = report; status = 1 }
