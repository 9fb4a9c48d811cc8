-- A copy from crates/gomod_outcomes/specs/Edit.antt, which tools/check/headline.py writes.
use Rattle.std.specs.Prelude.{◌≡◌, ◌++◌, ◌∷◌, ◌+◌, ℕ, List, [], Option, Some, None, codes, if◌then◌else◌}
use Rattle.std.specs.List.{filter_map, fold}
use Rattle.std.specs.Option.{option_map, option_to_list}
use Rattle.page_commands.specs.Tokens.{Placed}
use Rattle.page_commands.specs.Document.{Line}
use Rattle.page_commands.specs.Layout.{layout}
use Rattle.page_commands.specs.LineViews.{plain_lines}
use Rattle.page_commands.specs.Edited.{lines_after}
use Rattle.page_commands.specs.Kinds.{is_fit}
use Rattle.page_commands.specs.Edits.{Edit, edit_in}
use Rattle.page_commands.specs.Main.{IsMainOf}
use Rattle.page_commands.specs.Misreading.{IsMisread}
use Rattle.page_commands.specs.Directives.{Strict}
use Rattle.page_commands.specs.Outcome.{Outcome, text_outcome, refusal_outcome}
use Rattle.page_commands.specs.Reports.{FaultPlace, main_line, edit_line}

-- why a parsed operation is refused, if it is
abbrev pub refusal_of : Option Edit → Option (List ℕ)
refusal_of None = Some (codes "Spelling")
refusal_of (Some edit) = if is_fit edit then None else Some (codes "Misfit")

-- the refused operations with their numbers; the first operation has this number
abbrev pub refusals_from : ℕ → List (List ℕ) → List (ℕ × List ℕ)
refusals_from number [] = []
refusals_from number (text ∷ texts) =
    option_to_list (option_map (λ kind. (number, kind)) (refusal_of (edit_in text)))
    ++ refusals_from (number + 1) texts

-- the lines after operations, each applied to what those before it left
abbrev pub lines_after_all : List Edit → List (Line Placed) → List (Line Placed)
lines_after_all edits lines = fold (λ lines edit. lines_after edit lines) lines edits

-- the first refusal is reported; without one the layout is printed
abbrev pub edits_outcome : List (ℕ × List ℕ) → List (Line Placed) → Outcome
edits_outcome [] lines = text_outcome (layout (plain_lines lines))
edits_outcome (refusal ∷ later) lines = refusal_outcome (edit_line refusal)

-- How `edit FILE OP..` ends over the bytes of the file, if memory doesn't run out: the file is read strictly, then each
-- operation is parsed and applied.
pub data EditEnds (texts : List (List ℕ)) (file : List ℕ) (outcome : Outcome) : Type 0 where
  bad_main : (place : FaultPlace) → IsMisread Strict file place.0 place.1 → outcome ≡ refusal_outcome (main_line place)
      → EditEnds texts file outcome
  applied : (lines : List (Line Placed)) → IsMainOf file lines
      → outcome ≡ edits_outcome (refusals_from 1 texts) (lines_after_all (filter_map edit_in texts) lines)
      → EditEnds texts file outcome
