-- The retractions of a dependency's file, line by line.
use Rattle.std.specs.Prelude.{◌≡◌, ℕ, List, Option, Some, None, option_and_then}
use Rattle.std.specs.Option.{option_map}
use Rattle.gm_syntax_words.specs.Words.{Word}
use Rattle.gm_syntax.specs.Document.{Line}
use Rattle.gm_file.specs.declared.retractions.Retractions.{Retractions}
use Rattle.gm_file.specs.Directives.{Strict, Item, Saying, VersionInterval, block_after_lines, directive_in, ends_of}
use Rattle.gm_file.specs.Fields.{lax_retracts_of, valid_ends, valid_interval}
use Rattle.gm_file.specs.Views.{interval_views}

-- the result is the verb and the arguments of the line's entry, or None if the line is not an entry
abbrev pub IsEntryRead : Item → Option (Word × List Word) → Type 0
IsEntryRead item (Some entry) = item ≡ Saying entry.0.spelling entry.1
IsEntryRead item None = (verb : List ℕ) (words : List Word) → ¬ (item ≡ Saying verb words)

-- the interval that the arguments of a `retract` spell
abbrev pub retraction_in : List Word → Option VersionInterval
retraction_in words = option_and_then valid_ends (ends_of words)

-- the interval that the content of a line retracts
abbrev pub retraction_at : Item → Option VersionInterval
retraction_at item = option_and_then valid_interval (directive_in Strict item)

-- the lines so far retract these intervals, and this block is open after them
pub record AreRetracted (lines : List (Line Word)) (block : Option Word) (intervals : List VersionInterval)
    : Type 0 where
  pub open_is : block ≡ block_after_lines None lines
  pub are : intervals ≡ lax_retracts_of lines

-- the retractions of the lines so far
abbrev pub AreRetractionsOf : List (Line Word) → Retractions → Type 0
AreRetractionsOf lines said =
    AreRetracted lines (option_map (λ t. t.word) said.block) (interval_views said.intervals.items)
