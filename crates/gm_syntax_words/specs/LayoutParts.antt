-- The parts of the layout that look at no line: a comment after words, and what is kept from line to line.
use Rattle.std.specs.Prelude.{ℕ, Bool, List, [], ◌∷◌, Option, Some, None}

-- what the lines so far decide of the next one: whether a blank line may go before it, whether the document has blank
-- lines there, and whether a block is open
pub record LayoutState : Type 0 where
  pub gap_allowed : Bool
  pub gap_pending : Bool
  pub inside : Bool

-- a comment after words
abbrev pub suffix_text : Option (List ℕ) → List ℕ
suffix_text None = []
suffix_text (Some text) = 32 ∷ text
