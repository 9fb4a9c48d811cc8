-- The items of a list that have no mark.
use Rattle.std.specs.Prelude.{Bool, true, false, List, [], ◌∷◌}

-- the items without a mark, in their order; a list of marks has one for each item
abbrev pub unmarked : {X : Type 0} → List Bool → List X → List X
unmarked [] items = []
unmarked (mark ∷ marks) [] = []
unmarked (true ∷ marks) (item ∷ items) = unmarked marks items
unmarked (false ∷ marks) (item ∷ items) = item ∷ unmarked marks items
