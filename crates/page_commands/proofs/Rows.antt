-- Rows of a table, each by a computation.
use Rattle.std.proofs.Common.{◌≡◌, List, None, [], ◌∷◌, ap, ap₂, map, refl}
use Rattle.std.specs.List.{AllByRecursion}
use Rattle.page_commands.specs.Document.{Blank, Close, Comment, Entry, Line, Open, map_line}
use Rattle.page_commands.specs.LineViews.{plain, plain_lines}
use Rattle.page_commands.specs.Tokens.{Placed}
use Rattle.page_commands.specs.Words.{Word}

module _ {X : Type 0} (P Q : X → Type 0) (so : (x : X) → P x → Q x) where
  pub all_so : (xs : List X) → AllByRecursion P xs → AllByRecursion Q xs
  all_so [] h = tt
  all_so (x ∷ xs) h = (so x h.0, all_so xs h.1)

-- ---- words and their places

abbrev pub placed_word : Word → Placed
placed_word w = record { word = w; line = 0; span = None }

abbrev pub placed : List (Line Word) → List (Line Placed)
placed = map (map_line placed_word)

without_places : (ws : List Word) → map (λ (t : Placed). t.word) (map placed_word ws) ≡ ws
without_places [] = refl
without_places (w ∷ ws) = ap (λ (vs : List Word). w ∷ vs) (without_places ws)

plain_line : (line : Line Word) → plain (map_line placed_word line) ≡ line
plain_line Blank = refl
plain_line (Comment text) = refl
plain_line (Open verb suffix) = refl
plain_line (Close suffix) = refl
plain_line (Entry words suffix) = ap (λ (ws : List Word). Entry ws suffix) (without_places words)

-- a document with these lines
pub plain_placed : (lines : List (Line Word)) → plain_lines (placed lines) ≡ lines
plain_placed [] = refl
plain_placed (line ∷ lines) = ap₂ (λ (l : Line Word) (ls : List (Line Word)). l ∷ ls) (plain_line line) (plain_placed lines)
