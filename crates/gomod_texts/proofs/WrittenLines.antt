-- The lines of texts that are written as they are made.
use Rattle.std.proofs.Common.{◌≡◌, ◌++◌, ◌∷◌, ℕ, List, [], ap, append_assoc, append-nil, codes, refl}
use Rattle.std.specs.List.{flat_map}
use Rattle.gm_file.specs.declared.replace.Right.{Right}
use Rattle.gm_graph.specs.Entries.{entries_of_rows, entry_of_row}
use Rattle.gm_graph_select.specs.declared.row.Row.{Row}
use Rattle.gomod_texts.specs.ListQuery.{entry_line, list_text}
use Rattle.gomod_texts.specs.LineParts.{line, vertex_text}

-- the line of a row
abbrev pub row_line : List ℕ → Row Right → List ℕ
row_line main row = entry_line main (entry_of_row row)

-- a step in three pieces
pub step_in_pieces : (a b c s : List ℕ) → a ++ (b ++ c) ≡ s → line s ≡ line (a ++ (b ++ (c ++ [])))
step_in_pieces a b c s is = rw (← is) (regroup a b c) where
  regroup : (a b c : List ℕ) → line (a ++ (b ++ c)) ≡ line (a ++ (b ++ (c ++ [])))
  regroup a b c = simp append-nil

-- and after it a blank and a vertex
pub edge_in_pieces : (a b c s p v : List ℕ) → a ++ (b ++ c) ≡ s
    → line (s ++ codes " " ++ vertex_text (p, v)) ≡ line (a ++ (b ++ (c ++ (codes " " ++ (p ++ (codes "@" ++ (v ++ [])))))))
edge_in_pieces a b c s p v is = rw (← is) (regroup a b c (codes " ") p (codes "@") v) where
  regroup : (a b c t p m v : List ℕ) → line (((a ++ (b ++ c)) ++ t) ++ ((p ++ m) ++ v))
      ≡ line (a ++ (b ++ (c ++ (t ++ (p ++ (m ++ (v ++ [])))))))
  regroup a b c t p m v = simp (append_assoc, append-nil)

-- a module in three pieces
pub row_alone : (a b c s : List ℕ) → a ++ (b ++ c) ≡ s → line (s ++ []) ≡ line (a ++ (b ++ (c ++ [])))
row_alone a b c s is = rw (← is) (regroup a b c) where
  regroup : (a b c : List ℕ) → line ((a ++ (b ++ c)) ++ []) ≡ line (a ++ (b ++ (c ++ [])))
  regroup a b c = simp (append_assoc, append-nil)

-- and after it an arrow and its replacement in three pieces
pub row_in_pieces : (a b c s m x y z r : List ℕ) → a ++ (b ++ c) ≡ s → x ++ (y ++ z) ≡ r
    → line (s ++ (m ++ r)) ≡ line (a ++ (b ++ (c ++ (m ++ (x ++ (y ++ (z ++ [])))))))
row_in_pieces a b c s m x y z r is right = rw (← is, ← right) (regroup a b c m x y z) where
  regroup : (a b c m x y z : List ℕ) → line ((a ++ (b ++ c)) ++ (m ++ (x ++ (y ++ z))))
      ≡ line (a ++ (b ++ (c ++ (m ++ (x ++ (y ++ (z ++ [])))))))
  regroup a b c m x y z = simp (append_assoc, append-nil)

-- the lines of rows, one after the other
pub rows_text : (main : List ℕ) (rows : List (Row Right)) → list_text main (entries_of_rows rows) ≡ flat_map (row_line main) rows
rows_text main [] = refl
rows_text main (row ∷ rows) = ap (λ t. row_line main row ++ t) (rows_text _ rows)
