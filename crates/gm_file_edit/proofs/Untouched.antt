-- Lines of which nothing is removed stay as they are.
use Rattle.std.proofs.Common.{◌≡◌, ◌&&◌, Bool, true, false, List, [], ◌∷◌, ◌++◌, map, Option, Some, None, is_none, refl, ◌∙◌, append-nil, inl, inr}
use Rattle.gm_syntax_words.specs.Tokens.{Placed}
use Rattle.gm_syntax.specs.Document.{Line, Blank, Comment, Open, Close, Entry}
use Rattle.gm_file_edit.specs.About.{about}
use Rattle.gm_file_edit.specs.Edited.{with_change, lines_after, put_in}
use Rattle.gm_file_edit.specs.Edits.{Edit}
use Rattle.gm_file_edit.specs.Fates.{Fate, empties, is_emptied, kept_lines, remaining, widened_from}
use Rattle.gm_file_edit.specs.Holding.{is_there}
use Rattle.std.proofs.lemmas.Bool.{and_right, cases_Bool}

abbrev pub all_stay : List (Line Placed) → List Fate
all_stay lines = map (λ line. Some line) lines

-- lines that stay empty no block, before fates that empty none
empties-none : (fates : List Fate) → empties false fates ≡ false → (lines : List (Line Placed)) → empties false (all_stay lines ++ fates) ≡ false
empties-none fates none [] = none
empties-none fates none (Blank ∷ lines) = empties-none fates none lines
empties-none fates none (Comment text ∷ lines) = refl
empties-none fates none (Open verb suffix ∷ lines) = refl
empties-none fates none (Close suffix ∷ lines) = refl
empties-none fates none (Entry words suffix ∷ lines) = refl

-- the open block, if any, stays
abbrev pub staying : Bool → Option Bool
staying false = None
staying true = Some false

-- lines that stay, before fates that empty no block and leave these lines
pub stay-before : (fates : List Fate) (rest : List (Line Placed)) → empties false fates ≡ false
    → ((inside : Bool) → kept_lines (widened_from (staying inside) false fates) ≡ rest)
    → (inside : Bool) (lines : List (Line Placed)) → kept_lines (widened_from (staying inside) false (all_stay lines ++ fates)) ≡ lines ++ rest
stay-before fates rest none is inside [] = is inside
stay-before fates rest none is false (Blank ∷ lines) = rw (stay-before fates rest none is false lines)
stay-before fates rest none is true (Blank ∷ lines) = rw (stay-before fates rest none is true lines)
stay-before fates rest none is inside (Comment text ∷ lines) = rw (stay-before fates rest none is inside lines)
stay-before fates rest none is inside (Open verb suffix ∷ lines) =
    let stays : is_emptied (staying inside) suffix (all_stay lines ++ fates) ≡ false =
    and_right (is_none _ && is_none _) (empties false (all_stay lines ++ fates)) (empties-none fates none lines) in
    rw (stays, stay-before fates rest none is true lines)
stay-before fates rest none is false (Close suffix ∷ lines) = rw (stay-before fates rest none is false lines)
stay-before fates rest none is true (Close suffix ∷ lines) = rw (stay-before fates rest none is false lines)
stay-before fates rest none is inside (Entry words suffix ∷ lines) = rw (stay-before fates rest none is inside lines)

pub all-lines-left : (inside : Bool) (lines : List (Line Placed)) → kept_lines (widened_from (staying inside) false (all_stay lines)) ≡ lines
all-lines-left inside lines =
    rw (← (append-nil (all_stay lines))) (stay-before [] [] refl (λ within. refl) _ _ ∙ append-nil lines)

pub all-lines-stay : (lines : List (Line Placed)) → remaining (all_stay lines) ≡ lines
unfolding remaining
all-lines-stay lines = all-lines-left false _

-- ---- the lines after an operation

-- what holds whether an operation targets a directive or none
pub by-edited : (P : List (Line Placed) → Type 0) (edit : Edit) (lines : List (Line Placed))
    → (is_there (about edit) None lines ≡ true → P (with_change edit lines))
    → (is_there (about edit) None lines ≡ false → P (put_in edit lines)) → P (lines_after edit lines)
unfolding lines_after
by-edited P edit lines there none = elim (cases_Bool (is_there (about edit) None lines)) [
  | inl is ↦ rw is (there is)
  | inr not_there ↦ rw not_there (none not_there)
]
