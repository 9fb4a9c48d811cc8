-- Openings and closings alternate in a document, so the numbers of them before a line say whether a block is
-- open there.
use Rattle.std.proofs.Common.{◌≡◌, ℕ, ◌+◌, ◌≤◌, Bool, true, false, cond, List, [], ◌∷◌, ◌++◌, refl, sym, ap, ◌∙◌, append_assoc, arith}
use Rattle.std.specs.Prelude.{⊤, nat_lt}
use Rattle.std.proofs.lemmas.Bool.{lt-ltb, le-ltb}
use Rattle.std.proofs.lemmas.List.{append-nil}
use Rattle.gm_syntax_words.specs.Words.{Word}
use Rattle.gm_syntax.specs.Document.{Line, Open, Close, inside_after, inside_after_all, IsValidLine, IsDocument, start}
use Rattle.gm_syntax.specs.Documents.{openings, closings, is_open_after, AreInTurn, AreValidInPlace}
use Rattle.gm_syntax.proofs.Stable.{Fits, line_fits}
use Rattle.gm_syntax.proofs.Changes.{AreValidFrom, lines_stand, standing_lines, stand_parts, stand_together}

-- ---- openings outside blocks, closings inside

abbrev pub FitFrom : Bool → List (Line Word) → Type 0
FitFrom inside [] = ⊤
FitFrom inside (line ∷ lines) = Fits inside line × FitFrom (inside_after inside line) lines

pub valid_fit : (inside : Bool) (lines : List (Line Word)) → AreValidFrom inside lines → FitFrom inside lines
valid_fit inside [] v = tt
valid_fit inside (l ∷ ls) v = (line_fits inside v.0.0 l v.0.2, valid_fit _ ls v.1)

pub fit_push : (inside : Bool) (lines : List (Line Word)) (line : Line Word) → FitFrom inside lines
    → Fits (inside_after_all inside lines) line → FitFrom inside (lines ++ line ∷ [])
fit_push inside [] line f g = (g, tt)
fit_push inside (l ∷ ls) line f g = (f.0, fit_push _ ls line f.1 g)

-- ---- counting

abbrev as_number : Bool → ℕ
as_number b = cond b 1 0

-- the openings and a block that was open before are the closings and a block that is open after
counts_from : (inside : Bool) (lines : List (Line Word)) → FitFrom inside lines
    → openings lines + as_number inside ≡ closings lines + as_number (inside_after_all inside lines)
counts_from inside [] f = refl
counts_from inside (Open verb suffix ∷ ls) f =
    let before : as_number inside ≡ 0 = rw f.0 refl in
    omega (arith, before, counts_from true ls f.1)
counts_from inside (Close suffix ∷ ls) f =
    let before : as_number inside ≡ 1 = rw f.0 refl in
    omega (arith, before, counts_from false ls f.1)
counts_from inside (line ∷ ls) f = counts_from inside ls f.1

by_counts : (b : Bool) (opened closed : ℕ) → opened + 0 ≡ closed + as_number b → nat_lt closed opened ≡ b
by_counts true opened closed e = lt-ltb closed opened (omega (arith, e))
by_counts false opened closed e = le-ltb closed opened (omega (arith, e))

-- more openings than closings exactly where a block is open
pub open_after : (lines : List (Line Word)) → FitFrom false lines → is_open_after lines ≡ inside_after_all false lines
open_after lines f =
    by_counts _ _ _ (counts_from false lines f)

pub counts_closed : (lines : List (Line Word)) → FitFrom false lines → inside_after_all false lines ≡ false
    → openings lines ≡ closings lines
counts_closed lines f e = omega (arith, counts_from false lines f, ap as_number e)

pub closed_by_counts : (lines : List (Line Word)) → FitFrom false lines → openings lines ≡ closings lines
    → inside_after_all false lines ≡ false
closed_by_counts lines f e = sym (open_after lines f) ∙ le-ltb (closings lines) (openings lines) (omega (arith, e))

-- ---- documents

at_most_one : (b : Bool) → as_number b ≤ 1
at_most_one true = omega arith
at_most_one false = omega arith

pub alternate : (lines : List (Line Word)) → IsDocument lines → AreInTurn lines × AreValidInPlace lines
alternate lines d = (
  record {
    never_fewer_openings = λ front back e. omega (arith, counts_from false front (front_fits front back e));
    at_most_one_open = λ front back e. omega (arith, counts_from false front (front_fits front back e), at_most_one (inside_after_all false front));
    last_closed = counts_closed lines (valid_fit false lines all.0) all.1;
  },
  λ front back line e.
      let parts = stand_parts false front (line ∷ back) (rw (← e) all.0) in
      rw (open_after front (valid_fit false front parts.0)) parts.1.0,
)
  where
    all : AreValidFrom false lines × (inside_after_all false lines ≡ false)
    all = lines_stand start lines d

    front_fits : (front back : List (Line Word)) → lines ≡ front ++ back → FitFrom false front
    front_fits front back e = valid_fit false front (stand_parts false front back (rw (← e) all.0)).0

valid_on : (lines front back : List (Line Word)) → AreValidInPlace lines → lines ≡ front ++ back
    → AreValidFrom false front → AreValidFrom false lines
valid_on lines front [] v e f = rw (e ∙ append-nil front) f
valid_on lines front (l ∷ back) v e f =
    let here : IsValidLine (inside_after_all false front) l =
    rw (← (open_after front (valid_fit false front f))) (v front back l e) in
    valid_on lines (front ++ l ∷ []) back v (e ∙ sym (append_assoc front (l ∷ []) back)) (stand_together false front (l ∷ []) f (here, tt))

pub alternating : (lines : List (Line Word)) → AreInTurn lines × AreValidInPlace lines → IsDocument lines
alternating lines (turns, valid) =
    let all = valid_on lines [] lines valid refl tt in
    standing_lines start lines all (closed_by_counts lines (valid_fit false lines all) turns.last_closed)
