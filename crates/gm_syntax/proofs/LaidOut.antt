-- The layout is the text of the only list of lines that is laid out in the sense of AreLaidOut, which mentions
-- no algorithm.
use Rattle.std.proofs.Common.{◌≡◌, ℕ, Bool, true, false, cond, List, [], ◌∷◌, ◌++◌, refl, sym, ap, ◌∙◌, append_assoc, inl, inr}
use Rattle.std.specs.Prelude.{◌&&◌, ◌||◌, not}
use Rattle.std.specs.List.{list_all}
use Rattle.std.proofs.lemmas.Bool.{cases_Bool, true≢false}
use Rattle.std.proofs.lemmas.List.{append-nil, append_cancel_left}
use Rattle.gm_syntax_words.specs.Words.{Word}
use Rattle.gm_syntax_words.specs.LayoutParts.{LayoutState}
use Rattle.gm_syntax.specs.Document.{Line, Blank, inside_after}
use Rattle.gm_syntax.specs.Layout.{line_text, is_open, is_close, is_blank_line, state_after, layout_from, layout, initial_state, filled_lines, lines_text, begins_blank, ends_blank, gap_between, AreLaidOut, IsLayout}
use Rattle.gm_syntax.proofs.LayoutLines.{has_gap, gap_lines, layout_lines}
use Rattle.gm_syntax.proofs.Stable.{and_both, filled_blank, filled_other, filled_gap, filled_again}

filled_none : filled_lines [] ≡ []
unfolding filled_lines
filled_none = refl

filled-append : (xs ys : List (Line Word)) → filled_lines (xs ++ ys) ≡ filled_lines xs ++ filled_lines ys
unfolding filled_lines
filled-append [] ys = refl
filled-append (x ∷ xs) ys =
    elim (cases_Bool (is_blank_line x)) [
      | inl k ↦ rw (k, filled-append xs ys) refl
      | inr k ↦ rw (k, filled-append xs ys) refl
    ]

filled_blanks : (blanks : List (Line Word)) → list_all is_blank_line blanks ≡ true → filled_lines blanks ≡ []
filled_blanks [] h = filled_none
filled_blanks (b ∷ blanks) h = let p = and_both (is_blank_line b) (list_all is_blank_line blanks) h in filled_blank b blanks p.0 ∙ filled_blanks blanks p.1

-- ---- the text

laid_text_by : (c : Bool) (inside : Bool) (l : Line Word) (rest : List ℕ) (ls : List (Line Word))
    → rest ≡ lines_text (inside_after inside l) ls → ((cond c (10 ∷ []) [] ++ line_text inside l) ++ 10 ∷ []) ++ rest
    ≡ lines_text inside (cond c (Blank ∷ []) [] ++ l ∷ ls)
laid_text_by true inside l rest ls e = rw (append_assoc (line_text inside l) (10 ∷ []) rest, e) refl
laid_text_by false inside l rest ls e = rw (append_assoc (line_text inside l) (10 ∷ []) rest, e) refl

laid_text : (b : LayoutState) (ls : List (Line Word)) → layout_from b ls ≡ lines_text b.inside (layout_lines b ls)
unfolding layout_lines layout_from
laid_text b [] = refl
laid_text b (l ∷ ls) =
    elim (cases_Bool (is_blank_line l)) [
      | inl k ↦ rw k (laid_text _ ls)
      | inr k ↦ rw k (laid_text_by _ _ l
          _ _ (laid_text _ ls))
    ]

-- ---- the lines of the layout are laid out

no_gap : (c d : Bool) → (c && (false && d)) ≡ false
no_gap true d = refl
no_gap false d = refl

first_filled : (b : LayoutState) (ls : List (Line Word)) → b.gap_allowed ≡ false → begins_blank (layout_lines b ls) ≡ false
unfolding layout_lines
first_filled b [] e = refl
first_filled b (l ∷ ls) e =
    elim (cases_Bool (is_blank_line l)) [
      | inl k ↦ rw k (first_filled _ ls e)
      | inr k ↦ rw (k, e, no_gap _ _) k
    ]

last_past : (c : Bool) (l : Line Word) (ls : List (Line Word)) → is_blank_line l ≡ false → ends_blank ls ≡ false
    → ends_blank (cond c (Blank ∷ []) [] ++ l ∷ ls) ≡ false
last_past true l [] k e = k
last_past true l (m ∷ ls) k e = e
last_past false l [] k e = k
last_past false l (m ∷ ls) k e = e

last_filled : (b : LayoutState) (ls : List (Line Word)) → ends_blank (layout_lines b ls) ≡ false
unfolding layout_lines
last_filled b [] = refl
last_filled b (l ∷ ls) =
    elim (cases_Bool (is_blank_line l)) [
      | inl k ↦ rw k (last_filled (record b { gap_pending = true }) ls)
      | inr k ↦ rw k (last_past (has_gap b l) l (layout_lines (state_after b l) ls) k
          (last_filled (state_after b l) ls))
    ]

-- what follows a line that is not blank is laid out by itself, from some state on
record Split (b : LayoutState) (front rest : List (Line Word)) (line : Line Word) : Type 0 where
  pub before : List (Line Word)
  pub behind : LayoutState
  pub parts : layout_lines b (front ++ line ∷ rest) ≡ before ++ line ∷ layout_lines (state_after behind line) rest
  pub same : filled_lines before ≡ filled_lines front

gap_filled : (c : Bool) → filled_lines (cond c (Blank ∷ []) []) ≡ []
unfolding filled_lines
gap_filled true = refl
gap_filled false = refl

layout_lines_split : (b : LayoutState) (front rest : List (Line Word)) (line : Line Word) → is_blank_line line ≡ false → Split b front rest line
unfolding layout_lines filled_lines
layout_lines_split b [] rest line k = record {
  before = gap_lines b line;
  behind = b;
  parts = rw k refl;
  same = gap_filled (has_gap b line);
}
layout_lines_split b (l ∷ front) rest line k =
    elim (cases_Bool (is_blank_line l)) [
      | inl j ↦
          let s = layout_lines_split (record b { gap_pending = true }) front rest line k in
          record { before = s.before; behind = s.behind; parts = rw j s.parts; same = rw j s.same }
      | inr j ↦
          let s = layout_lines_split (state_after b l) front rest line k in
          record {
            before = gap_lines b l ++ l ∷ s.before;
            behind = s.behind;
            parts = rw (j, s.parts) (sym (append_assoc (gap_lines b l) (l ∷ s.before) (line ∷ layout_lines (state_after s.behind line) rest)));
            same = filled_gap (has_gap b l) l s.before j ∙ rw (j, s.same) refl;
          }
    ]

abbrev place : Bool → Bool → Bool → LayoutState
place may gap_pending inside = record { gap_allowed = may; gap_pending = gap_pending; inside = inside }

skip_blanks : (may inside : Bool) (blanks rest : List (Line Word)) → list_all is_blank_line blanks ≡ true
    → layout_lines (place may true inside) (blanks ++ rest) ≡ layout_lines (place may true inside) rest
unfolding layout_lines
skip_blanks may inside [] rest h = refl
skip_blanks may inside (x ∷ blanks) rest h =
    let p = and_both (is_blank_line x) (list_all is_blank_line blanks) h in rw p.0 (skip_blanks may inside blanks rest p.1)

abbrev one_blank : List (Line Word)
one_blank = Blank ∷ []

same_gap : (o c : Bool) → cond (not o && not c) one_blank [] ≡ cond (o || c) [] one_blank
same_gap true c = refl
same_gap false true = refl
same_gap false false = refl

gap_is : (line next : Line Word) (blanks back : List (Line Word)) (inside : Bool) → list_all is_blank_line blanks ≡ true → is_blank_line next ≡ false
    → (after : List (Line Word)) × (layout_lines (place (not (is_open line)) false inside) (blanks ++ next ∷ back)
    ≡ gap_between line blanks next ++ next ∷ after) × (filled_lines after ≡ filled_lines back)
unfolding layout_lines
gap_is line next [] back inside h k =
    let b = state_after (place (not (is_open line)) false inside) next in (layout_lines b back, rw k refl, filled_again b back)
gap_is line next (x ∷ blanks) back inside h k =
    let p = and_both (is_blank_line x) (list_all is_blank_line blanks) h in
    let b = state_after (place (not (is_open line)) true inside) next in (
      layout_lines b back,
      rw (p.0, skip_blanks _ inside blanks _ p.1, k, same_gap _ _) refl,
      filled_again b back,
    )

are_laid_out : (lines : List (Line Word)) → AreLaidOut lines (layout_lines initial_state lines)
are_laid_out lines = record {
  kept = filled_again initial_state lines;
  no_blank_first = first_filled initial_state lines refl;
  no_blank_last = last_filled initial_state lines;
  between = λ front blanks back line next k h j e.
      let s = layout_lines_split initial_state front (blanks ++ next ∷ back) line k in
      let g = gap_is line next blanks back (inside_after s.behind.inside line) h j in
      (s.before, g.0, rw (e, s.parts, g.1) refl, s.same, g.2);
}

-- ---- no other lines are

-- a line that is not blank, with the same lines before it, is at only one place of a list
same_split : (f g x y : List (Line Word)) (a : Line Word) → is_blank_line a ≡ false → f ++ a ∷ x ≡ g ++ a ∷ y → filled_lines f ≡ filled_lines g → x ≡ y
unfolding filled_lines
same_split [] [] x y a k e h = cc
same_split [] (m ∷ g) x y a k e h = let same : a ≡ m = cc in let none = rw (← same, k) at h in cc
same_split (l ∷ f) [] x y a k e h = let same : l ≡ a = cc in let none = rw (same, k) at h in cc
same_split (l ∷ f) (m ∷ g) x y a k e h =
    let same : l ≡ m = cc in
    let rest : f ++ a ∷ x ≡ g ++ a ∷ y = cc in
    elim (cases_Bool (is_blank_line l)) [
      | inl j ↦ same_split f g x y a k rest (rw (← same, j) at h)
      | inr j ↦ let both = rw (← same, j) at h in same_split f g x y a k rest cc
    ]

ends_blank-append : (xs ys : List (Line Word)) (y : Line Word) → ends_blank (xs ++ y ∷ ys) ≡ ends_blank (y ∷ ys)
ends_blank-append [] ys y = refl
ends_blank-append (x ∷ []) ys y = refl
ends_blank-append (x ∷ z ∷ xs) ys y = ends_blank-append (z ∷ xs) ys y

-- if no line is kept, all lines are blank
blank_front : (l : Line Word) (ls : List (Line Word)) → filled_lines (l ∷ ls) ≡ [] → (is_blank_line l ≡ true) × (filled_lines ls ≡ [])
unfolding filled_lines
blank_front l ls e =
    elim (cases_Bool (is_blank_line l)) [
      | inl k ↦ (k, rw k at e)
      | inr k ↦ let none = rw k at e in cc
    ]

blanks_end : (l : Line Word) (ls : List (Line Word)) → filled_lines (l ∷ ls) ≡ [] → ends_blank (l ∷ ls) ≡ true
blanks_end l [] e = (blank_front l [] e).0
blanks_end l (m ∷ ls) e = blanks_end m ls (blank_front l _ e).1

no_tail : (before tail : List (Line Word)) (line : Line Word) → filled_lines tail ≡ [] → ends_blank (before ++ line ∷ tail) ≡ false → tail ≡ []
no_tail before [] line e h = refl
no_tail before (t ∷ tail) line e h = absurd (true≢false (sym (blanks_end t tail e) ∙ sym (ends_blank-append before _ line) ∙ h))

no_lines : (laid : List (Line Word)) → filled_lines laid ≡ [] → begins_blank laid ≡ false → laid ≡ []
no_lines [] e h = refl
no_lines (l ∷ laid) e h = absurd (true≢false (sym (blank_front l laid e).0 ∙ h))

abbrev is_some_line : List (Line Word) → Bool
is_some_line [] = false
is_some_line (l ∷ ls) = true

some_push : (ls : List (Line Word)) (l : Line Word) → is_some_line (ls ++ l ∷ []) ≡ true
some_push [] l = refl
some_push (m ∷ ls) l = refl

all_push : (ls : List (Line Word)) (l : Line Word) → list_all is_blank_line ls ≡ true → is_blank_line l ≡ true → list_all is_blank_line (ls ++ l ∷ []) ≡ true
all_push [] l h k = rw k refl
all_push (m ∷ ls) l h k = let p = and_both (is_blank_line m) (list_all is_blank_line ls) h in
    ap (λ b. b && list_all is_blank_line (ls ++ l ∷ [])) p.0 ∙ all_push ls l p.1 k

gap_same : (line next : Line Word) (blanks : List (Line Word))
    → cond (is_some_line blanks && (not (is_open line) && not (is_close next))) (Blank ∷ []) []
    ≡ gap_between line blanks next
gap_same line next [] = refl
gap_same line next (x ∷ blanks) = same_gap _ _

gap_none : (line next : Line Word) (blanks : List (Line Word)) → filled_lines (gap_between line blanks next) ≡ []
gap_none line next blanks = rw (← gap_same line next blanks) (gap_filled _)

module _ (lines laid : List (Line Word)) (h : AreLaidOut lines laid) where
  -- after a kept line, laid has the same lines as the layout
  tail_is : (rest front blanks before tail : List (Line Word)) (line : Line Word) (inside : Bool)
      → is_blank_line line ≡ false → list_all is_blank_line blanks ≡ true
      → lines ≡ front ++ line ∷ (blanks ++ rest) → laid ≡ before ++ line ∷ tail → filled_lines before ≡ filled_lines front
      → tail ≡ layout_lines (place (not (is_open line)) (is_some_line blanks) inside) rest
  unfolding layout_lines
  tail_is [] front blanks before tail line inside k b e f same =
      let kept = rw (
        f,
        e,
        filled-append before _,
        filled-append front _,
        same,
        filled_other line tail k,
        filled_other line _ k,
        append-nil blanks,
        filled_blanks blanks b,
      ) at h.kept in
      let ends = append_cancel_left (filled_lines front) (line ∷ filled_lines tail) (line ∷ []) kept in
      no_tail before tail line (cc) (rw f at h.no_blank_last)
  tail_is (l ∷ ls) front blanks before tail line inside k b e f same =
      elim (cases_Bool (is_blank_line l)) [
        | inl j ↦ rw j (rw (some_push blanks l) at (tail_is ls front (blanks ++ l ∷ []) before tail line inside k
            (all_push blanks l b j) (rw (append_assoc blanks (l ∷ []) ls) e) f same))
        | inr j ↦
            let p = h.between front blanks ls line l k b j e in
            let gap = gap_between line blanks l in
            let here = same_split before p.0 tail _ line k (sym f ∙ p.2) (same ∙ sym p.3) in
            let past = tail_is ls (front ++ line ∷ blanks) [] (before ++ line ∷ gap) p.1 l (inside_after inside l) j refl
            (rw (append_assoc front (line ∷ blanks) (l ∷ ls)) e) (rw (append_assoc before (line ∷ gap) (l ∷ p.1), ← here) f)
            (rw (
              filled-append before _,
              filled-append front _,
              filled_other line gap k,
              filled_other line blanks k,
              gap_none line l blanks,
              filled_blanks blanks b,
              same,
            ) refl) in
            rw (here, j, gap_same line l blanks) (rw past refl)
      ]

  all_is : (rest blanks : List (Line Word)) (gap_pending : Bool) → list_all is_blank_line blanks ≡ true
      → lines ≡ blanks ++ rest → laid ≡ layout_lines (place false gap_pending false) rest
  unfolding layout_lines
  all_is [] blanks gap_pending b e = no_lines laid (rw (e, append-nil blanks, filled_blanks blanks b) at h.kept) h.no_blank_first
  all_is (l ∷ ls) blanks gap_pending b e =
      elim (cases_Bool (is_blank_line l)) [
        | inl j ↦ rw j (all_is ls (blanks ++ l ∷ []) true (all_push blanks l b j) (rw (append_assoc blanks (l ∷ []) ls) e))
        | inr j ↦ by_first laid (rw (e, filled-append blanks _, filled_blanks blanks b, filled_other l ls j) at h.kept) h.no_blank_first j refl
      ]
    where
      by_first : (all : List (Line Word)) → filled_lines all ≡ l ∷ filled_lines ls → begins_blank all ≡ false
          → is_blank_line l ≡ false → laid ≡ all → laid ≡ layout_lines (place false gap_pending false) (l ∷ ls)
      by_first [] keeps first j f = let none = rw filled_none at keeps in cc
      by_first (m ∷ all) keeps first j f =
          let both = rw (filled_other m all first) at keeps in
          let same : m ≡ l = cc in
          let past = tail_is ls blanks [] [] all l (inside_after false l) j refl e (rw (← same) f) (filled_none ∙ sym (filled_blanks blanks b)) in
          rw (f, same, j, no_gap _ _) (rw past refl)

-- the layout of lines, stated without the algorithm
pub is_layout : (lines : List (Line Word)) → IsLayout lines (layout lines)
is_layout lines = record {
  laid = layout_lines initial_state lines;
  are_laid = are_laid_out lines;
  only = λ others h. all_is lines others h lines [] false refl refl;
  is_text = laid_text _ lines;
}
