-- Reading a text line by line, with the place carried along, gives what the pieces of the text are.
use Rattle.std.proofs.Common.{◌≡◌, ℕ, suc, ◌+◌, true, false, List, [], ◌∷◌, ◌++◌, length, Option, Some, None, refl, sym, ap, ◌∙◌, append_assoc, arith, inl, inr}
use Rattle.std.specs.Prelude.{◌⊎◌, slice_get}
use Rattle.std.specs.List.{list_all}
use Rattle.std.proofs.lemmas.Bool.{true≢false}
use Rattle.std.proofs.lemmas.List.{append-nil, length-append}
use Rattle.gm_syntax_words.specs.declared.fault.SyntaxKind.{SyntaxKind}
use Rattle.gm_syntax_words.specs.declared.fault.SyntaxKind.TheVariants.{OpenBlock}
use Rattle.gm_syntax_words.specs.Words.{Word}
use Rattle.gm_syntax_words.specs.Lines.{lines_of}
use Rattle.gm_syntax.specs.Document.{Line, Open, Close, Finish, Whole, Faulty, is_level, inside_after_all, IsLineAt, HasLineFault, Finishes, ReadsLines, start, after, Place}
use Rattle.gm_syntax.specs.Documents.{openings, closings, is_open_after, IsLastOpening, EndsAfter, IsReading}
use Rattle.gm_syntax.proofs.Stable.{and_both, after_inside, Fits, line_fits}
use Rattle.gm_syntax.proofs.Changes.{inside_after_all-append, inside_after_all-level}
use Rattle.gm_syntax.proofs.Texts.{number_after}
use Rattle.gm_syntax.proofs.Alternation.{FitFrom, fit_push, open_after, counts_closed, closed_by_counts}
use Rattle.gm_syntax.proofs.TextPieces.{pieces_lines, lines_pieces}

-- ---- the place after some lines

-- the place after these lines
record IsPlaceAfter (lines : List (Line Word)) (at : Place) : Type 0 where
  pub fit : FitFrom false lines
  pub number : at.number ≡ length lines + 1
  pub inside : at.inside ≡ inside_after_all false lines
  pub opened : at.inside ≡ true → IsLastOpening lines at.opened

place_start : IsPlaceAfter [] start
place_start = record { fit = tt; number = omega arith; inside = refl; opened = λ e. absurd (true≢false (sym e)) }

level_push : (lines : List (Line Word)) (line : Line Word) → list_all is_level lines ≡ true → is_level line ≡ true
    → list_all is_level (lines ++ line ∷ []) ≡ true
level_push [] line h k = rw k refl
level_push (l ∷ ls) line h k =
    let p = and_both (is_level l) (list_all is_level ls) h in rw p.0 (level_push ls line p.1 k)

opening_stays : (lines : List (Line Word)) (line : Line Word) (number : ℕ) → is_level line ≡ true
    → IsLastOpening lines number → IsLastOpening (lines ++ line ∷ []) number
opening_stays lines line number k o = record {
  front = o.front;
  verb = o.verb;
  suffix = o.suffix;
  inner = o.inner ++ line ∷ [];
  split = rw o.split (append_assoc o.front (Open o.verb o.suffix ∷ o.inner) (line ∷ []));
  never_closed = level_push o.inner line o.never_closed k;
  numbered = o.numbered;
}

new_opening : (lines : List (Line Word)) (at : Place) (verb : Word) (suffix : Option (List ℕ))
    → IsPlaceAfter lines at → IsLastOpening (lines ++ Open verb suffix ∷ []) at.number
new_opening lines at verb suffix p =
    record { front = lines; verb = verb; suffix = suffix; inner = []; split = refl; never_closed = refl; numbered = p.number }

opening_after : (lines : List (Line Word)) (at : Place) (line : Line Word) → IsPlaceAfter lines at
    → (after at line).inside ≡ true → IsLastOpening (lines ++ line ∷ []) (after at line).opened
opening_after lines at (Open verb suffix) p e = new_opening lines at verb suffix p
opening_after lines at (Close suffix) p e = absurd (true≢false (sym e))
opening_after lines at line p e = opening_stays lines line _ refl (p.opened e)

place_step : (lines : List (Line Word)) (at : Place) (line : Line Word) → IsPlaceAfter lines at
    → Fits at.inside line → IsPlaceAfter (lines ++ line ∷ []) (after at line)
place_step lines at line p f = record {
  fit = fit_push false lines line p.fit (rw (← p.inside) f);
  number = omega (arith, number_after at line, p.number, length-append lines (line ∷ []));
  inside = rw (after_inside at line, p.inside, inside_after_all-append false lines _) refl;
  opened = opening_after lines at line p;
}

place_open : (lines : List (Line Word)) (at : Place) → IsPlaceAfter lines at → at.inside ≡ is_open_after lines
place_open lines at p = p.inside ∙ sym (open_after lines p.fit)

-- ---- from the walk over the lines

line_at : (at : Place) (before front back : List (Line Word)) (line : Line Word) (texts : List (List ℕ)) (f : Finish)
    → IsPlaceAfter before at → ReadsLines at texts (front ++ line ∷ back) f
    → (piece : List ℕ) × (slice_get texts (length front) ≡ Some piece) × IsLineAt (is_open_after (before ++ front)) piece line
line_at at before [] back line [] f p r = absurd r
line_at at before [] back line (t ∷ ts) f p r =
    (t, refl, rw (← (place_open before at p ∙ ap is_open_after (sym (append-nil before)))) r.0)
line_at at before (l ∷ front) back line [] f p r = absurd r
line_at at before (l ∷ front) back line (t ∷ ts) f p r =
    let more = line_at (after at l) (before ++ l ∷ []) front back line ts f (place_step before at l p (line_fits at.inside t l r.0)) r.1 in
    (more.0, more.1, rw (← (append_assoc before (l ∷ []) front)) more.2)

-- the place after all lines, and the texts that are left there
record WalksTo (all : List (Line Word)) (count : ℕ) (texts : List (List ℕ)) (f : Finish) : Type 0 where
  pub end : Place
  pub place : IsPlaceAfter all end
  pub front : List (List ℕ)
  pub rest : List (List ℕ)
  pub split : texts ≡ front ++ rest
  pub as_many : length front ≡ count
  pub finishes : Finishes end rest f

walk : (at : Place) (before lines : List (Line Word)) (texts : List (List ℕ)) (f : Finish) → IsPlaceAfter before at
    → ReadsLines at texts lines f → WalksTo (before ++ lines) (length lines) texts f
walk at before [] texts f p r = record {
  end = at;
  place = rw (append-nil before) p;
  front = [];
  rest = texts;
  split = refl;
  as_many = refl;
  finishes = r;
}
walk at before (l ∷ ls) [] f p r = absurd r
walk at before (l ∷ ls) (t ∷ ts) f p r =
    let w = walk (after at l) (before ++ l ∷ []) ls ts f (place_step before at l p (line_fits at.inside t l r.0)) r.1 in
    record {
      end = w.end;
      place = rw (← (append_assoc before (l ∷ []) ls)) w.place;
      front = t ∷ w.front;
      rest = w.rest;
      split = ap (λ xs. t ∷ xs) w.split;
      as_many = ap suc w.as_many;
      finishes = w.finishes;
    }

get_next : (front rest : List (List ℕ)) (t : List ℕ) → slice_get (front ++ t ∷ rest) (length front) ≡ Some t
get_next [] rest t = refl
get_next (x ∷ front) rest t = get_next front rest t

ends_by : (lines : List (Line Word)) (texts front rest : List (List ℕ)) (end : Place) (f : Finish)
    → IsPlaceAfter lines end → texts ≡ front ++ rest → length front ≡ length lines → Finishes end rest f
    → EndsAfter texts lines f
ends_by lines texts front [] end Whole p e n h =
    (omega (arith, n, ap length e, length-append front []), counts_closed lines p.fit (sym p.inside ∙ h))
ends_by lines texts front (t ∷ rest) end Whole p e n h = absurd h
ends_by lines texts front [] end (Faulty number kind) p e n h =
    inr ((omega (arith, n, ap length e, length-append front []), rw h.1 (p.opened h.0)), h.2)
ends_by lines texts front (t ∷ rest) end (Faulty number kind) p e n h =
    inl (record {
      piece = t;
      is_next = rw (← n, e) (get_next front rest t);
      has_fault = rw (← (place_open lines end p)) h.1;
      numbered = h.0 ∙ p.number;
    })

pub reading_of : (text : List ℕ) (lines : List (Line Word)) (f : Finish) → ReadsLines start (lines_of text) lines f
    → IsReading text lines f
reading_of text lines f r =
    let w = walk start [] lines (lines_of text) f place_start r in
    record {
      pieces = lines_of text;
      are_pieces = lines_pieces text;
      are_lines = λ front back line e. line_at start [] front back line (lines_of text) f place_start
          (rw (← e) r);
      ends = ends_by lines _ w.front w.rest w.end f w.place w.split w.as_many w.finishes;
    }

-- ---- to the walk over the lines

pub some_same : (t u : List ℕ) → Some t ≡ Some u → t ≡ u
some_same t u e = cc

none_not_some : (u : List ℕ) (x : Option (List ℕ)) → x ≡ None → x ≡ Some u → ⊥
none_not_some u x e g = cc

abbrev at_opening : List (Line Word) → Word → Option (List ℕ) → List (Line Word) → List (Line Word)
at_opening front verb suffix inner = front ++ Open verb suffix ∷ inner

tails : (x y : Line Word) (xs ys : List (Line Word)) → x ∷ xs ≡ y ∷ ys → xs ≡ ys
tails x y xs ys e = cc

no_opening : (front more : List (Line Word)) (w : Word) (t : Option (List ℕ))
    → list_all is_level (at_opening front w t more) ≡ true → ⊥
no_opening [] more w t a = true≢false (sym a)
no_opening (x ∷ front) more w t a =
    no_opening front more w t (and_both (is_level x) (list_all is_level (at_opening front w t more)) a).1

-- after the last opening there is no other
no_later : (l m : Line Word) (inner others more : List (Line Word)) (w : Word) (t : Option (List ℕ))
    → l ∷ inner ≡ m ∷ at_opening others w t more → list_all is_level inner ≡ true → ⊥
no_later l m inner others more w t e a =
    no_opening others more w t (rw (← tails l m inner (at_opening others w t more) e) a)

-- a list is split at its last opening in one way
one_last_opening : (front others inner more : List (Line Word)) (v w : Word) (s t : Option (List ℕ))
    → at_opening front v s inner ≡ at_opening others w t more → list_all is_level inner ≡ true
    → list_all is_level more ≡ true → length front ≡ length others
one_last_opening [] [] inner more v w s t e a b = refl
one_last_opening [] (m ∷ others) inner more v w s t e a b = absurd (no_later _ m inner others more w t e a)
one_last_opening (l ∷ front) [] inner more v w s t e a b = absurd (no_later _ l more front inner v s (sym e) b)
one_last_opening (l ∷ front) (m ∷ others) inner more v w s t e a b =
    ap suc (one_last_opening front others inner more v w s t (tails l m _ _ e) a b)

one_opening : (lines : List (Line Word)) (n m : ℕ) → IsLastOpening lines n → IsLastOpening lines m → n ≡ m
one_opening lines n m o p =
    omega (
      arith,
      o.numbered,
      p.numbered,
      one_last_opening o.front p.front o.inner p.inner o.verb p.verb _
          _ (sym o.split ∙ p.split) o.never_closed p.never_closed,
    )

opening_open : (lines : List (Line Word)) (n : ℕ) → IsLastOpening lines n → inside_after_all false lines ≡ true
opening_open lines n o =
    rw (o.split, inside_after_all-append false o.front _) (inside_after_all-level true o.inner o.never_closed)

-- the end of the reading, as seen from some lines on
record EndsAtFault (all : List (Line Word)) (count : ℕ) (texts : List (List ℕ)) (number : ℕ) (kind : SyntaxKind) : Type 0 where
  pub piece : List ℕ
  pub is_next : slice_get texts count ≡ Some piece
  pub has_fault : HasLineFault (is_open_after all) piece kind
  pub numbered : number ≡ length all + 1

abbrev EndsFrom : List (Line Word) → ℕ → List (List ℕ) → Finish → Type 0
EndsFrom all count texts Whole = (count ≡ length texts) × (openings all ≡ closings all)
EndsFrom all count texts (Faulty number kind) = EndsAtFault all count texts number kind
    ⊎ ((count ≡ length texts) × IsLastOpening all number × (kind ≡ OpenBlock))

ends_more : (all : List (Line Word)) (count : ℕ) (t : List ℕ) (ts : List (List ℕ)) (f : Finish)
    → EndsFrom all (suc count) (t ∷ ts) f → EndsFrom all count ts f
ends_more all count t ts Whole h = (omega (arith, h.0), h.1)
ends_more all count t ts (Faulty number kind) h =
    elim h [
      | inl s ↦ inl (record { piece = s.piece; is_next = s.is_next; has_fault = s.has_fault; numbered = s.numbered })
      | inr s ↦ inr (omega (arith, s.0), s.1, s.2)
    ]

finish_by : (at : Place) (all : List (Line Word)) (texts : List (List ℕ)) (f : Finish) → IsPlaceAfter all at
    → EndsFrom all 0 texts f → Finishes at texts f
finish_by at all [] Whole p h = p.inside ∙ closed_by_counts all p.fit h.1
finish_by at all (t ∷ ts) Whole p h = absurd (omega (arith, h.0))
finish_by at all [] (Faulty number kind) p h =
    elim h [
      | inl s ↦ absurd (none_not_some s.piece _ refl s.is_next)
      | inr s ↦
          let inside : at.inside ≡ true = p.inside ∙ opening_open all number s.1 in
          (inside, one_opening all number _ s.1 (p.opened inside), s.2)
    ]
finish_by at all (t ∷ ts) (Faulty number kind) p h =
    elim h [
      | inl s ↦ (
        s.numbered ∙ sym p.number,
        rw (some_same t s.piece s.is_next)
            (rw (place_open all at p) s.has_fault),
      )
      | inr s ↦ absurd (omega (arith, s.0))
    ]

abbrev AreLinesFrom : List (Line Word) → List (List ℕ) → List (Line Word) → Type 0
AreLinesFrom before texts lines = (front back : List (Line Word)) (line : Line Word) → lines ≡ front ++ line ∷ back
    → (piece : List ℕ) × (slice_get texts (length front) ≡ Some piece) × IsLineAt (is_open_after (before ++ front)) piece line

walk_by : (at : Place) (before lines : List (Line Word)) (texts : List (List ℕ)) (f : Finish)
    → IsPlaceAfter before at → AreLinesFrom before texts lines → EndsFrom (before ++ lines) (length lines) texts f
    → ReadsLines at texts lines f
walk_by at before [] texts f p each ends =
    finish_by at before texts f p (rw (← (append-nil before)) ends)
walk_by at before (l ∷ ls) [] f p each ends =
    let h = each [] ls l refl in absurd (none_not_some h.0 (slice_get [] 0) refl h.1)
walk_by at before (l ∷ ls) (t ∷ ts) f p each ends =
    let h = each [] ls l refl in
    let inside : is_open_after (before ++ []) ≡ at.inside = rw (append-nil before, place_open before at p) refl in
    let here : IsLineAt at.inside t l = rw (some_same t h.0 h.1)
    (rw (← inside) h.2) in (
      here,
      walk_by (after at l) (before ++ l ∷ []) ls ts f (place_step before at l p (line_fits at.inside t l here))
          (λ front back line e.
          let m = each (l ∷ front) back line (rw e refl) in
          (m.0, m.1, rw (append_assoc before (l ∷ []) front) m.2))
          (rw (append_assoc before (l ∷ []) ls)
          (ends_more (before ++ l ∷ ls) (length ls) t ts f ends)),
    )

ends_start : (lines : List (Line Word)) (texts : List (List ℕ)) (f : Finish) → EndsAfter texts lines f
    → EndsFrom lines (length lines) texts f
ends_start lines texts Whole h = h
ends_start lines texts (Faulty number kind) h =
    elim h [
      | inl s ↦ inl (record { piece = s.piece; is_next = s.is_next; has_fault = s.has_fault; numbered = s.numbered })
      | inr s ↦ inr (s.0.0, s.0.1, s.1)
    ]

pub reads_as : (text : List ℕ) (lines : List (Line Word)) (f : Finish) → IsReading text lines f
    → ReadsLines start (lines_of text) lines f
reads_as text lines f h =
    rw (← (pieces_lines text _ h.are_pieces))
    (walk_by start [] lines h.pieces f place_start h.are_lines (ends_start lines _ f h.ends))
