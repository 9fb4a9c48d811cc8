-- Inserting lines into a document, or removing some, leaves a document.
use Rattle.std.proofs.Common.{◌≡◌, ℕ, ◌-◌, ◌<◌, ◌≤◌, Bool, true, false, List, [], ◌∷◌, ◌++◌, length, take, drop, take-add, Option, Some, None, Ok, refl, sym, ap, ◌∙◌, arith, inl, inr}
use Rattle.std.specs.Prelude.{◌≢◌, ⊤, insert, slice_range}
use Rattle.std.specs.List.{list_all}
use Rattle.std.proofs.lemmas.Bool.{cases_Bool, true≢false}
use Rattle.std.proofs.lemmas.List.{take-append-drop, drop-drop}
use Rattle.gm_syntax_words.specs.Words.{Word, is_bare, is_mark}
use Rattle.gm_syntax_words.specs.Spelling.{IsSuffix}
use Rattle.gm_syntax.specs.Document.{Line, Blank, Comment, Open, Close, Entry, ends_open, opens_block, begins_close, class_of, inside_after, inside_after_all, is_level, IsValidLine, IsEntry, AreLines, IsDocument, start, after, without, Place}
use Rattle.gm_syntax.proofs.Classing.{class_blank, class_comment, class_inside_entry, class_entry}
use Rattle.gm_syntax.proofs.Stable.{and_both, after_inside, words_are_spelled, spelled_are_words, from_words, class_is, line_fits}

-- each line is valid at its place
abbrev pub AreValidFrom : Bool → List (Line Word) → Type 0
AreValidFrom inside [] = ⊤
AreValidFrom inside (line ∷ lines) = IsValidLine inside line × AreValidFrom (inside_after inside line) lines

pub lines_stand : (at : Place) (lines : List (Line Word)) → AreLines at lines → AreValidFrom at.inside lines × (inside_after_all at.inside lines ≡ false)
lines_stand at [] h = (tt, h)
lines_stand at (l ∷ ls) h =
    let r = lines_stand (after at l) ls h.1 in
    ((h.0, rw (after_inside at l) at r.0), rw (after_inside at l) at r.1)

pub standing_lines : (at : Place) (lines : List (Line Word)) → AreValidFrom at.inside lines → inside_after_all at.inside lines ≡ false → AreLines at lines
standing_lines at [] s e = e
standing_lines at (l ∷ ls) s e =
    (s.0, standing_lines (after at l) ls (rw (after_inside at l) s.1) (rw (after_inside at l) e))

pub stand_parts : (b : Bool) (xs ys : List (Line Word)) → AreValidFrom b (xs ++ ys) → AreValidFrom b xs × AreValidFrom (inside_after_all b xs) ys
stand_parts b [] ys s = (tt, s)
stand_parts b (x ∷ xs) ys s = let r = stand_parts _ xs ys s.1 in ((s.0, r.0), r.1)

pub stand_together : (b : Bool) (xs ys : List (Line Word)) → AreValidFrom b xs → AreValidFrom (inside_after_all b xs) ys → AreValidFrom b (xs ++ ys)
stand_together b [] ys s t = t
stand_together b (x ∷ xs) ys s t = (s.0, stand_together _ xs ys s.1 t)

pub inside_after_all-append : (b : Bool) (xs ys : List (Line Word)) → inside_after_all b (xs ++ ys) ≡ inside_after_all (inside_after_all b xs) ys
inside_after_all-append b [] ys = refl
inside_after_all-append b (x ∷ xs) ys = inside_after_all-append _ xs ys

pub inside_after-level : (b : Bool) (line : Line Word) → is_level line ≡ true → inside_after b line ≡ b
inside_after-level b (Open verb suffix) e = cc
inside_after-level b (Close suffix) e = cc
inside_after-level b line e = refl

pub inside_after_all-level : (b : Bool) (lines : List (Line Word)) → list_all is_level lines ≡ true → inside_after_all b lines ≡ b
inside_after_all-level b [] e = refl
inside_after_all-level b (l ∷ ls) e =
    let p = and_both (is_level l) (list_all is_level ls) e in
    rw (inside_after-level b l p.0) (inside_after_all-level b ls p.1)

-- ---- removing lines

-- lines after which a block is open exactly if one is open before them
pub lines_go_out : (front middle back : List (Line Word)) → IsDocument (front ++ (middle ++ back))
    → inside_after_all (inside_after_all false front) middle ≡ inside_after_all false front → IsDocument (front ++ back)
lines_go_out front middle back d e =
    let all = lines_stand start _ d in
    let parts = stand_parts false front _ all.0 in
    let more = stand_parts _ middle back parts.1 in
    standing_lines start _ (stand_together false front back parts.0 (rw e at more.1)) (rw (
      inside_after_all-append false front back,
      ← e,
      ← inside_after_all-append (inside_after_all false front) middle back,
      ← inside_after_all-append false front (middle ++ back),
    ) all.1)

pub level_lines_go_out : (front middle back : List (Line Word)) → IsDocument (front ++ (middle ++ back))
    → list_all is_level middle ≡ true → IsDocument (front ++ back)
level_lines_go_out front middle back d e = lines_go_out front middle back d (inside_after_all-level _ middle e)

pub open_outside : (b : Bool) (verb : Word) (suffix : Option (List ℕ)) → IsValidLine b (Open verb suffix) → b ≡ false
open_outside b verb suffix s = line_fits b s.0 _ s.2

slice_parts : (lines : List (Line Word)) (from to : ℕ) → from ≤ to → lines ≡ take from lines ++ (slice_range lines from to ++ drop to lines)
slice_parts lines from to le =
    let middle = slice_range lines from to in
    let past = drop-drop (to - from) from lines ∙ ap (λ n. drop n lines) (omega arith) in
    let tail =
    sym (take-append-drop (to - from) (drop from lines)) ∙ ap (λ l. middle ++ l) past in
    sym (take-append-drop from lines) ∙ ap (λ l. take from lines ++ l) tail

-- the same, by index
pub lines_go_out_at : (lines : List (Line Word)) (from to : ℕ) → from ≤ to → IsDocument lines
    → inside_after_all false (take to lines) ≡ inside_after_all false (take from lines)
    → IsDocument (without lines from to)
lines_go_out_at lines from to le d e =
    let middle = slice_range lines from to in
    let whole = slice_parts lines from to le in
    let upto = ap (λ n. take n lines) (omega arith) ∙ take-add from (to - from) lines in
    lines_go_out (take from lines) middle (drop to lines) (rw (← whole) d)
    (rw (← inside_after_all-append false (take from lines) middle, ← upto) e)

pub level_lines_go_out_at : (lines : List (Line Word)) (from to : ℕ) → from ≤ to → IsDocument lines
    → list_all is_level (slice_range lines from to) ≡ true → IsDocument (without lines from to)
level_lines_go_out_at lines from to le d e =
    let upto : take to lines ≡ take from lines ++ slice_range lines from to = ap (λ n. take n lines) (omega arith) ∙ take-add from (to - from) lines in
    lines_go_out_at lines from to le d
    (rw (upto, inside_after_all-append false (take from lines) (slice_range lines from to))
    (inside_after_all-level (inside_after_all false (take from lines)) (slice_range lines from to) e))

-- an opening, the level lines in its block, the closing, and level lines after it
pub block_goes_out_at : (lines inner behind : List (Line Word)) (from to : ℕ) (verb : Word)
    (suffix last : Option (List ℕ)) → from ≤ to → IsDocument lines
    → slice_range lines from to ≡ Open verb suffix ∷ (inner ++ Close last ∷ behind) → list_all is_level inner ≡ true
    → list_all is_level behind ≡ true → IsDocument (without lines from to)
block_goes_out_at lines inner behind from to verb suffix last le d is e f =
    let front = take from lines in
    let block = Open verb suffix ∷ (inner ++ Close last ∷ behind) in
    let whole = slice_parts lines from to le ∙ ap (λ l. front ++ (l ++ drop to lines)) is in
    let all = lines_stand start (front ++ (block ++ drop to lines)) (rw (← whole) d) in
    let opening = (stand_parts false front (block ++ drop to lines) all.0).1.0 in
    let outside = open_outside (inside_after_all false front) verb suffix opening in
    let closed =
    inside_after_all-append true inner (Close last ∷ behind) ∙ inside_after_all-level false behind f in
    lines_go_out front block (drop to lines) (rw (← whole) d) (closed ∙ sym outside)

-- ---- inserting lines

-- the words of a level line neither end in an opening parenthesis nor begin with a closing one
level_tests : (inside : Bool) (words : List Word) (suffix : Option (List ℕ)) (l : Line Word)
    → class_of inside words suffix ≡ Ok l → is_level l ≡ true → (ends_open words ≡ false) × (begins_close words ≡ false)
level_tests inside words suffix l e k = (rw e at (class_is inside words suffix)).2 k

opens_ends : (words : List Word) → opens_block words ≡ true → ends_open words ≡ true
opens_ends (v ∷ w ∷ []) e = (and_both (is_bare v.kind) (is_mark 40 w) e).1
opens_ends words e = cc

pub class_anywhere : (inside : Bool) (words : List Word) (suffix : Option (List ℕ)) → 0 < length words
    → ends_open words ≡ false → begins_close words ≡ false → class_of inside words suffix ≡ Ok (Entry words suffix)
class_anywhere true words suffix n e c = class_inside_entry words suffix n c e
class_anywhere false words suffix n e c =
    let no_block : opens_block words ≡ false = elim (cases_Bool (opens_block words))
    [ inl o ↦ absurd (true≢false (sym (opens_ends words o) ∙ e)) | inr o ↦ o ] in
    class_entry words suffix n no_block e c

class_level : (inside other : Bool) (words : List Word) (suffix : Option (List ℕ)) (l : Line Word)
    → class_of inside words suffix ≡ Ok l → is_level l ≡ true → class_of other words suffix ≡ Ok l
unfolding class_of
class_level inside other [] None l e k = e
class_level inside other [] (Some text) l e k = e
class_level inside other (w ∷ ws) suffix l e k =
    let t = level_tests inside (w ∷ ws) suffix l e k in
    class_anywhere other (w ∷ ws) suffix (omega arith) t.0 t.1 ∙ sym (class_anywhere inside (w ∷ ws) suffix (omega arith) t.0 t.1) ∙ e

-- a level line that is valid somewhere is valid anywhere
pub valid_anywhere : (inside other : Bool) (line : Line Word) → is_level line ≡ true → IsValidLine inside line → IsValidLine other line
valid_anywhere inside other line k (text, plain, at) = (
  text,
  plain,
  record {
    words = at.words;
    comment = at.comment;
    spelled = at.spelled;
    classed =
        class_level inside other _ _ line at.classed k;
  },
)

pub level_line_goes_in : (front back : List (Line Word)) (line : Line Word) (inside : Bool) → IsDocument (front ++ back)
    → is_level line ≡ true → IsValidLine inside line → IsDocument (front ++ line ∷ back)
level_line_goes_in front back line inside d k s =
    let all = lines_stand start (front ++ back) d in
    let parts = stand_parts false front back all.0 in
    let b = inside_after_all false front in
    let same = inside_after-level b line k in
    standing_lines start (front ++ line ∷ back)
    (stand_together false front (line ∷ back) parts.0 (valid_anywhere inside b line k s, rw same parts.1))
    (rw (inside_after_all-append false front (line ∷ back), same, ← inside_after_all-append false front back) all.1)

-- the same, by index
pub level_line_goes_in_at : (lines : List (Line Word)) (at : ℕ) (line : Line Word) (inside : Bool) → IsDocument lines
    → is_level line ≡ true → IsValidLine inside line → IsDocument (insert lines at line)
level_line_goes_in_at lines at line inside d k s =
    level_line_goes_in _ _ line inside (rw (take-append-drop at lines) d) k s

-- ---- lines made by edits

pub blank_stands : (inside : Bool) → IsValidLine inside Blank
blank_stands inside = let s = words_are_spelled [] None tt tt in (s.0, s.1, record { words = []; comment = None; spelled = s.2; classed = class_blank inside })

pub comment_stands : (inside : Bool) (text : List ℕ) → IsSuffix (Some text) → IsValidLine inside (Comment text)
comment_stands inside text h = let s = words_are_spelled [] (Some text) tt h in
    (s.0, s.1, record { words = []; comment = Some text; spelled = s.2; classed = class_comment inside text })

pub entry_stands : (inside : Bool) (words : List Word) (suffix : Option (List ℕ)) → IsEntry words suffix → IsValidLine inside (Entry words suffix)
entry_stands inside words suffix h =
    let s = words_are_spelled words suffix h.are_words h.is_suffix in (
      s.0,
      s.1,
      record {
        words = words;
        comment = suffix;
        spelled = s.2;
        classed =
            class_anywhere inside words suffix h.filled h.opens_nothing h.closes_nothing;
      },
    )

filled_length : (words : List Word) → words ≢ [] → 0 < length words
filled_length [] h = absurd (h refl)
filled_length (w ∷ words) h = omega arith

pub standing_entry : (inside : Bool) (words : List Word) (suffix : Option (List ℕ)) → IsValidLine inside (Entry words suffix) → IsEntry words suffix
standing_entry inside words suffix (text, plain, at) =
    let f = from_words inside _ _ _ at.classed in
    let g = rw (f.0, f.1) at (spelled_are_words text _ _ plain at.spelled) in
    let t = level_tests inside _ _ _ at.classed refl in
    record {
      are_words = g.0;
      is_suffix = g.1;
      filled = filled_length words f.2;
      opens_nothing = rw f.0 at t.0;
      closes_nothing = rw f.0 at t.1;
    }
