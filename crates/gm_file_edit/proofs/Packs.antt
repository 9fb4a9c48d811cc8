-- Lines of which those with a mark are removed in place, step by step.
use Rattle.std.proofs.Common.{◌≡◌, ℕ, suc, ◌+◌, ◌<◌, Bool, true, false, List, [], ◌∷◌, ◌++◌, length, take, drop, get_or, set, Option, Some, None, refl, sym, ap, ◌∙◌, append_assoc, arith}
use Rattle.std.specs.Prelude.{not, take_while}
use Rattle.std.specs.List.{list_any, prefix_len}
use Rattle.std.proofs.lemmas.List.{drop-set-lt, get_or_default, length-set, length-take-le, take_more, take_more_set}
use Rattle.gm_marked_items.specs.Unmarked.{unmarked}
use Rattle.gm_marked_items.proofs.Kept.{drop-next, next-rest}
use Rattle.gm_syntax_words.specs.Tokens.{Placed}
use Rattle.gm_syntax.specs.Layout.{is_blank_line}
use Rattle.gm_syntax.specs.LineViews.{plain}
use Rattle.gm_syntax.specs.Document.{Line, Blank, Comment, Open, Close, Entry}
use Rattle.gm_file_edit.specs.Fates.{Fate, empties, fate_by, remaining, widened_from}
use Rattle.gm_file_edit.specs.Private.Marks.{AreAtEntries, fates_of, line_at}
use Rattle.gm_file_edit.proofs.KeptBlocks.{kept-lines}
use Rattle.gm_file_edit.proofs.Untouched.{all-lines-stay, all_stay}
use Rattle.gm_file_edit.proofs.Walking.{line-here}

-- ---- the loop that widens marks

-- Loop invariant: the first marks are widened, and the others are as they were.
pub record IsWidenedTo (whole : List (Line Placed)) (old : List Bool) (n : ℕ) (block : Option Bool) (behind : Bool) (marks : List Bool) : Type 0 where
  pub size : length marks ≡ length old
  pub rest : drop n marks ≡ drop n old
  pub left : fates_of (take n marks) (take n whole) ++ widened_from block behind (fates_of (drop n old) (drop n whole))
      ≡ widened_from None false (fates_of old whole)

marked-more : (front : List Bool) (lines : List (Line Placed)) (mark : Bool) (line : Line Placed)
    → length front ≡ length lines → fates_of (front ++ mark ∷ []) (lines ++ line ∷ []) ≡ fates_of front lines
    ++ fate_by mark line ∷ []
marked-more [] [] mark line even = refl
marked-more [] (l ∷ lines) mark line even = absurd (omega (arith, even))
marked-more (m ∷ front) [] mark line even = absurd (omega (arith, even))
marked-more (m ∷ front) (l ∷ lines) mark line even = rw (marked-more front lines mark line (omega (arith, even)))

-- one more line
widen-more : {whole : List (Line Placed)} {old : List Bool} (n : ℕ) {block : Option Bool} (next_block : Option Bool)
    {behind : Bool} (next_behind : Bool) {mark : Bool} (next_mark : Bool) {marks : List Bool} (next : List Bool)
    → length old ≡ length whole → n < length whole → mark ≡ get_or marks n mark → length next ≡ length marks
    → drop (n + 1) next ≡ drop (n + 1) marks → take (n + 1) next ≡ take n marks ++ next_mark ∷ []
    → widened_from block behind (fate_by mark (line_at whole n) ∷ fates_of (drop (n + 1) old) (drop (n + 1) whole))
    ≡ fate_by next_mark (line_at whole n) ∷ widened_from next_block next_behind
    (fates_of (drop (n + 1) old) (drop (n + 1) whole))
    → IsWidenedTo whole old n block behind marks → IsWidenedTo whole old (n + 1) next_block next_behind next
widen-more {whole} {old} n {block} next_block {behind} next_behind {mark} next_mark {marks} next even lt is same_size same_rest put step so =
    let front = fates_of (take n marks) (take n whole) in
    let after : List Fate = widened_from next_block next_behind (fates_of (drop (n + 1) old) (drop (n + 1) whole)) in
    let size = so.size in
    let rest : drop (n + 1) marks ≡ drop (n + 1) old = next-rest marks old n so.rest in
    let mark_here = rw (so.rest, rest) at (drop-next marks n mark (omega (arith, size, even, lt)) is) in
    let taken : length (take n marks) ≡ length (take n whole) =
    length-take-le n _ (omega (arith, size, even, lt)) ∙ sym (length-take-le n _ (omega (arith, lt))) in
    record {
      size = same_size ∙ size;
      rest = same_rest ∙ rest;
      left =
          rw (
            put,
            take_more _ _ Blank lt,
            marked-more _ _ _ _ taken,
            append_assoc front _ _,
          ) (rw (mark_here, line-here _ _ lt, step) at so.left);
    }

-- a line without a mark
pub widen-line : {whole : List (Line Placed)} (old : List Bool) (n : ℕ) {block : Option Bool} (next_block : Option Bool)
    {behind : Bool} (next_behind : Bool) {seen : Bool} (next_mark : Bool) {marks slice : List Bool}
    → length old ≡ length whole → n < length whole → seen ≡ get_or marks n seen → seen ≡ false → slice ≡ marks
    → widened_from block behind (Some (line_at whole n) ∷ fates_of (drop (n + 1) slice) (drop (n + 1) whole))
    ≡ fate_by next_mark (line_at whole n) ∷ widened_from next_block next_behind
    (fates_of (drop (n + 1) slice) (drop (n + 1) whole))
    → IsWidenedTo whole old n block behind marks → IsWidenedTo whole old (n + 1) next_block next_behind (set marks n next_mark)
widen-line {whole} old n {block} next_block {behind} next_behind next_mark {marks} {slice} even lt seen_is unmarked same step so =
    let size = so.size in
    let rest : drop (n + 1) slice ≡ drop (n + 1) old = rw same (next-rest marks old n so.rest) in
    widen-more _ _ _ _ _ even lt (rw unmarked at seen_is) (length-set marks _ _)
    (drop-set-lt (n + 1) _ _ _ (omega arith)) (take_more_set _ _ _ (omega (arith, size, even, lt))) (rw rest at step) so

-- a line with a mark
pub widen-marked : {whole : List (Line Placed)} (old : List Bool) (n : ℕ) {block : Option Bool} {behind seen : Bool} {marks : List Bool}
    → length old ≡ length whole → n < length whole → seen ≡ get_or marks n seen → seen ≡ true
    → IsWidenedTo whole old n block behind marks → IsWidenedTo whole old (n + 1) block behind marks
widen-marked old n {block} {behind} {marks} even lt seen_is has_mark so =
    let size = so.size in
    let mark_is = rw has_mark at seen_is in
    widen-more _ _ _ _ _ even lt mark_is refl refl (rw (← mark_is) at (take_more marks n true (omega (arith, size, even, lt)))) refl so

-- ---- the loop that looks for the end of a block

empties-blank : (lost : Bool) (line : Line Placed) (fates : List Fate) → is_blank_line (plain line) ≡ true
    → empties lost (Some line ∷ fates) ≡ empties lost fates
empties-blank lost Blank fates is = refl
empties-blank lost (Comment text) fates is = absurd cc
empties-blank lost (Open verb suffix) fates is = absurd cc
empties-blank lost (Close suffix) fates is = absurd cc
empties-blank lost (Entry words suffix) fates is = absurd cc

-- the fates from an index on begin with that of the line there
fates-here : (marks : List Bool) (lines : List (Line Placed)) (n : ℕ) {mark : Bool} → length marks ≡ length lines
    → n < length lines → get_or marks n false ≡ mark
    → fates_of (drop n marks) (drop n lines) ≡ fate_by mark (line_at lines n) ∷ fates_of (drop (n + 1) marks) (drop (n + 1) lines)
fates-here marks lines n {mark} even lt is =
    let in_marks : n < length marks = omega (arith, even, lt) in
    rw (drop-next _ _ _ in_marks (sym is ∙ get_or_default marks n false mark in_marks), line-here _ _ lt)

pub look-marked : (marks : List Bool) (lines : List (Line Placed)) (n : ℕ) (lost : Bool) → length marks ≡ length lines
    → n < length lines → get_or marks n false ≡ true
    → empties lost (fates_of (drop n marks) (drop n lines)) ≡ empties true (fates_of (drop (n + 1) marks) (drop (n + 1) lines))
look-marked marks lines n lost even lt is = ap (empties lost) (fates-here _ _ _ even lt is)

pub look-blank : (marks : List Bool) (lines : List (Line Placed)) (n : ℕ) (lost : Bool) → length marks ≡ length lines
    → n < length lines → get_or marks n false ≡ false
    → is_blank_line (plain (line_at lines n)) ≡ true → empties lost (fates_of (drop n marks) (drop n lines))
    ≡ empties lost (fates_of (drop (n + 1) marks) (drop (n + 1) lines))
look-blank marks lines n lost even lt is blank = rw (fates-here _ _ _ even lt is) (empties-blank _ _ _ blank)

-- ---- no line with a mark

none-marked : (marks : List Bool) (lines : List (Line Placed)) → length marks ≡ length lines
    → list_any (λ mark. mark) marks ≡ false → fates_of marks lines ≡ all_stay lines
none-marked [] [] even none = refl
none-marked [] (line ∷ lines) even none = absurd (omega (arith, even))
none-marked (mark ∷ marks) [] even none = absurd (omega (arith, even))
none-marked (true ∷ marks) (line ∷ lines) even none = absurd cc
none-marked (false ∷ marks) (line ∷ lines) even none = rw (none-marked marks lines (omega (arith, even)) none)

pub all-kept : (marks : List Bool) (lines : List (Line Placed)) → length marks ≡ length lines
    → list_any (λ mark. mark) marks ≡ false → lines ≡ remaining (fates_of marks lines)
all-kept marks lines even none = rw (none-marked _ _ even none) (sym (all-lines-stay _))

-- ---- one line with a mark

-- the number of marks before the first
abbrev pub first_of : List Bool → ℕ
first_of [] = 0
first_of (true ∷ marks) = 0
first_of (false ∷ marks) = suc (first_of marks)

pub first-is : (marks : List Bool) → length (take_while (λ mark. not mark) marks) ≡ first_of marks
first-is [] = refl
first-is (true ∷ marks) = refl
first-is (false ∷ marks) =
    let more : 1 + prefix_len (λ mark. not mark) marks ≡ suc (prefix_len (λ mark. not mark) marks) = omega arith in
    rw (more, first-is marks)

-- ---- all of it

-- marks at entries are as many as the lines
pub at-count : (marks : List Bool) (lines : List (Line Placed)) → AreAtEntries marks lines → length marks ≡ length lines
at-count [] [] at = refl
at-count [] (line ∷ lines) at = absurd at
at-count (mark ∷ marks) [] at = absurd at
at-count (true ∷ marks) (line ∷ lines) at = ap suc (at-count marks lines at.1)
at-count (false ∷ marks) (line ∷ lines) at = ap suc (at-count marks lines at)

pub pack-is : (marks : List Bool) {widened slice : List Bool} (lines : List (Line Placed)) → slice ≡ widened → length widened ≡ length lines
    → fates_of widened lines ≡ widened_from None false (fates_of marks lines)
    → unmarked slice lines ≡ remaining (fates_of marks lines)
unfolding remaining
pack-is marks {widened} lines same even are = rw (same, ← kept-lines _ _ even, are)
