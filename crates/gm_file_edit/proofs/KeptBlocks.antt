-- What widening takes away holds no directive, and the lines that are left are in the blocks that they were in.
use Rattle.std.proofs.Common.{◌≡◌, ℕ, ◌&&◌, not, Bool, true, false, List, [], ◌∷◌, length, Option, Some, None, is_some, refl, sym, ap, ◌∙◌, arith, inl, inr}
use Rattle.std.specs.Prelude.{⊤}
use Rattle.std.specs.List.{AllByRecursion, cons_option}
use Rattle.std.proofs.lemmas.Bool.{cases_Bool}
use Rattle.gm_marked_items.specs.Unmarked.{unmarked}
use Rattle.gm_name.proofs.NameTests.{and_both}
use Rattle.gm_syntax_words.specs.Tokens.{Placed}
use Rattle.gm_syntax.specs.Document.{Line, Blank, Comment, Open, Close, Entry}
use Rattle.gm_file.specs.Directives.{block_after_line, block_after_lines, item_at, with_blocks_from}
use Rattle.gm_file_edit.specs.Fates.{Fate, empties, is_emptied, kept_lines, remaining, widened_from}
use Rattle.gm_file_edit.specs.Private.Marks.{AreAtEntries, fates_of}
use Rattle.gm_file_edit.proofs.Pairs.{Seat, held_at, held_in}
use Rattle.gm_file_edit.proofs.Walking.{level-line}

-- of the other lines, each in its block, some are left out, which hold no directive
pub data AreFewer : List Seat → List Seat → Type 0 where
  nothing : AreFewer [] []
  stays : {left old : List Seat} (seat : Seat) → AreFewer left old → AreFewer (seat ∷ left) (seat ∷ old)
  goes : {left old : List Seat} (seat : Seat) → held_at seat ≡ None → AreFewer left old → AreFewer left (seat ∷ old)

pub fewer-held : {left old : List Seat} → AreFewer left old → held_in left ≡ held_in old
fewer-held nothing = refl
fewer-held (stays seat rest) = ap (cons_option (held_at seat)) (fewer-held rest)
fewer-held (goes {left} {old} seat silent rest) = fewer-held rest ∙ sym (rw silent)

pub fewer-all : {left old : List Seat} (P : Seat → Type 0) → AreFewer left old → AllByRecursion P old → AllByRecursion P left
fewer-all P nothing all = tt
fewer-all P (stays seat rest) all = (all.0, fewer-all _ rest all.1)
fewer-all P (goes seat silent rest) all = fewer-all _ rest all.1

-- such lines, which end outside blocks if the others do
abbrev AreLeft : Option Placed → List (Line Placed) → Option Placed → List (Line Placed) → Type 0
AreLeft after left before old = AreFewer (with_blocks_from after left) (with_blocks_from before old)
    × (block_after_lines before old ≡ None → block_after_lines after left ≡ None)

same-first : (block : Option Placed) (line : Line Placed) (left old : List (Line Placed))
    → AreLeft (block_after_line block line) left (block_after_line block line) old
    → AreLeft block (line ∷ left) block (line ∷ old)
same-first block line left old is = (stays _ is.0, is.1)

gone-first : (after block : Option Placed) (line : Line Placed) (left old : List (Line Placed))
    → held_at (block, line) ≡ None → AreLeft after left (block_after_line block line) old
    → AreLeft after left block (line ∷ old)
gone-first after block line left old silent is = (goes _ silent is.0, is.1)

-- a block that goes is emptied by the lines from here on
abbrev Going : Bool → List Fate → Type 0
Going false fates = ⊤
Going true fates = (lost : Bool) × (empties lost fates ≡ true)

-- the block that is open before the lines that are left: none, if the open block goes
abbrev left_block : Bool → Option Placed → Option Placed
left_block true block = None
left_block false block = block

going-gone : (going : Bool) (fates : List Fate) → Going going (None ∷ fates) → Going going fates
going-gone false fates is = tt
going-gone true fates is = (true, is.1)

going-opened : (suffix : Option (List ℕ)) (fates : List Fate) → is_emptied None suffix fates ≡ true → Going true fates
going-opened suffix fates e = (false, (and_both _ _ e).1)

-- the open block, if any, goes or stays
abbrev known_block : Option Placed → Bool → Option Bool
known_block None gone = None
known_block (Some verb) gone = Some gone

left-lines : (block : Option Placed) (gone behind : Bool) (fates : List Fate) → Going (is_some block && gone) fates
    → AreLeft (left_block (is_some block && gone) block) (kept_lines (widened_from (known_block block gone) behind fates)) block (kept_lines fates)
unfolding item_at
left-lines None gone behind [] is = (nothing, λ e. e)
left-lines (Some verb) false behind [] is = (nothing, λ e. e)
left-lines (Some verb) true behind [] is = absurd cc
left-lines block gone behind (None ∷ fates) is = left-lines block gone behind fates (going-gone _ _ is)
left-lines None gone false (Some Blank ∷ fates) is = same-first None _ _ _ (left-lines None false false fates tt)
left-lines None gone true (Some Blank ∷ fates) is = gone-first None None _ _ _ refl (left-lines None false false fates tt)
left-lines (Some verb) false false (Some Blank ∷ fates) is = same-first _ _ _ _ (left-lines (Some verb) false false fates tt)
left-lines (Some verb) false true (Some Blank ∷ fates) is = gone-first _ _ _ _ _ refl (left-lines (Some verb) false false fates tt)
left-lines (Some verb) true behind (Some Blank ∷ fates) is = gone-first None _ _ _ _ refl (left-lines (Some verb) true false fates is)
left-lines None gone behind (Some (Comment text) ∷ fates) is = same-first None _ _ _ (left-lines None false false fates tt)
left-lines (Some verb) false behind (Some (Comment text) ∷ fates) is = same-first _ _ _ _ (left-lines (Some verb) false false fates tt)
left-lines (Some verb) true behind (Some (Comment text) ∷ fates) is = absurd cc
left-lines None gone behind (Some (Open verb suffix) ∷ fates) is = elim (cases_Bool (is_emptied None suffix fates)) [
  | inl empty ↦ rw empty (gone-first None None (Open verb suffix) _ _ refl (left-lines (Some verb) true false fates (going-opened suffix fates empty)))
  | inr still ↦ rw still (same-first None (Open verb suffix) _ _ (left-lines (Some verb) false false fates tt))
]
left-lines (Some outer) false behind (Some (Open verb suffix) ∷ fates) is =
    same-first _ _ _ _ (left-lines (Some verb) false false fates tt)
left-lines (Some outer) true behind (Some (Open verb suffix) ∷ fates) is = absurd cc
left-lines None gone behind (Some (Close suffix) ∷ fates) is = same-first None _ _ _ (left-lines None false false fates tt)
left-lines (Some verb) false behind (Some (Close suffix) ∷ fates) is = same-first _ _ _ _ (left-lines None false false fates tt)
left-lines (Some verb) true behind (Some (Close suffix) ∷ fates) is = gone-first None _ _ _ _ refl (left-lines None false true fates tt)
left-lines None gone behind (Some (Entry words suffix) ∷ fates) is = same-first None _ _ _ (left-lines None false false fates tt)
left-lines (Some verb) false behind (Some (Entry words suffix) ∷ fates) is =
    same-first _ _ _ _ (left-lines (Some verb) false false fates tt)
left-lines (Some verb) true behind (Some (Entry words suffix) ∷ fates) is = absurd cc

-- of the lines without a mark, widening leaves out some that hold no directive
pub remaining-left : (fates : List Fate) → AreFewer (with_blocks_from None (remaining fates))
    (with_blocks_from None (kept_lines fates)) × (block_after_lines None (kept_lines fates) ≡ None
    → block_after_lines None (remaining fates) ≡ None)
unfolding remaining
remaining-left fates = left-lines None false false fates tt

-- ---- the lines that are left, in their blocks

-- the items without a mark, by the fates of lines
abbrev kept_by : {X : Type 0} → List Fate → List X → List X
kept_by [] items = []
kept_by (fate ∷ fates) [] = []
kept_by (None ∷ fates) (item ∷ items) = kept_by fates items
kept_by (Some line ∷ fates) (item ∷ items) = item ∷ kept_by fates items

kept-unmarked : {X : Type 0} (marks : List Bool) (lines : List (Line Placed)) (items : List X) → length marks ≡ length lines
    → kept_by (fates_of marks lines) items ≡ unmarked marks items
kept-unmarked [] lines items even = refl
kept-unmarked (mark ∷ marks) [] items even = absurd (omega (arith, even))
kept-unmarked (true ∷ marks) (line ∷ lines) [] even = refl
kept-unmarked (false ∷ marks) (line ∷ lines) [] even = refl
kept-unmarked (true ∷ marks) (line ∷ lines) (item ∷ items) even = kept-unmarked marks lines items (omega (arith, even))
kept-unmarked (false ∷ marks) (line ∷ lines) (item ∷ items) even = rw (kept-unmarked marks lines items (omega (arith, even)))

pub kept-lines : (marks : List Bool) (lines : List (Line Placed)) → length marks ≡ length lines → kept_lines (fates_of marks lines) ≡ unmarked marks lines
kept-lines [] [] even = refl
kept-lines [] (line ∷ lines) even = absurd (omega (arith, even))
kept-lines (mark ∷ marks) [] even = absurd (omega (arith, even))
kept-lines (true ∷ marks) (line ∷ lines) even = kept-lines marks lines (omega (arith, even))
kept-lines (false ∷ marks) (line ∷ lines) even = rw (kept-lines marks lines (omega (arith, even)))

left-seats : (block : Option Placed) (gone behind : Bool) (marks : List Bool) (lines : List (Line Placed)) → AreAtEntries marks lines
    → Going (is_some block && gone) (fates_of marks lines)
    → with_blocks_from (left_block (is_some block && gone) block) (kept_lines (widened_from (known_block block gone) behind (fates_of marks lines)))
    ≡ kept_by (widened_from (known_block block gone) behind (fates_of marks lines)) (with_blocks_from block lines)
left-seats block gone behind [] [] at is = refl
left-seats block gone behind [] (line ∷ lines) at is = absurd at
left-seats block gone behind (mark ∷ marks) [] at is = absurd at
left-seats block gone behind (true ∷ marks) (line ∷ lines) at is =
    rw (level-line _ _ (ap not at.0)) (left-seats block gone behind marks lines at.1 (going-gone _ _ is))
left-seats None gone false (false ∷ marks) (Blank ∷ lines) at is = rw (left-seats None false false marks lines at tt)
left-seats None gone true (false ∷ marks) (Blank ∷ lines) at is = left-seats None false false marks lines at tt
left-seats (Some verb) false false (false ∷ marks) (Blank ∷ lines) at is = rw (left-seats (Some verb) false false marks lines at tt)
left-seats (Some verb) false true (false ∷ marks) (Blank ∷ lines) at is = left-seats (Some verb) false false marks lines at tt
left-seats (Some verb) true behind (false ∷ marks) (Blank ∷ lines) at is = left-seats (Some verb) true false marks lines at is
left-seats None gone behind (false ∷ marks) (Comment text ∷ lines) at is = rw (left-seats None false false marks lines at tt)
left-seats (Some verb) false behind (false ∷ marks) (Comment text ∷ lines) at is = rw (left-seats (Some verb) false false marks lines at tt)
left-seats (Some verb) true behind (false ∷ marks) (Comment text ∷ lines) at is = absurd cc
left-seats None gone behind (false ∷ marks) (Open verb suffix ∷ lines) at is = elim (cases_Bool (is_emptied None suffix (fates_of marks lines))) [
  | inl empty ↦ rw empty (left-seats (Some verb) true false marks lines at (going-opened suffix (fates_of marks lines) empty))
  | inr still ↦ rw (still, left-seats (Some verb) false false marks lines at tt)
]
left-seats (Some outer) false behind (false ∷ marks) (Open verb suffix ∷ lines) at is = rw (left-seats (Some verb) false false marks lines at tt)
left-seats (Some outer) true behind (false ∷ marks) (Open verb suffix ∷ lines) at is = absurd cc
left-seats None gone behind (false ∷ marks) (Close suffix ∷ lines) at is = rw (left-seats None false false marks lines at tt)
left-seats (Some verb) false behind (false ∷ marks) (Close suffix ∷ lines) at is = rw (left-seats None false false marks lines at tt)
left-seats (Some verb) true behind (false ∷ marks) (Close suffix ∷ lines) at is = left-seats None false true marks lines at tt
left-seats None gone behind (false ∷ marks) (Entry words suffix ∷ lines) at is = rw (left-seats None false false marks lines at tt)
left-seats (Some verb) false behind (false ∷ marks) (Entry words suffix ∷ lines) at is = rw (left-seats (Some verb) false false marks lines at tt)
left-seats (Some verb) true behind (false ∷ marks) (Entry words suffix ∷ lines) at is = absurd cc

-- the lines without a widened mark stay in their blocks
pub in-blocks : (marks widened : List Bool) (lines : List (Line Placed)) → AreAtEntries marks lines → length widened ≡ length lines
    → fates_of widened lines ≡ widened_from None false (fates_of marks lines)
    → with_blocks_from None (unmarked widened lines) ≡ unmarked widened (with_blocks_from None lines)
in-blocks marks widened lines at even are =
    let seats = with_blocks_from None lines in
    ap (with_blocks_from None) (sym (kept-lines widened lines even) ∙ ap kept_lines are) ∙ left-seats None false false marks lines at tt
    ∙ rw (← are) (kept-unmarked widened lines seats even)
