-- Changes of lines and of their keys.
use Rattle.std.proofs.Common.{◌≡◌, ℕ, zero, suc, ◌+◌, ◌<◌, ◌≤◌, not, Bool, true, false, List, [], ◌∷◌, ◌++◌, length, map, take, drop, set, get_or, Option, None, refl, sym, arith, ap, ◌∙◌}
use Rattle.std.specs.Prelude.{insert}
use Rattle.std.proofs.lemmas.List.{get_or_default, length-map, map-append, map-set, take_all, take_more}
use Rattle.std.proofs.Math.ListN.{get_or-map}
use Rattle.gm_marked_items.specs.Unmarked.{unmarked}
use Rattle.gm_syntax_words.specs.Tokens.{Placed}
use Rattle.gm_syntax.proofs.Edits.{map-insert}
use Rattle.gm_syntax.specs.declared.line.Line as declared
use Rattle.gm_syntax.specs.declared.line.Line.TheVariants as variants
use Rattle.gm_syntax.specs.Document.{Line, Blank}
use Rattle.gm_syntax.specs.LineViews.{line_of, line_views}
use Rattle.gm_file.specs.Directives.{Strict, block_after_line, block_after_lines, item_at, with_blocks_from}
use Rattle.gm_file.specs.Faults.{item_kinds}
use Rattle.gm_file.proofs.Snoc.{with_blocks-snoc}
use Rattle.gm_file_edit.specs.Holding.{item_of, is_loose}
use Rattle.gm_file_edit.specs.declared.keys.Key.{Key}
use Rattle.gm_file_edit.specs.Private.Keys.{held_subject, key_at, key_with, keys_from}
use Rattle.gm_file_edit.specs.Private.Marks.{line_at}
use Rattle.gm_file_edit.proofs.Pairs.{IsSound, Seat}
use Rattle.gm_file_edit.proofs.Walking.{block-next, level-line, right-at}

abbrev seat_key : Seat → Key
seat_key seat = key_at seat.0 seat.1

-- there are as many keys as lines
keys-count : (block : Option Placed) (lines : List (Line Placed)) → length (keys_from block lines) ≡ length lines
keys-count block [] = refl
keys-count block (line ∷ lines) = ap suc (keys-count (block_after_line block line) lines)

long-keys : (lines : List declared.Line) {keys : List Key} → keys ≡ keys_from None (line_views lines) → length keys ≡ length lines
long-keys lines are = ap length are ∙ keys-count None _ ∙ length-map lines line_of

-- lines as they are seen, with their keys
abbrev IsKeyed : List declared.Line → List Key → List (Line Placed) → Type 0
IsKeyed lines keys seen = (line_views lines ≡ seen) × (keys ≡ keys_from None (line_views lines)) × (length keys ≡ length lines)

keyed : (lines : List declared.Line) {keys : List Key} {seen : List (Line Placed)} → line_views lines ≡ seen → keys ≡ keys_from None (line_views lines)
    → IsKeyed lines keys seen
keyed lines view are = (view, are, long-keys _ are)

keys-get : (block : Option Placed) (lines : List (Line Placed)) (n : ℕ) (key : Key) → n < length lines
    → get_or (keys_from block lines) n key ≡ key_at (block_after_lines block (take n lines)) (line_at lines n)
keys-get block [] n key lt = absurd (omega (arith, lt))
keys-get block (line ∷ lines) zero key lt = refl
keys-get block (line ∷ lines) (suc n) key lt = keys-get (block_after_line block line) lines n key (omega (arith, lt))

-- the key at an index
pub key-here : (lines : List declared.Line) {keys : List Key} {seen : List (Line Placed)} (n : ℕ) {key : Key} → key ≡ get_or keys n key
    → keys ≡ keys_from None (line_views lines) → line_views lines ≡ seen → n < length seen
    → key ≡ key_at (block_after_lines None (take n seen)) (line_at seen n)
key-here lines {seen} n {key} is are view lt = is ∙ rw (are, view) (keys-get None _ _ _ lt)

-- ---- lines that get their keys

-- Loop invariant: the block is the one that is open after the first lines, and these are their keys.
pub record AreKeyedTo (whole : List (Line Placed)) (n : ℕ) (block : Option Placed) (keys : List Key) : Type 0 where
  pub block_is : block ≡ block_after_lines None (take n whole)
  pub keys_are : keys ≡ keys_from None (take n whole)

-- a line that is seen
pub view-at : (lines : List declared.Line) (n : ℕ) {line : declared.Line} → n < length lines → line ≡ get_or lines n line
    → line_of line ≡ line_at (line_views lines) n
view-at lines n {line} lt is =
    let count = length-map lines line_of in
    ap line_of is ∙ sym (get_or-map line_of lines _ _) ∙ sym (get_or_default (line_views lines) n Blank (line_of line) (omega (arith, lt, count)))

pub valid-at : {whole : List (Line Placed)} {n : ℕ} {block : Option Placed} {keys : List Key} {line : Line Placed} → IsSound whole
    → n < length whole → line ≡ line_at whole n → AreKeyedTo whole n block keys → item_kinds Strict [] (item_of block line) ≡ []
valid-at {whole} {n} sound lt is so = rw (so.block_is, is) (right-at None _ _ lt sound.lines_are.right).1

pub keyed-more : {whole : List (Line Placed)} {n : ℕ} {block next : Option Placed} {keys more : List Key} {line : Line Placed} {key : Key}
    → n < length whole → line ≡ line_at whole n → key ≡ key_at block line → more ≡ keys ++ key ∷ [] → next ≡ block_after_line block line
    → AreKeyedTo whole n block keys → AreKeyedTo whole (n + 1) next more
keyed-more {whole} {n} lt is key_is pushed stepped so = record {
  block_is = rw (block-next _ _ lt, stepped, is, so.block_is);
  keys_are = rw (pushed, so.keys_are, key_is, is, so.block_is, take_more _ _ Blank lt)
      (sym (ap (map seat_key) (with_blocks-snoc None _ _)
      ∙ map-append _ _ _));
}

pub keyed-end : {whole : List (Line Placed)} {n : ℕ} {block : Option Placed} {keys : List Key} → length whole ≤ n
    → AreKeyedTo whole n block keys → keys ≡ keys_from None whole
keyed-end {whole} {n} over so = rw (take_all n whole over) at so.keys_are

pub count-end : (lines : List declared.Line) {n : ℕ} {block : Option Placed} {keys : List Key} → length lines ≤ n
    → AreKeyedTo (line_views lines) n block keys → length keys ≡ length lines
count-end lines over so = let count = length-map lines line_of in long-keys _ (keyed-end (omega (arith, over, count)) so)

-- ---- a line more

insert-keys : (block : Option Placed) (lines : List (Line Placed)) (at : ℕ) (line : Line Placed) → is_loose line ≡ true → at ≤ length lines
    → keys_from block (insert lines at line) ≡ insert (keys_from block lines) at (key_at (block_after_lines block (take at lines)) line)
insert-keys block lines zero line loose le = rw (level-line _ _ (ap not loose))
insert-keys block [] (suc at) line loose le = absurd (omega (arith, le))
insert-keys block (first ∷ lines) (suc at) line loose le = rw (insert-keys (block_after_line block first) lines at line loose (omega (arith, le)))

pub inserted : (lines : List declared.Line) {new : List declared.Line} {keys changed : List Key} {seen : List (Line Placed)} (at : ℕ) (line : declared.Line)
    {key : Key} → line_views lines ≡ seen → keys ≡ keys_from None (line_views lines) → at ≤ length seen → is_loose (line_of line) ≡ true
    → key ≡ key_at (block_after_lines None (take at seen)) (line_of line)
    → new ≡ insert lines at line → changed ≡ insert keys at key
    → IsKeyed new changed (insert seen at (line_of line))
inserted lines {new} n line view are le loose key_is put keys_put = keyed _
    (rw (put, ← view) (map-insert _ _ _ _))
    (rw (keys_put, put, are, key_is, map-insert _ _ _ _, view) (sym (insert-keys None _ _ _ loose le)))

insert-both : {X : Type 0} (xs : List X) (at : ℕ) (x y : X) → at ≤ length xs → insert (insert xs at y) at x ≡ take at xs ++ (x ∷ y ∷ drop at xs)
insert-both xs zero x y le = refl
insert-both [] (suc at) x y le = absurd (omega (arith, le))
insert-both (z ∷ xs) (suc at) x y le = rw (insert-both xs at x y (omega (arith, le)))

insert-front : {X : Type 0} (xs : List X) (at : ℕ) (x : X) → at ≤ length xs → take at (insert xs at x) ≡ take at xs
insert-front xs zero x le = refl
insert-front [] (suc at) x le = absurd (omega (arith, le))
insert-front (y ∷ xs) (suc at) x le = rw (insert-front xs at x (omega (arith, le)))

insert-len : {X : Type 0} (xs : List X) (at : ℕ) (x : X) → at ≤ length xs → at ≤ length (insert xs at x)
insert-len xs zero x le = omega arith
insert-len [] (suc at) x le = absurd (omega (arith, le))
insert-len (y ∷ xs) (suc at) x le = let more = insert-len xs at x (omega (arith, le)) in omega (arith, more)

-- a blank line and another one more
pub both-inserted : (lines : List declared.Line) {one new : List declared.Line} {keys first changed : List Key} {seen : List (Line Placed)} (at : ℕ)
    (line : declared.Line) {key : Key} → line_views lines ≡ seen → keys ≡ keys_from None (line_views lines) → at ≤ length seen
    → is_loose (line_of line) ≡ true → block_after_lines None (take at seen) ≡ None → key ≡ key_at None (line_of line)
    → one ≡ insert lines at line → first ≡ insert keys at key
    → new ≡ insert one at variants.Blank → changed ≡ insert first at (key_with (held_subject None) false)
    → IsKeyed new changed (take at seen ++ (Blank ∷ line_of line ∷ drop at seen))
unfolding item_at
both-inserted lines {one} {new} {seen} n line view are le loose outside key_is put keys_put blank keys_blank =
    let with_line = inserted _ _ _ view are le loose (rw outside key_is) put keys_put in
    let front : block_after_lines None (take n (insert seen n (line_of line))) ≡ None =
    ap (block_after_lines None) (insert-front _ _ _ le) ∙ outside in
    let both = inserted _ _ _ with_line.0 with_line.1 (insert-len _ _ _ le) refl (rw front refl) blank keys_blank in
    keyed _ (both.0 ∙ insert-both _ _ _ _ le) both.1

-- ---- another line

set-keys : (block : Option Placed) (lines : List (Line Placed)) (at : ℕ) (line : Line Placed) → at < length lines → is_loose (line_at lines at) ≡ true
    → is_loose line ≡ true
    → keys_from block (set lines at line) ≡ set (keys_from block lines) at (key_at (block_after_lines block (take at lines)) line)
set-keys block [] at line lt was loose = absurd (omega (arith, lt))
set-keys block (first ∷ lines) zero line lt was loose = rw (level-line _ _ (ap not was), level-line _ _ (ap not loose))
set-keys block (first ∷ lines) (suc at) line lt was loose = rw (set-keys (block_after_line block first) lines at line (omega (arith, lt)) was loose)

pub replaced : (lines : List declared.Line) {new : List declared.Line} {keys changed : List Key} {seen : List (Line Placed)}
    (at : ℕ) (line : declared.Line) {key : Key} → line_views lines ≡ seen → keys ≡ keys_from None (line_views lines)
    → at < length seen → is_loose (line_at seen at) ≡ true → is_loose (line_of line) ≡ true
    → key ≡ key_at (block_after_lines None (take at seen)) (line_of line) → new ≡ set lines at line → changed ≡ set keys at key
    → IsKeyed new changed (set seen at (line_of line))
replaced lines {new} n line view are lt was loose key_is put keys_put = keyed _
    (rw (put, ← view) (map-set line_of _ _ _))
    (rw (keys_put, put, are, key_is, map-set line_of _ _ _, view) (sym (set-keys None _ _ _ lt was loose)))

-- ---- fewer lines

unmarked-map : {X Y : Type 0} (f : X → Y) (marks : List Bool) (items : List X) → map f (unmarked marks items) ≡ unmarked marks (map f items)
unmarked-map f [] items = refl
unmarked-map f (mark ∷ marks) [] = refl
unmarked-map f (true ∷ marks) (item ∷ items) = unmarked-map f marks items
unmarked-map f (false ∷ marks) (item ∷ items) = rw (unmarked-map f marks items)

pub removed : (lines : List declared.Line) {new : List declared.Line} {keys changed : List Key} {seen : List (Line Placed)} (marks : List Bool)
    → line_views lines ≡ seen → keys ≡ keys_from None (line_views lines)
    → with_blocks_from None (unmarked marks seen) ≡ unmarked marks (with_blocks_from None seen)
    → new ≡ unmarked marks lines → changed ≡ unmarked marks keys
    → IsKeyed new changed (unmarked marks seen)
removed lines {new} {seen} marks view are stay cut keys_cut =
    let left : line_views new ≡ unmarked marks seen = rw (cut, ← view) (unmarked-map line_of marks lines) in
    keyed _ left (rw (keys_cut, are, left, view) (sym (ap (map seat_key) stay ∙ unmarked-map seat_key marks (with_blocks_from None seen))))
