-- Lines walked over by their keys.
use Rattle.std.proofs.Common.{◌≡◌, ℕ, zero, suc, ◌+◌, ◌<◌, not, false, List, [], ◌∷◌, length, drop, take, Option, None, refl, arith}
use Rattle.std.proofs.lemmas.List.{get_or_default, take_more}
use Rattle.gm_marked_items.proofs.Kept.{drop-next}
use Rattle.gm_syntax_words.specs.Tokens.{Placed}
use Rattle.gm_syntax.specs.Document.{Line, Blank, Comment, Open, Close, Entry}
use Rattle.gm_file.specs.Directives.{block_after_line, block_after_lines}
use Rattle.gm_file_edit.specs.Holding.{is_loose}
use Rattle.gm_file_edit.specs.Private.Marks.{line_at}
use Rattle.gm_file_edit.proofs.Pairs.{AreRightFrom, IsRightLine, block-append}

-- the line at an index, before the others
pub line-here : (whole : List (Line Placed)) (n : ℕ) → n < length whole → drop n whole ≡ line_at whole n ∷ drop (n + 1) whole
line-here whole n lt = drop-next _ _ _ lt (get_or_default whole n Blank (line_at whole n) lt)

-- a line of a file is right in its block
pub right-at : (block : Option Placed) (lines : List (Line Placed)) (n : ℕ) → n < length lines
    → AreRightFrom block lines → IsRightLine (block_after_lines block (take n lines), line_at lines n)
right-at block [] n lt right = absurd (omega (arith, lt))
right-at block (line ∷ lines) zero lt right = right.0
right-at block (line ∷ lines) (suc n) lt right = right-at (block_after_line block line) lines n (omega (arith, lt)) right.1

-- ---- the open block

-- a line that neither opens nor closes a block
pub level-line : (block : Option Placed) (line : Line Placed) → not (is_loose line) ≡ false → block_after_line block line ≡ block
level-line block Blank level = refl
level-line block (Comment text) level = refl
level-line block (Open verb suffix) level = absurd cc
level-line block (Close suffix) level = absurd cc
level-line block (Entry words suffix) level = refl

-- the block after one more line
pub block-next : (lines : List (Line Placed)) (n : ℕ) → n < length lines
    → block_after_lines None (take (n + 1) lines) ≡ block_after_line (block_after_lines None (take n lines))
    (line_at lines n)
block-next lines n lt = rw (take_more _ _ Blank lt) (block-append None (take n lines) (line_at lines n ∷ []))
