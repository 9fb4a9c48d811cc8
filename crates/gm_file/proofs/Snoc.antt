-- The directives and the faults of lines after one more line.
use Rattle.std.proofs.Common.{◌≡◌, suc, ◌+◌, List, [], ◌∷◌, ◌++◌, length, map, Option, None, refl, sym, ap, ◌∙◌, append_assoc, append-nil}
use Rattle.std.proofs.lemmas.Grind.{flat_map-append}
use Rattle.std.proofs.lemmas.List.Elements.{filter_map-append}
use Rattle.std.specs.List.{filter_map, flat_map}
use Rattle.gm_syntax_words.specs.Words.{Word}
use Rattle.gm_syntax.specs.Document.{Line}
use Rattle.gm_file.specs.Directives.{Mode, LineInBlock, block_after_lines, block_after_line, directives, item_at, directive_said, with_blocks, with_blocks_from}
use Rattle.gm_file.specs.Faults.{faults, faults_after, item_kinds, with_before, with_before_from}

pub with_blocks-snoc : {W : Type 0} (block : Option W) (lines more : List (Line W))
    → with_blocks_from block (lines ++ more) ≡ with_blocks_from block lines
    ++ with_blocks_from (block_after_lines block lines) more
with_blocks-snoc block [] more = refl
with_blocks-snoc block (line ∷ lines) more = rw (with_blocks-snoc (block_after_line block line) lines more)

before-snoc : {X : Type 0} (before xs : List X) (x : X) → with_before_from before (xs ++ x ∷ []) ≡ with_before_from before xs ++ (before ++ xs, x) ∷ []
before-snoc before [] x = ap (λ b. (b, x) ∷ []) (sym (append-nil before))
before-snoc {X} before (y ∷ xs) x =
    rw (before-snoc (before ++ y ∷ []) xs x
    ∙ ap (λ (b : List X). with_before_from (before ++ y ∷ []) xs ++ (b, x) ∷ []) (append_assoc before _ _))

pub length-with_blocks : {W : Type 0} (block : Option W) (lines : List (Line W)) → length (with_blocks_from block lines) ≡ length lines
length-with_blocks block [] = refl
length-with_blocks block (line ∷ lines) = ap suc (length-with_blocks (block_after_line block line) lines)

-- the directives after one more line
pub directives-snoc : (mode : Mode) (lines : List (Line Word)) (line : Line Word)
    → directives mode (lines ++ line ∷ []) ≡ directives mode lines ++ filter_map (directive_said mode) ((block_after_lines None lines, line) ∷ [])
directives-snoc mode lines line =
    ap (filter_map (directive_said mode)) (with_blocks-snoc None _ _) ∙ filter_map-append (directive_said mode) _ _

-- the faults after one more line: those of the lines before it, and then its own
pub faults-snoc : (mode : Mode) (lines : List (Line Word)) (line : Line Word)
    → faults mode (lines ++ line ∷ []) ≡ faults mode lines
    ++ map (λ kind. (length lines + 1, kind)) (item_kinds mode (directives mode lines)
    (item_at (block_after_lines None lines, line)))
unfolding faults
faults-snoc mode lines line =
    let seat : LineInBlock Word = (block_after_lines None lines, line) in
    rw (with_blocks-snoc None lines (line ∷ [])) (ap (flat_map (faults_after mode)) (before-snoc [] (with_blocks lines) seat)
    ∙ flat_map-append (faults_after mode) (with_before (with_blocks lines)) ((with_blocks lines, seat) ∷ [])
    ∙ rw (append-nil (faults_after mode (with_blocks lines, seat))) (rw (length-with_blocks None _)))
