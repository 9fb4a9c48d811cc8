use Rattle.std.proofs.Common.{◌≡◌, ◌<◌, Bool, true, List, [], ◌∷◌, length, get_or, drop, ap, subst, sym, ◌∙◌, arith}
use Rattle.std.specs.Prelude.{◌&&◌, ◌≢◌}
use Rattle.std.proofs.lemmas.Bool.{eqb-false}
use Rattle.std.proofs.lemmas.List.{length-map}
use Rattle.gm_syntax_words.specs.Tokens.{Placed}
use Rattle.gm_syntax.specs.declared.line.Line as declared
use Rattle.gm_syntax.specs.Document.{Line, IsDocument, is_level}
use Rattle.gm_syntax.specs.LineViews.{line_of, plain, plain_lines, line_views}
use Rattle.gm_syntax.proofs.Changes.{level_lines_go_out}
use Rattle.gomod_tests.proofs.tests.documents.drop_first.Goals as goal

first_goes : (lines : List declared.Line) (first : declared.Line) → 0 < length lines → first ≡ get_or lines 0 first
    → is_level (plain (line_of first)) ≡ true → IsDocument (plain_lines (line_views lines))
    → IsDocument (plain_lines (drop 1 (line_views lines)))
first_goes [] first lt e k d = absurd (omega arith)
first_goes (line ∷ lines) first lt e k d =
    level_lines_go_out [] (plain (line_of line) ∷ []) (plain_lines (line_views lines)) d
    (ap (λ (b : Bool). b && true) (ap (λ (l : declared.Line). is_level (plain (line_of l))) (sym e) ∙ k))

pub remove_lines-requires-clause-document : goal.remove_lines-requires-clause-document
remove_lines-requires-clause-document c =
    let seen = c.lines-else-is_empty.ensures.lines in
    let before = c.lines.result.now in
    let after = c.lines-else-is_empty.result.now in
    let some : length before ≢ 0 = eqb-false (length before) 0 (sym c.is_empty.ensures ∙ c.if-is_empty.false) in
    let filled : 0 < length after = omega (arith, some, length-map before line_of, length-map after line_of, ap length (c.lines.ensures.lines ∙ sym seen)) in
    subst (λ (d : List (Line Placed)). IsDocument (plain_lines (drop 1 d))) seen
    (first_goes c.lines-else-is_empty.result.now c.index-lines-0.result filled c.index-lines-0.is
    (sym c.is_level.ensures ∙ c.if-not-is_level.false) (subst
    (λ (d : List (Line Placed)). IsDocument (plain_lines d)) (sym seen) c.lines-else-is_empty.ensures.document))
