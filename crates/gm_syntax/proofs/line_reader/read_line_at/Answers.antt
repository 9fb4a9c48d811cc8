use Rattle.std.proofs.lemmas.Result.{err_from_is_err_and}
use Rattle.gm_syntax_words.specs.Tokens.{comment_of, words_of}
use Rattle.gm_syntax_words.proofs.WordPlaces.{stand_take}
use Rattle.gm_syntax.specs.LineViews.{line_of, plain}
use Rattle.gm_syntax.proofs.Filling.{line_filled}
use Rattle.gm_syntax.proofs.OneLine.{one_line, one_misplaced, read_fault}
use Rattle.gm_syntax.proofs.line_reader.read_line_at.Goals as goal

pub returns-in_err-parts-clause-read : goal.returns-in_err-parts-clause-read
returns-in_err-parts-clause-read c =
    let told = err_from_is_err_and c.from_residual.result c.from_residual.ensures.1 in
    rw (told.1, told.2) (read_fault c.args.place.inside c.args.text.now c.in_err-parts.field-0.0 c.in_err-parts.ensures.read)

pub returns-in-Ok-clause-read : goal.returns-in-Ok-clause-read
returns-in-Ok-clause-read c = one_line c.args.place.inside c.args.text.now (words_of c.in_ok-parts.parts.words.items)
    (comment_of c.in_ok-parts.parts.comment) c.in_ok-parts.ensures.read (plain (line_of c.in-Ok.line))
    (rw c.is_inside.ensures at c.in-Ok.ensures.class)

pub returns-in-Ok-clause-placed : goal.returns-in-Ok-clause-placed
returns-in-Ok-clause-placed c = λ source after whole.
    rw c.in-Ok.ensures.tokens
    (stand_take source _ _ _
    _ (c.in_ok-parts.ensures.placed source after whole))

pub returns-in-Ok-clause-filled : goal.returns-in-Ok-clause-filled
returns-in-Ok-clause-filled c = line_filled _ _ _
    _ _ _
    (rw c.is_inside.ensures at c.in-Ok.ensures.class) c.in-Ok.ensures.tokens c.in_ok-parts.ensures.filled

pub returns-in-Err-clause-read : goal.returns-in-Err-clause-read
returns-in-Err-clause-read c = one_misplaced c.args.place.inside c.args.text.now
    (words_of c.in_ok-parts.parts.words.items) (comment_of c.in_ok-parts.parts.comment) c.in_ok-parts.ensures.read
    c.in-Err.kind (rw c.is_inside.ensures at c.in-Err.ensures.class)
