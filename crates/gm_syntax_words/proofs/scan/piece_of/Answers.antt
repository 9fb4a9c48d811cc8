use Rattle.std.proofs.Common.{ap, sym, ◌∙◌}
use Rattle.gm_syntax_words.specs.declared.scan.Piece.TheVariants.{Word}
use Rattle.gm_syntax_words.specs.declared.word.Kind.TheVariants.{Bare}
use Rattle.gm_syntax_words.specs.Bare.{bare_len}
use Rattle.gm_syntax_words.specs.Private.Scan.{piece_of}
use Rattle.gm_syntax_words.proofs.Steps.{plain_piece}
use Rattle.gm_syntax_words.proofs.scan.piece_of.Goals as goal

pub returns-then-is_plain : goal.returns-then-is_plain
returns-then-is_plain c =
    let bytes = c.in-Some.ensures.cases.0 in
    ap (Word Bare) (c.bare_len.ensures ∙ ap bare_len bytes)
    ∙ sym (ap (piece_of c.args.after_bare) bytes ∙ plain_piece _ _ _
    (sym c.is_plain.ensures ∙ c.if-is_plain.true))
