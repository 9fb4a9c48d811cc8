use Rattle.std.proofs.Common.{◌≡◌, ◌∷◌, ◌++◌, append_assoc, take, drop, ap, sym, ◌∙◌, arith}
use Rattle.std.specs.Str.{IsCharBoundary}
use Rattle.std.proofs.iter.FirstChar.{cut}
use Rattle.std.proofs.lemmas.List.{nil_from_length, take-append-drop}
use Rattle.std.proofs.lemmas.Bool.{eqb-true, eqb-false}
use Rattle.gm_syntax_words.specs.Lines.{lines_of}
use Rattle.gm_syntax_words.proofs.WordPlaces.{suffix_of}
use Rattle.gm_syntax.specs.Private.Reader.{line_len}
use Rattle.gm_syntax.proofs.Lines.{CutLine, CutLine-line_len, line_boundary, past_boundary}
use Rattle.gm_syntax.proofs.line_reader.split_first_line.Goals as goal
use Rattle.gm_syntax.proofs.line_reader.split_first_line.Goals.{After-split_at}

len_is : (c : After-split_at) → c.line_len.result ≡ line_len c.args.text.now
len_is c = c.line_len.ensures ∙ ap line_len c.as_bytes.ensures.value

cut_is : (c : After-split_at) → CutLine c.args.text.now c.split_at.result.0.now c.split_at.result.1.now
cut_is c = CutLine-line_len _ _ _ c.requires
    (c.split_at.ensures.front ∙ ap (λ n. take n c.args.text.now) (len_is c))
    (c.split_at.ensures.back ∙ ap (λ n. drop n c.args.text.now) (len_is c))

pub split_at-requires : goal.split_at-requires
split_at-requires c = rw (c.line_len.ensures ∙ ap line_len c.as_bytes.ensures.value) (line_boundary c.args.text.now c.utf8.text)

pub returns-then-is_empty-clause-lines : goal.returns-then-is_empty-clause-lines
returns-then-is_empty-clause-lines c =
    let empty = nil_from_length c.split_at.result.1.now (eqb-true _ 0 (sym c.is_empty.ensures ∙ c.if-is_empty.true)) in
    (cut_is (goal.at.returns-then-is_empty-clause-lines c).After-split_at).lines
    ∙ ap (λ l. c.split_at.result.0.now ∷ lines_of (drop 1 l)) empty
    ∙ sym (ap (λ l. c.split_at.result.0.now ∷ lines_of l) empty)

pub returns-then-is_empty-clause-no_line_feed : goal.returns-then-is_empty-clause-no_line_feed
returns-then-is_empty-clause-no_line_feed c = (cut_is (goal.at.returns-then-is_empty-clause-no_line_feed c).After-split_at).no_line_feed

pub split_at-requires-2 : goal.split_at-requires-2
split_at-requires-2 c =
    let k = (goal.at.split_at-requires-2 c).After-split_at in
    let len = len_is k in
    let boundary : IsCharBoundary c.args.text.now c.line_len.result =
    rw len (line_boundary c.args.text.now c.utf8.text) in
    past_boundary _ (rw c.split_at.ensures.back
    (cut c.args.text.now c.line_len.result c.utf8.text boundary).1)
    (omega (arith, eqb-false _ 0 (sym c.is_empty.ensures ∙ c.if-is_empty.false))) (cut_is k).ended

pub returns-clause-lines : goal.returns-clause-lines
returns-clause-lines c = (cut_is (goal.at.returns-clause-lines c).After-split_at).lines
    ∙ ap (λ l. c.split_at.result.0.now ∷ lines_of l) (sym c.split_at-2.ensures.back)

pub returns-clause-no_line_feed : goal.returns-clause-no_line_feed
returns-clause-no_line_feed c = (cut_is (goal.at.returns-clause-no_line_feed c).After-split_at).no_line_feed

pub returns-clause-front : goal.returns-clause-front
returns-clause-front c = (c.split_at.result.1.now, (cut_is (goal.at.returns-clause-front c).After-split_at).parts)

pub returns-clause-suffix : goal.returns-clause-suffix
returns-clause-suffix c =
    let parts = (cut_is (goal.at.returns-clause-suffix c).After-split_at).parts in
    let next = c.split_at-2.result.1.now in
    let after =
    sym (take-append-drop 1 c.split_at.result.1.now) ∙ ap (λ l. take 1 c.split_at.result.1.now ++ l)
    (sym c.split_at-2.ensures.back) in
    suffix_of _ _ next
    (parts ∙ ap (λ l. c.split_at.result.0.now ++ l) after
    ∙ sym (append_assoc c.split_at.result.0.now (take 1 c.split_at.result.1.now) next))
