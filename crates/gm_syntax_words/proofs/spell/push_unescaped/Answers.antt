use Rattle.std.proofs.Common.{◌≡◌, ℕ, List, [], ◌++◌, ◌<◌, length, IsUtf8, ap, subst, sym, ◌∙◌, arith}
use Rattle.std.specs.Str.{IsCharBoundary}
use Rattle.std.specs.String.{string_bytes}
use Rattle.std.proofs.iter.FirstChar.{cut}
use Rattle.std.proofs.lemmas.Bool.{eqb-true, eqb-false}
use Rattle.std.proofs.lemmas.List.{append-nil, nil_from_length}
use Rattle.gm_syntax_words.specs.Words.{escaped_value}
use Rattle.gm_syntax_words.specs.Private.Scan.{plain_len}
use Rattle.gm_syntax_words.proofs.Spelled.{PlainCut, plain_cut, EscapeAt, Escape, escape_at, escape_of, next_marked, escape_pushed, plain_boundary, mark_boundary}
use Rattle.gm_syntax_words.proofs.spell.push_unescaped.Goals as goal
use Rattle.gm_syntax_words.proofs.spell.push_unescaped.Goals.{After-split_at}

len_is : (c : After-split_at) → c.plain_len.result ≡ plain_len c.args.rest.now
len_is c = c.plain_len.ensures.value ∙ ap plain_len c.as_bytes.ensures.value

cut_is : (c : After-split_at) → PlainCut c.args.rest.now c.split_at.result.0.now c.split_at.result.1.now
cut_is c = plain_cut (len_is c) c.split_at.ensures.front c.split_at.ensures.back

pub split_at-requires : goal.split_at-requires
split_at-requires c = rw (c.plain_len.ensures.value ∙ ap plain_len c.as_bytes.ensures.value)
    (plain_boundary _ c.utf8.rest)

after_utf8 : (c : After-split_at) → IsUtf8 c.split_at.result.1.now
after_utf8 c =
    let boundary : IsCharBoundary c.args.rest.now c.plain_len.result =
    rw (len_is c) (plain_boundary _ c.utf8.rest) in
    rw c.split_at.ensures.back (cut c.args.rest.now c.plain_len.result c.utf8.rest boundary).1

pub returns-then-is_empty-clause-pushed : goal.returns-then-is_empty-clause-pushed
returns-then-is_empty-clause-pushed c = λ value e.
    let k = (goal.at.returns-then-is_empty-clause-pushed c).After-split_at in
    let old = string_bytes c.args.out.now in
    let empty = nil_from_length c.split_at.result.1.now (eqb-true _ 0 (sym c.is_empty.ensures ∙ c.if-is_empty.true)) in
    let whole = subst (EscapeAt value c.split_at.result.0.now) empty (escape_at (cut_is k) value e) in
    ([], empty, append-nil (string_bytes c.push_str.new.self) ∙ c.in_ok-push_str.ensures.bytes ∙ ap (λ l. old ++ l) (sym whole))

pub split_at-requires-2 : goal.split_at-requires-2
split_at-requires-2 c =
    let k = (goal.at.split_at-requires-2 c).After-split_at in
    mark_boundary _ (after_utf8 k) (omega (arith, eqb-false _ 0 (sym c.is_empty.ensures ∙ c.if-is_empty.false))) (cut_is k).marked

here : (c : After-split_at) (value : List ℕ) → c.args.rest.now ≡ escaped_value value
    → 0 < length c.split_at.result.1.now → Escape value c.split_at.result.0.now c.split_at.result.1.now
here c value e filled = escape_of value _ _ filled (escape_at (cut_is c) value e)

pub split_at-requires-3 : goal.split_at-requires-3
split_at-requires-3 c =
    let k = (goal.at.split_at-requires-3 c).After-split_at in
    let after = c.split_at.result.1.now in
    let filled : 0 < length after = omega (arith, eqb-false _ 0 (sym c.is_empty.ensures ∙ c.if-is_empty.false)) in
    let m = next_marked (here k c.requires.is_escaped.0 c.requires.is_escaped.1 filled) c.split_at-2.ensures.back in
    let utf8 : IsUtf8 c.split_at-2.result.1.now = rw c.split_at-2.ensures.back
    (cut after 1 (after_utf8 k) (mark_boundary after (after_utf8 k) filled (cut_is k).marked)).1 in
    mark_boundary _ utf8 m.0 m.1

pub returns-clause-pushed : goal.returns-clause-pushed
returns-clause-pushed c = λ value e.
    let k = (goal.at.returns-clause-pushed c).After-split_at in
    let filled : 0 < length c.split_at.result.1.now = omega (arith, eqb-false _ 0 (sym c.is_empty.ensures ∙ c.if-is_empty.false)) in
    escape_pushed _ (here k value e filled) c.split_at-2.ensures.back c.split_at-3.ensures.front c.split_at-3.ensures.back
    c.in_ok-push_str.ensures.bytes c.in_ok-push_str-2.ensures.bytes
