use Rattle.std.proofs.Common.{◌≡◌, ℕ, List, [], ◌∷◌, ◌++◌, ◌<◌, length, ap, sym, ◌∙◌, append_assoc, arith}
use Rattle.std.specs.Str.{IsCharBoundary}
use Rattle.std.specs.String.{string_bytes}
use Rattle.std.proofs.iter.FirstChar.{cut}
use Rattle.std.proofs.lemmas.Bool.{eqb-false}
use Rattle.gm_syntax_words.specs.Words.{escaped_value}
use Rattle.gm_syntax_words.specs.Private.Scan.{plain_len}
use Rattle.gm_syntax_words.proofs.Spelled.{PlainCut, plain_cut, plain_boundary, mark_boundary, escaped_parts, escaped_mark}
use Rattle.gm_syntax_words.proofs.spell.push_escaped_run.Goals as goal
use Rattle.gm_syntax_words.proofs.spell.push_escaped_run.Goals.{After-split_at}

len_is : (c : After-split_at) → c.plain_len.result ≡ plain_len c.args.rest.now
len_is c = c.plain_len.ensures.value ∙ ap plain_len c.as_bytes.ensures.value

cut_is : (c : After-split_at) → PlainCut c.args.rest.now c.split_at.result.0.now c.split_at.result.1.now
cut_is c = plain_cut (len_is c) c.split_at.ensures.front c.split_at.ensures.back

pub split_at-requires : goal.split_at-requires
split_at-requires c = rw (c.plain_len.ensures.value ∙ ap plain_len c.as_bytes.ensures.value)
    (plain_boundary _ c.utf8.rest)

pub returns-then-is_empty-clause-pushed : goal.returns-then-is_empty-clause-pushed
returns-then-is_empty-clause-pushed c =
    let old = string_bytes c.args.out.now in
    ap (λ l. l ++ escaped_value c.split_at.result.1.now) c.in_ok-push_str.ensures.bytes
    ∙ append_assoc old c.split_at.result.0.now (escaped_value c.split_at.result.1.now)
    ∙ ap (λ l. old ++ l) (sym (escaped_parts (cut_is (goal.at.returns-then-is_empty-clause-pushed c).After-split_at)))

pub split_at-requires-2 : goal.split_at-requires-2
split_at-requires-2 c =
    let k = (goal.at.split_at-requires-2 c).After-split_at in
    let boundary : IsCharBoundary c.args.rest.now c.plain_len.result =
    rw (len_is k) (plain_boundary _ c.utf8.rest) in
    mark_boundary _ (rw c.split_at.ensures.back
    (cut c.args.rest.now c.plain_len.result c.utf8.rest boundary).1)
    (omega (arith, eqb-false _ 0 (sym c.is_empty.ensures ∙ c.if-is_empty.false))) (cut_is k).marked

pub returns-clause-pushed : goal.returns-clause-pushed
returns-clause-pushed c =
    let k = (goal.at.returns-clause-pushed c).After-split_at in
    let old = string_bytes c.args.out.now in
    let plain = c.split_at.result.0.now in
    let after = c.split_at.result.1.now in
    let mark = c.split_at-2.result.0.now in
    let next = c.split_at-2.result.1.now in
    let slash : List ℕ = 92 ∷ [] in
    let pushed : string_bytes c.push_str-3.new.self ≡ ((old ++ plain) ++ slash) ++ mark =
    c.in_ok-push_str-3.ensures.bytes ∙ ap (λ l. l ++ mark) (c.in_ok-push_str-2.ensures.bytes ∙ ap (λ l. l ++ slash) c.in_ok-push_str.ensures.bytes) in
    let filled : 0 < length after = omega (arith, eqb-false _ 0 (sym c.is_empty.ensures ∙ c.if-is_empty.false)) in
    let escape : slash ++ (mark ++ escaped_value next) ≡ escaped_value after =
    rw (c.split_at-2.ensures.front, c.split_at-2.ensures.back) (sym (escaped_mark after filled (cut_is k).marked)) in
    ap (λ l. l ++ escaped_value next) pushed
    ∙ append_assoc ((old ++ plain) ++ slash) mark (escaped_value next)
    ∙ append_assoc (old ++ plain) slash (mark ++ escaped_value next)
    ∙ append_assoc old plain (slash ++ (mark ++ escaped_value next))
    ∙ ap (λ l. old ++ (plain ++ l)) escape
    ∙ ap (λ l. old ++ l) (sym (escaped_parts (cut_is k)))
