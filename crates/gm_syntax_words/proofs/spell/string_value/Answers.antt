use Rattle.std.proofs.Common.{IsUtf8, refl, ap, sym, ◌∙◌}
use Rattle.std.proofs.iter.FirstChar.{cut}
use Rattle.gm_syntax_words.specs.Private.Scan.{plain_len}
use Rattle.gm_syntax_words.proofs.Spelled.{Inside, inside_at, first_boundary, last_boundary, raw_string, in_quotes_of, quoted_string, plain_all}
use Rattle.gm_syntax_words.proofs.spell.string_value.Goals as goal
use Rattle.gm_syntax_words.proofs.spell.string_value.Goals.{After-split_at-2}

whole : (c : After-split_at-2) → Inside c.args.text.now c.split_at.result.1.now c.split_at-2.result.0.now c.requires.0
whole c = inside_at _ _ _ _ c.requires.1
    c.split_at.ensures.back c.split_at-2.ensures.front

pub split_at-requires : goal.split_at-requires
split_at-requires c = first_boundary _ _ _ _ (inside_at _ _ _ _ c.requires.1 refl refl) c.utf8.text

pub split_at-requires-2 : goal.split_at-requires-2
split_at-requires-2 c =
    let rest = c.split_at.result.1.now in
    let i = inside_at _ _ rest _ c.requires.1 c.split_at.ensures.back refl in
    let utf8 : IsUtf8 rest = rw c.split_at.ensures.back (cut c.args.text.now 1 c.utf8.text (first_boundary _ _ _ _ i c.utf8.text)).1 in
    last_boundary _ rest _ _ i utf8

pub returns-then-as_bytes-eq96 : goal.returns-then-as_bytes-eq96
returns-then-as_bytes-eq96 c = raw_string _ _ _ _ (whole (goal.at.returns-then-as_bytes-eq96 c).After-split_at-2)
    (rw (← c.as_bytes.ensures.value) c.if-as_bytes-eq96.true)

pub returns-then-plain_len-inside : goal.returns-then-plain_len-inside
returns-then-plain_len-inside c =
    let inside = c.split_at-2.result.0.now in
    let plain = ap plain_len (sym c.as_bytes-2.ensures.value) ∙ sym c.plain_len.ensures.value ∙ c.if-plain_len-inside.true in
    quoted_string _ _ _ _ inside (whole (goal.at.returns-then-plain_len-inside c).After-split_at-2)
    (λ e. c.if-as_bytes-eq96.false (rw c.as_bytes.ensures.value e))
    (sym (plain_all inside plain))

pub unescaped-requires : goal.unescaped-requires
unescaped-requires c = (
  c.requires.0,
  in_quotes_of _ _ _ _ (whole (goal.at.unescaped-requires c).After-split_at-2)
      (λ e. c.if-as_bytes-eq96.false (rw c.as_bytes.ensures.value e)),
)

pub returns : goal.returns
returns c = quoted_string _ _ _ _ _ (whole (goal.at.returns c).After-split_at-2)
    (λ e. c.if-as_bytes-eq96.false (rw c.as_bytes.ensures.value e))
    c.in_ok-unescaped.ensures
