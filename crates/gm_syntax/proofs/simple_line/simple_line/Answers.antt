use Rattle.std.proofs.Common.{◌≡◌, ◌++◌, sym, ◌∙◌, arith, refl}
use Rattle.std.proofs.lemmas.Bool.{not-false}
use Rattle.std.proofs.lemmas.Option.{IfSome_then}
use Rattle.std.proofs.lemmas.Slice.Eq.{bytes_eq-Decides}
use Rattle.gm_syntax.proofs.SimpleLines.{as_long, sofar_first, sofar_word, sofar_opening, sofar_end}
use Rattle.gm_syntax.proofs.simple_line.simple_line.Goals as goal

pub returns-in_default-split_word : goal.returns-in_default-split_word
returns-in_default-split_word c =
    let first = c.in-Some.first.now in
    let parts = c.in-Some.ensures.parts in
    let one = sofar_first first c.after_blanks-start.ensures c.in-Some.ensures.word parts in
    let begins =
    as_long _ _ c.after_blanks-start.ensures (omega (arith, c.if-start-text.false)) ∙ parts.2 in
    let same : first ≡ c.args.verb.now = (bytes_eq-Decides first c.args.verb.now).0 (not-false _ (sym c.ne.ensures ∙ c.if-ne.false)) in
    IfSome_then c.opening_line.result c.opening_line.ensures (λ made so.
    rw (so.2, ← same) (so.0, refl, parts.0 ++ c.in-Some.after_first.now, begins, sofar_opening one so.1))

pub returns-then-ends_line : goal.returns-then-ends_line
returns-then-ends_line c =
    let one = sofar_first _ c.after_blanks-start.ensures c.in-Some.ensures.word c.in-Some.ensures.parts in
    let two = sofar_word _ one c.in-Some-split_word.ensures.word c.in-Some-split_word.ensures.parts in
    sofar_end two (rw c.as_bytes.ensures.value at c.ends_line.ensures.0 c.if-ends_line.true)

pub returns : goal.returns
returns c =
    let first = c.in-Some.first.now in
    let one = sofar_first first c.after_blanks-start.ensures c.in-Some.ensures.word c.in-Some.ensures.parts in
    let two = sofar_word _ one c.in-Some-split_word.ensures.word c.in-Some-split_word.ensures.parts in
    let three = sofar_word _ two c.in_ok-third.ensures.word c.in_ok-third.ensures.parts in
    let same : first ≡ c.args.verb.now = (bytes_eq-Decides first c.args.verb.now).0 (not-false _ (sym c.ne-2.ensures ∙ c.if-ne-2.false)) in
    rw (← same) (sofar_end three (rw c.as_bytes-2.ensures.value at c.ends_line-2.ensures.0 c.if-not-ends_line.false))
