use Rattle.std.proofs.Common.{Err, ◌≡◌, ◌+◌, ◌∷◌, ◌++◌, [], length, drop, sym, ap, subst, ◌∙◌, append-nil}
use Rattle.std.proofs.lemmas.Iterator.{YieldsList-from_chars}
use Rattle.std.proofs.lemmas.Iterator.Consumers.{YieldsList-end, YieldsList-so_far, YieldsList-turn}
use Rattle.std.proofs.lemmas.Result.{err_from_is_err_and}
use Rattle.std.proofs.lemmas.Str.{encodes-append, encodes-chars}
use Rattle.std.specs.Char.{encode_utf8}
use Rattle.std.specs.Prelude.{encode_utf8_all, string_bytes}
use Rattle.std.specs.Str.{chars}
use Rattle.gm_version.specs.declared.escaping.EscapeFault.TheVariants.{BadEscape}
use Rattle.gm_version.specs.Escape.{IsUnescaped}
use Rattle.gm_version.specs.Private.Texts.{read_so_far}
use Rattle.gm_version.proofs.Escapes.{bad_end, name-split}
use Rattle.std.proofs.lemmas.List.{map-id}
use Rattle.gm_version.proofs.escaping.unescape.Goals as goal

pub returns-in_err-after_bang-clause-bad : goal.returns-in_err-after_bang-clause-bad
returns-in_err-after_bang-clause-bad c =
    let road = YieldsList-from_chars c.args.name.now c.utf8.name cc in
    let front = YieldsList-so_far road c.loop-c.yielded _ c.loop-c.yielded_by in
    let turn = YieldsList-turn road c.loop-c.yielded _ c.loop-c.yielded_by _ _ c.in-Some.c c.in-Some.is c.next.ensures.steps in
    let rest = encode_utf8_all (drop (length c.loop-c.yielded + 1) (chars c.args.name.now)) in
    let split = name-split c.args.name.now c.loop-c.yielded c.in-Some.c c.utf8.name front turn.0 turn.1 in
    let whole : c.args.name.now ≡ read_so_far (string_bytes c.loop-c.text) c.loop-c.after_bang ++ encode_utf8 c.in-Some.c ++ rest =
    split ∙ ap (λ t. t ++ encode_utf8 c.in-Some.c ++ rest) (sym c.loop-c.invariant.read) in
    let p = err_from_is_err_and c.from_residual.result c.from_residual.ensures.1 in
    rw (p.1, p.2) (λ bad text is.
    let fault : c.in_err-after_bang.field-0.0 ≡ BadEscape = cc bad in
    c.in_err-after_bang.ensures.bad (ap Err fault) c.loop-c.invariant.no_bang text rest (subst (IsUnescaped text) whole is))

pub loop-c-preserved : goal.loop-c-preserved
loop-c-preserved c = record {
  read =
      c.in_ok-after_bang.ensures.ok ∙ ap (◌++ encode_utf8 c.in-Some.c) c.loop-c.invariant.read
      ∙ sym (encodes-append c.loop-c.yielded (c.in-Some.c ∷ [])
      ∙ ap (encode_utf8_all c.loop-c.yielded ++◌) (append-nil (encode_utf8 c.in-Some.c)));
  no_bang = c.in_ok-after_bang.ensures.no_bang c.loop-c.invariant.no_bang;
}

pub returns-then-after_bang-clause-bad : goal.returns-then-after_bang-clause-bad
returns-then-after_bang-clause-bad c =
    let end = YieldsList-end (YieldsList-from_chars c.args.name.now c.utf8.name cc) c.loop-c.yielded _
    c.loop-c.yielded_by _ _ c.in-None.is c.next.ensures.steps in
    let all : encode_utf8_all c.loop-c.yielded ≡ c.args.name.now =
    ap encode_utf8_all (sym (map-id c.loop-c.yielded) ∙ end.0) ∙ encodes-chars c.args.name.now c.utf8.name in
    let read = rw c.if-after_bang.true at c.loop-c.invariant.read in
    λ _ text. bad_end (string_bytes c.loop-c.text) text c.args.name.now (read ∙ all) c.loop-c.invariant.no_bang
