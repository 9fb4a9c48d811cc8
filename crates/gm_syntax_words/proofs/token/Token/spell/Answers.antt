use Rattle.std.proofs.Common.{◌≡◌, true, false, ap, refl, sym, ◌∙◌}
use Rattle.std.proofs.lemmas.Bool.{true≢false}
use Rattle.gm_syntax_words.specs.declared.word.Kind.TheVariants.{Bare, Text}
use Rattle.gm_syntax_words.specs.Tokens.{own_word}
use Rattle.gm_syntax_words.specs.Bare.{can_be_bare}
use Rattle.gm_syntax_words.proofs.Spelled.{is_bare_word, bare_word_is}
use Rattle.gm_syntax_words.proofs.token.Token.spell.Goals as goal

pub returns-then-can_be_bare-clause-is_new : goal.returns-then-can_be_bare-clause-is_new
returns-then-can_be_bare-clause-is_new c =
    let can : can_be_bare c.args.value.now ≡ true = rw (← c.as_bytes.ensures.value, ← c.can_be_bare.ensures) c.if-can_be_bare.true in
    record {
      bare = λ h. ap (own_word Bare) c.in_ok-from_str.ensures.ok;
      quoted = λ h. absurd (h (is_bare_word _ can));
    }

pub returns-clause-is_new : goal.returns-clause-is_new
returns-clause-is_new c =
    let cannot : can_be_bare c.args.value.now ≡ false = rw (← c.as_bytes.ensures.value, ← c.can_be_bare.ensures) c.if-can_be_bare.false in
    record {
      bare = λ h. absurd (true≢false (sym (bare_word_is _ h) ∙ cannot));
      quoted = λ h. ap (own_word Text) c.in_ok-quoted.ensures;
    }

pub returns-then-can_be_bare-clause-value : goal.returns-then-can_be_bare-clause-value
returns-then-can_be_bare-clause-value c =
    let can : can_be_bare c.args.value.now ≡ true = rw (← c.as_bytes.ensures.value, ← c.can_be_bare.ensures) c.if-can_be_bare.true in
    rw can (rw c.in_ok-from_str.ensures.ok refl)

pub returns-clause-value : goal.returns-clause-value
returns-clause-value c =
    let cannot : can_be_bare c.args.value.now ≡ false = rw (← c.as_bytes.ensures.value, ← c.can_be_bare.ensures) c.if-can_be_bare.false in
    rw cannot (rw c.in_ok-quoted.ensures refl)

pub invariant_of-result : goal.invariant_of-result
invariant_of-result c =
    let can : can_be_bare c.args.value.now ≡ true = rw (← c.as_bytes.ensures.value, ← c.can_be_bare.ensures) c.if-can_be_bare.true in
    rw c.in_ok-from_str.ensures.ok
    (c.args.value.now, (is_bare_word _ can, refl))
