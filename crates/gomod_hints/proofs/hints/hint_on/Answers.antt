use Rattle.std.proofs.Common.{◌≡◌, ◌∙◌, false, inl, inr, subst, true}
use Rattle.clap.specs.Walk.{Text}
use Rattle.gomod_hints.specs.Hints.{HasSaid, IsHintFor, key_of}
use Rattle.gomod_hints.proofs.HintWords.{says_too, some_too}
use Rattle.gomod_hints.proofs.hints.hint_on.Goals as goal

pub returns-then-is_some : goal.returns-then-is_some
returns-then-is_some c =
    let word = c.args.word.now in
    let taken = c.args.takes_operations in
    let key = c.as_str.result.now in
    let same : key ≡ key_of word = c.as_str.ensures.value ∙ c.in_ok-key.ensures in
    some_too (HasSaid taken false key) (IsHintFor taken word) (λ text said. inl (subst (λ (k : Text). HasSaid taken false k text) same said)) c.in_ok-said.said c.in_ok-said.ensures

pub returns-in-Some : goal.returns-in-Some
returns-in-Some c =
    let form = c.in-Some.form.now in
    says_too (HasSaid c.args.takes_operations false form) (IsHintFor c.args.takes_operations c.args.word.now) (λ text said. inr (inl (form, rw c.in-Some.is at c.form_of.ensures, said)))
    c.tables_say-in-Some.result c.tables_say-in-Some.ensures

pub returns : goal.returns
returns c =
    let word = c.args.word.now in
    let taken = c.args.takes_operations in
    let key = c.as_str-in-None.result.now in
    let same : key ≡ key_of word = c.as_str-in-None.ensures.value ∙ c.in_ok-key.ensures in
    says_too (HasSaid taken true key) (IsHintFor taken word) (λ text said. inr (inr (subst (λ (k : Text). HasSaid taken true k text) same said)))
    c.tables_say-in-None.result c.tables_say-in-None.ensures
