use Rattle.std.proofs.Common.{◌∙◌, ap}
use Rattle.gm_name.specs.Fingerprint.{fingerprint, first_eight, number_with_word}
use Rattle.gm_name.proofs.Words.{after_eight, no_word}
use Rattle.gm_name.proofs.fingerprints.fingerprint.Goals as goal

pub words-preserved : goal.words-preserved
words-preserved c =
    let was = c.words.rest.now in
    ap (λ number. fingerprint number c.after_eight-rest.result.now) (c.mixed-number.ensures ∙ ap (number_with_word c.words.number) c.first_eight.ensures)
    ∙ ap (fingerprint (number_with_word c.words.number (first_eight was))) c.after_eight-rest.ensures
    ∙ after_eight c.words.number was c.words-test.true
    ∙ c.words.invariant

pub returns : goal.returns
returns c = c.by_bytes.ensures ∙ no_word c.words.number c.words.rest.now c.words-test.false ∙ c.words.invariant
