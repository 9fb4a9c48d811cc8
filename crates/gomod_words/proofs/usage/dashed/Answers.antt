use Rattle.std.proofs.Common.{◌∙◌, ℕ, List, subst}
use Rattle.gomod_hints.specs.Hints.{texts_of}
use Rattle.gomod_words.specs.Usage.{IsLineOn}
use Rattle.gomod_words.proofs.usage.dashed.Goals as goal

pub returns-in-Ok : goal.returns-in-Ok
returns-in-Ok c =
    subst (λ (m : List ℕ). IsLineOn (texts_of c.args.words.now) m c.hinted.result) (c.as_str.ensures.value ∙ c.in-Ok.ensures.ok) c.hinted.ensures.text
