use Rattle.std.proofs.Common.{◌++◌, ◌∙◌, ℕ, List, ap, codes}
use Rattle.gomod_words.proofs.usage.unreadable_message.Goals as goal

pub returns : goal.returns
returns c =
    c.in_ok-message.ensures.ok ∙ ap (λ (shown : List ℕ). codes "error: the word '" ++ shown ++ codes "' is not UTF-8") c.in_ok-shown.ensures
