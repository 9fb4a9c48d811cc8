use Rattle.std.proofs.Common.{sym, subst, ◌∙◌, List, ℕ}
use Rattle.gm_syntax_words.specs.declared.word.Kind.TheVariants.{Mark}
use Rattle.gm_syntax_words.specs.Words.{IsShaped}
use Rattle.gm_syntax_words.proofs.Marks.{mark_stands}
use Rattle.gm_syntax_words.proofs.token.Token.mark.Goals as goal

pub invariant_of-result : goal.invariant_of-result
invariant_of-result c = subst (λ (l : List ℕ). IsShaped (record { kind = Mark; spelling = l }))
    (sym (c.in_ok-from_str.ensures.ok ∙ c.mark_text.ensures)) (mark_stands _).0
