use Rattle.std.proofs.Common.{arith}
use Rattle.std.proofs.lemmas.List.{length-map}
use Rattle.gm_syntax_words.specs.Tokens.{Placed}
use Rattle.gm_syntax.proofs.Classing.{class_open, class_nested, class_stray_outside, class_entry}
use Rattle.gm_syntax.proofs.line.classify_outside.Goals as goal

pub returns-then-opens_block-clause-class : goal.returns-then-opens_block-clause-class
returns-then-opens_block-clause-class c =
    class_open _ _ _ c.remove-verb.ensures.value (cc)

pub returns-then-ends_open-clause-class : goal.returns-then-ends_open-clause-class
returns-then-ends_open-clause-class c =
    class_nested _ _ (cc) (cc)

pub returns-then-begins_close-clause-class : goal.returns-then-begins_close-clause-class
returns-then-begins_close-clause-class c =
    class_stray_outside _ _ (cc) (cc) (cc)

pub returns-clause-class : goal.returns-clause-class
returns-clause-class c =
    class_entry _ _ (omega (arith, length-map c.args.parts.words.items (λ (t : Placed). t.word), c.requires.filled)) (cc) (cc) (cc)
