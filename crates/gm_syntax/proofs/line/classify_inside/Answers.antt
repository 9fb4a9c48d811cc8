use Rattle.std.proofs.Common.{arith}
use Rattle.std.proofs.lemmas.List.{length-map}
use Rattle.gm_syntax_words.specs.Tokens.{Placed}
use Rattle.gm_syntax.proofs.Classing.{class_stray, class_close, class_inside_nested, class_inside_entry}
use Rattle.gm_syntax.proofs.line.classify_inside.Goals as goal

pub returns-then-len-gt1-clause-class : goal.returns-then-len-gt1-clause-class
returns-then-len-gt1-clause-class c =
    class_stray _ _ (cc) (omega (arith, length-map c.args.parts.words.items (λ (t : Placed). t.word), c.len.ensures, c.if-len-gt1.true))

pub returns-then-begins_close-clause-class : goal.returns-then-begins_close-clause-class
returns-then-begins_close-clause-class c =
    class_close _ _ (cc) (omega (arith, length-map c.args.parts.words.items (λ (t : Placed). t.word), c.len.ensures, c.if-len-gt1.false))

pub returns-then-ends_open-clause-class : goal.returns-then-ends_open-clause-class
returns-then-ends_open-clause-class c =
    class_inside_nested _ _ (cc) (cc)

pub returns-clause-class : goal.returns-clause-class
returns-clause-class c =
    class_inside_entry _ _ (omega (arith, length-map c.args.parts.words.items (λ (t : Placed). t.word), c.requires.filled)) (cc) (cc)
