use Rattle.std.proofs.Common.{◌++◌, ◌∷◌, ◌∙◌, [], List, ap, map, sym, take}
use Rattle.std.proofs.lemmas.List.{map_more, map_push}
use Rattle.clap.specs.Walk.{Rule}
use Rattle.clap.specs.Words.{rule_of}
use Rattle.gomod_words.specs.Table.{rule_for}
use Rattle.gomod_words.specs.declared.table.Argument.TheVariants.{FmtFile}
use Rattle.gomod_words.proofs.command.arguments.Goals as goal

pub loop-each-preserved : goal.loop-each-preserved
loop-each-preserved c =
    let arguments = c.args.arguments.now in
    let made = c.loop-each.made.items in
    ap (map rule_of) c.in_ok-push.ensures.items ∙ map_push rule_of made c.argument.result
    ∙ ap (λ (rules : List Rule). rules ++ rule_of c.argument.result ∷ []) c.loop-each.invariant
    ∙ ap (λ (rule : Rule). map rule_for (take c.loop-each.each-index arguments) ++ rule ∷ []) (c.argument.ensures ∙ c.argument_row.ensures)
    ∙ sym (map_more rule_for arguments c.loop-each.each-index FmtFile c.loop-each-test.true)
