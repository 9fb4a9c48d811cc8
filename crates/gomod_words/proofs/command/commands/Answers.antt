use Rattle.std.proofs.Common.{◌≡◌, ◌∷◌, ◌++◌, [], rules}
use Rattle.gomod_words.proofs.Commands.{command_more}
use Rattle.gomod_words.proofs.command.commands.Goals as goal

pub loop-name-preserved : goal.loop-name-preserved
loop-name-preserved c =
    let items : c.push.new.self.items ≡ c.loop-name.made.items ++ c.in_ok-command.field-0 ∷ [] = search rules in
    let name_is = c.command_row.ensures.name in
    let row = c.command_row.result in
    command_more _ _ c.args.names.now c.loop-name.name-index _ c.in_ok-command.field-0 row.name.now row.arguments.now
    c.loop-name-test.true c.loop-name.invariant
    items c.in_ok-command.ensures name_is c.command_row.ensures.arguments
