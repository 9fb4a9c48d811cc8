use Rattle.std.proofs.Common.{◌≡◌, ◌∙◌, ap}
use Rattle.std.proofs.lemmas.Result.{IfOk-weaker}
use Rattle.clap.specs.Built.{AddsInTurn, AddsSubcommand}
use Rattle.clap.specs.Simple.{App, app_of}
use Rattle.gomod_words.proofs.Commands.{commands_add}
use Rattle.gomod_words.specs.Table.{commands, gomod_app, with_commands}
use Rattle.gomod_words.proofs.command.gomod_command.Goals as goal

pub returns : goal.returns
returns c =
    let bare = c.bare_gomod.result in
    IfOk-weaker c.subcommands.result (AddsInTurn AddsSubcommand bare c.in_ok-commands.commands.items) (λ program. app_of program ≡ gomod_app)
    (λ program adds. commands_add bare program _ commands c.in_ok-commands.ensures adds
    ∙ ap (λ (app : App). with_commands app commands) c.bare_gomod.ensures)
    c.subcommands.ensures
