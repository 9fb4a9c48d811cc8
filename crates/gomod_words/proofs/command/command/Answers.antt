use Rattle.std.proofs.Common.{◌≡◌, ◌∙◌, ap, rules}
use Rattle.std.proofs.lemmas.Result.{IfOk-weaker}
use Rattle.clap.specs.Built.{AddsArg, AddsInTurn}
use Rattle.clap.specs.Simple.{App, app_of, new_app}
use Rattle.gomod_words.proofs.Commands.{arguments_add}
use Rattle.gomod_words.specs.Table.{with_rules_for}
use Rattle.gomod_words.proofs.command.command.Goals as goal

pub returns : goal.returns
returns c =
    let row = c.args.row.now in
    let bare = c.after_long_help.result in
    let is : app_of bare ≡ new_app row.name.now = search rules in
    IfOk-weaker c.args-2.result (AddsInTurn AddsArg bare c.in_ok-arguments.arguments.items)
    (λ command. app_of command ≡ with_rules_for (new_app row.name.now) row.arguments.now)
    (λ command adds. arguments_add bare command _ row.arguments.now c.in_ok-arguments.ensures adds
    ∙ ap (λ (app : App). with_rules_for app row.arguments.now) is)
    c.args-2.ensures
