use Rattle.std.proofs.Common.{◌≡◌, IfErr, List, Option, Some, rules, subst, sym}
use Rattle.clap.specs.Walk.{Row}
use Rattle.clap.specs.Words.{subcommand_rows_of}
use Rattle.gomod_words.specs.Private.Usage.{IsEntriesFault, entries}
use Rattle.gomod_words.specs.Usage.{entered}
use Rattle.gomod_words.specs.declared.table.CommandName.{CommandName}
use Rattle.gomod_words.proofs.words.read_matches.Goals as goal

pub returns-in-Some-command_named-clause-fault : goal.returns-in-Some-command_named-clause-fault
returns-in-Some-command_named-clause-fault c =
    let is : entered (subcommand_rows_of c.args.matches.now) ≡ Some (c.in-Some-command_named.command, entries c.in-Some.found.now) = search rules in
    subst (λ (entry : Option (CommandName × List Row)). IfErr c.read_command.result (IsEntriesFault entry)) (sym is) c.read_command.ensures.fault
