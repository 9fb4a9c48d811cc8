use Rattle.std.proofs.Common.{◌≡◌, map, take}
use Rattle.clap.specs.Simple.{app_of}
use Rattle.gomod_words.specs.Table.{app_in}
use Rattle.gomod_words.proofs.command.commands.Given as goal

-- the commands so far
abbrev pub invariant-loop-name : goal.invariant-loop-name
invariant-loop-name l = map app_of l.made.items ≡ map app_in (take l.name-index l.names)
