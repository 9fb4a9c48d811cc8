use Rattle.std.proofs.Common.{◌≡◌, map, take}
use Rattle.clap.specs.Walk.{rule_of}
use Rattle.gomod_words.specs.Table.{rule_for}
use Rattle.gomod_words.proofs.command.arguments.Given as goal

-- the arguments so far
abbrev pub invariant-loop-each : goal.invariant-loop-each
invariant-loop-each l = map rule_of l.made.items ≡ map rule_for (take l.each-index l.arguments)
