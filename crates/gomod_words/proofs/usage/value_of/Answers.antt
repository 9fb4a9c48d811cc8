use Rattle.std.proofs.Common.{◌∙◌, ap}
use Rattle.clap.specs.Walk.{Text, first_of}
use Rattle.clap.specs.Words.{found_of, rows_of}
use Rattle.clap.proofs.WalkLemmas.{first_value-rows}
use Rattle.gomod_words.proofs.Commands.{row_name}
use Rattle.gomod_words.proofs.usage.value_of.Goals as goal

pub returns : goal.returns
returns c =
    let name = c.argument_row.result.now.name.now in
    c.get_str.ensures ∙ first_value-rows (found_of c.args.found.now) name
    ∙ ap (λ (n : Text). first_of n (rows_of (found_of c.args.found.now))) (row_name c.argument_row.result.now _ c.argument_row.ensures)
