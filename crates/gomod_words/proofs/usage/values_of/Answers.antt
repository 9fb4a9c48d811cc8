use Rattle.std.proofs.Common.{◌∙◌, ap}
use Rattle.clap.specs.Walk.{Text, all_of}
use Rattle.clap.specs.Words.{found_of, rows_of}
use Rattle.clap.proofs.WalkLemmas.{raw_values-rows}
use Rattle.gomod_words.proofs.Commands.{row_name}
use Rattle.gomod_words.proofs.usage.values_of.Goals as goal

pub returns : goal.returns
returns c =
    let name = c.argument_row.result.now.name.now in
    c.get_strs.ensures ∙ raw_values-rows (found_of c.args.found.now) name
    ∙ ap (λ (n : Text). all_of n (rows_of (found_of c.args.found.now))) (row_name c.argument_row.result.now _ c.argument_row.ensures)
