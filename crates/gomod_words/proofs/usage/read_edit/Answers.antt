use Rattle.std.proofs.Common.{◌≡◌, None, Some, refl, rules}
use Rattle.clap.specs.Walk.{all_of}
use Rattle.clap.specs.Words.{found_of, rows_of}
use Rattle.gomod_words.specs.Usage.{given, texts_in}
use Rattle.gomod_words.specs.Private.Usage.{none}
use Rattle.gomod_words.specs.Table.{argument_name}
use Rattle.gomod_words.specs.declared.table.Argument.TheVariants.{EditFile, Operations}
use Rattle.gomod_words.specs.declared.table.CommandName.TheVariants as n
use Rattle.gomod_words.proofs.EntriesFaults.{passed, unfiled}
use Rattle.gomod_words.proofs.usage.read_edit.Goals as goal

pub returns-clause-read : goal.returns-clause-read
returns-clause-read c =
    let rows = rows_of (found_of c.args.found.now) in
    let operations = c.in_ok-operations.operations in
    let are : all_of (argument_name Operations) rows ≡ Some (texts_in operations) = search rules in
    let places = c.in_ok-places.ensures.places in
    ((operations, refl, are), tt, (refl, rw places.1 refl, rw places.1 refl), places.0)

pub returns-in_err-places-clause-fault : goal.returns-in_err-places-clause-fault
returns-in_err-places-clause-fault c =
    let rows = rows_of (found_of c.args.found.now) in
    passed n.Edit rows (given EditFile rows ≡ None) none none c.from_residual-in_err-places.result c.in_err-places.field-0.0
    c.from_residual-in_err-places.ensures.1 c.in_err-places.ensures.fault
    (unfiled n.Edit rows (given EditFile rows) (λ places are. are) refl refl) (λ text bad. absurd bad) (λ text bad. absurd bad)
