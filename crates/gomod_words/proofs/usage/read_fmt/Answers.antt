use Rattle.std.proofs.Common.{◌≡◌, None, refl}
use Rattle.clap.specs.Words.{found_of, rows_of}
use Rattle.gomod_words.specs.Usage.{given}
use Rattle.gomod_words.specs.Private.Usage.{none}
use Rattle.gomod_words.specs.declared.table.Argument.TheVariants.{FmtFile}
use Rattle.gomod_words.specs.declared.table.CommandName.TheVariants as n
use Rattle.gomod_words.proofs.EntriesFaults.{passed, unfiled}
use Rattle.gomod_words.proofs.usage.read_fmt.Goals as goal

pub returns-in_err-places-clause-fault : goal.returns-in_err-places-clause-fault
returns-in_err-places-clause-fault c =
    let rows = rows_of (found_of c.args.found.now) in
    passed n.Fmt rows (given FmtFile rows ≡ None) none none c.from_residual.result c.in_err-places.field-0.0 c.from_residual.ensures.1
    c.in_err-places.ensures.fault (unfiled n.Fmt rows (given FmtFile rows) (λ places are. are) refl refl) (λ text bad. absurd bad) (λ text bad. absurd bad)
