use Rattle.std.proofs.Common.{refl}
use Rattle.clap.specs.Words.{found_of, rows_of}
use Rattle.gomod_words.specs.Usage.{IsBadProxy, given}
use Rattle.gomod_words.specs.Private.Usage.{LacksPlaces, none}
use Rattle.gomod_words.specs.declared.table.Argument.TheVariants.{Proxy}
use Rattle.gomod_words.specs.declared.table.CommandName.TheVariants as n
use Rattle.gomod_words.proofs.EntriesFaults.{lacking, passed}
use Rattle.gomod_words.proofs.query.read_graph.Goals as goal

pub returns-in_err-places-clause-fault : goal.returns-in_err-places-clause-fault
returns-in_err-places-clause-fault c =
    let rows = rows_of (found_of c.args.found.now) in
    passed n.Graph rows (LacksPlaces rows) none (IsBadProxy (given Proxy rows)) c.from_residual.result c.in_err-places.field-0.0
    c.from_residual.ensures.1 c.in_err-places.ensures.fault (lacking n.Graph rows (λ places are. are) refl tt) (λ text bad. absurd bad)
    (λ text bad. (tt, (_, refl), bad))
