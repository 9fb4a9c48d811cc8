use Rattle.std.proofs.Common.{◌≡◌, IfSome, None, Option, ap, option_map, refl, subst, sym}
use Rattle.clap.specs.Walk.{Text}
use Rattle.clap.specs.Words.{found_of, rows_of}
use Rattle.gm_name.specs.Path.{IsPath}
use Rattle.gomod_words.specs.Usage.{IsBadPath, IsBadProxy, given}
use Rattle.gomod_words.specs.Private.Usage.{LacksPlaces, none}
use Rattle.gomod_words.specs.declared.table.Argument.TheVariants.{Path, Proxy}
use Rattle.gomod_words.specs.declared.table.CommandName.TheVariants as n
use Rattle.gomod_words.specs.declared.usage.Command.{Command}
use Rattle.gomod_words.specs.declared.usage.Command.TheVariants.{Chain}
use Rattle.gomod_words.proofs.EntriesFaults.{lacking, passed, unasked}
use Rattle.gomod_words.proofs.query.read_chain.Goals as goal

pub returns-in_err-path-clause-fault : goal.returns-in_err-path-clause-fault
returns-in_err-path-clause-fault c =
    let rows = rows_of (found_of c.args.found.now) in
    passed n.Chain rows (given Path rows ≡ None) (IsBadPath (given Path rows)) none c.from_residual.result c.in_err-path.field-0.0
    c.from_residual.ensures.1 c.in_err-path.ensures.fault
    (λ lacks. unasked n.Chain rows (λ command is. cc (rw lacks at is)) lacks) (λ text bad. bad) (λ text bad. absurd bad)

pub returns-in_err-places-clause-fault : goal.returns-in_err-places-clause-fault
returns-in_err-places-clause-fault c =
    let rows = rows_of (found_of c.args.found.now) in
    let path = c.in_ok-path.ensures.path in
    let valid : IfSome (given Path rows) IsPath = subst (λ (v : Option Text). IfSome v IsPath) (sym path.0) path.1 in
    let command : Text → Command = λ path. Chain path in
    passed n.Chain rows (LacksPlaces rows) none (IsBadProxy (given Proxy rows)) c.from_residual-in_err-places.result c.in_err-places.field-0.0
    c.from_residual-in_err-places.ensures.1 c.in_err-places.ensures.fault
    (lacking n.Chain rows (λ places are. are) refl valid) (λ text bad. absurd bad)
    (λ text bad. (valid, (command c.in_ok-path.path, ap (option_map command) path.0), bad))
