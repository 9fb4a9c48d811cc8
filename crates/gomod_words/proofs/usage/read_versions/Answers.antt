use Rattle.std.proofs.Common.{◌≡◌, ◌||◌, IfSome, None, Option, ap, codes, not, option_map, subst, sym}
use Rattle.std.specs.Prelude.{is_some}
use Rattle.clap.specs.Walk.{Text}
use Rattle.clap.specs.Words.{found_of, rows_of}
use Rattle.gm_name.specs.Path.{IsPath}
use Rattle.gomod_words.specs.Usage.{IsBadPath, IsBadProxy, given, has_value}
use Rattle.gomod_words.specs.Private.Usage.{none}
use Rattle.gomod_words.specs.declared.table.Argument.TheVariants.{Path, Proxy, Retracted}
use Rattle.gomod_words.specs.declared.table.CommandName.TheVariants as n
use Rattle.gomod_words.specs.declared.usage.Command.{Command}
use Rattle.gomod_words.specs.declared.usage.Command.TheVariants.{Versions}
use Rattle.gomod_words.proofs.EntriesFaults.{passed, unasked}
use Rattle.gomod_words.proofs.usage.read_versions.Goals as goal

pub returns-in_err-path-clause-fault : goal.returns-in_err-path-clause-fault
returns-in_err-path-clause-fault c =
    let rows = rows_of (found_of c.args.found.now) in
    passed n.Versions rows (given Path rows ≡ None) (IsBadPath (given Path rows)) none c.from_residual.result c.in_err-path.field-0.0
    c.from_residual.ensures.1 c.in_err-path.ensures.fault
    (λ lacks. unasked n.Versions rows (λ command is. cc (rw lacks at is)) lacks) (λ text bad. bad) (λ text bad. absurd bad)

pub returns-in_err-proxy-clause-fault : goal.returns-in_err-proxy-clause-fault
returns-in_err-proxy-clause-fault c =
    let rows = rows_of (found_of c.args.found.now) in
    let path = c.in_ok-path.ensures.path in
    let all = has_value Retracted (codes "true") rows || not (is_some (given Proxy rows)) in
    let command : Text → Command = λ path. Versions path all in
    passed n.Versions rows ⊥ none (IsBadProxy (given Proxy rows)) c.from_residual-in_err-proxy.result c.in_err-proxy.field-0.0
    c.from_residual-in_err-proxy.ensures.1 c.in_err-proxy.ensures.fault (λ never. absurd never) (λ text bad. absurd bad)
    (λ text bad. (subst (λ (v : Option Text). IfSome v IsPath) (sym path.0) path.1, (command c.in_ok-path.path, ap (option_map command) path.0), bad))
