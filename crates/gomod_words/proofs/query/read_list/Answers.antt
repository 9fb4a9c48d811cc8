use Rattle.std.proofs.Common.{◌≡◌, IfSome, false, refl}
use Rattle.clap.specs.Words.{found_of, rows_of}
use Rattle.gm_name.specs.Path.{IsPath}
use Rattle.gomod_words.specs.Usage.{IsBadPath, IsBadProxy, given, has_limit, path_text}
use Rattle.gomod_words.specs.Private.Usage.{LacksPlaces, none}
use Rattle.gomod_words.specs.declared.table.Argument.TheVariants.{After, Limit, Proxy}
use Rattle.gomod_words.specs.declared.table.CommandName.TheVariants as n
use Rattle.gomod_words.proofs.EntriesFaults.{lacking, passed, unasked}
use Rattle.gomod_words.proofs.query.read_list.Goals as goal

pub returns-in_err-limit-clause-fault : goal.returns-in_err-limit-clause-fault
returns-in_err-limit-clause-fault c =
    let rows = rows_of (found_of c.args.found.now) in
    passed n.List rows (has_limit (given Limit rows) ≡ false) none none c.from_residual.result c.in_err-limit.field-0.0 c.from_residual.ensures.1
    c.in_err-limit.ensures.fault (λ bad. unasked n.List rows (λ command is. cc (rw bad at is.0)) (rw bad refl)) (λ text bad. absurd bad) (λ text bad. absurd bad)

pub returns-in_err-after-clause-fault : goal.returns-in_err-after-clause-fault
returns-in_err-after-clause-fault c =
    let rows = rows_of (found_of c.args.found.now) in
    passed n.List rows ⊥ (IsBadPath (given After rows)) none c.from_residual-in_err-after.result c.in_err-after.field-0.0
    c.from_residual-in_err-after.ensures.1 c.in_err-after.ensures.fault (λ never. absurd never)
    (λ text bad. (rw c.in_ok-limit.ensures.limit.0 bad.0, bad.1)) (λ text bad. absurd bad)

pub returns-in_err-places-clause-fault : goal.returns-in_err-places-clause-fault
returns-in_err-places-clause-fault c =
    let rows = rows_of (found_of c.args.found.now) in
    let limit = c.in_ok-limit.ensures.limit in
    let after = c.in_ok-after.ensures.after in
    let valid : IfSome (path_text n.List rows) IsPath = rw (limit.0, after.0) after.1 in
    passed n.List rows (LacksPlaces rows) none (IsBadProxy (given Proxy rows)) c.from_residual-in_err-places.result c.in_err-places.field-0.0
    c.from_residual-in_err-places.ensures.1 c.in_err-places.ensures.fault
    (lacking n.List rows (λ places are. are) refl valid) (λ text bad. absurd bad)
    (λ text bad. (valid, (_, (limit.0, refl)), bad))
