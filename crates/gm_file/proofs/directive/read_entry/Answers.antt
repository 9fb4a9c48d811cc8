use Rattle.std.proofs.Common.{refl}
use Rattle.std.proofs.lemmas.Result.{err_from_is_err_and}
use Rattle.gm_syntax_words.specs.Tokens.{words_of}
use Rattle.gm_file.specs.declared.fault.DirectiveKind.TheVariants.{WrongArguments}
use Rattle.gm_file.specs.Directives.{Replaces, Retracts, directive_of, ends_of, replacing_of}
use Rattle.gm_file.specs.DirectiveViews.{directive_view}
use Rattle.gm_file.specs.Faults.{ends_kinds}
use Rattle.gm_file.specs.Reading.{own_kinds, replacing_kinds}
use Rattle.gm_file.specs.Views.{interval_view, replace_view}
use Rattle.gm_file.proofs.Entries.{map-fault}
use Rattle.gm_file.proofs.directive.read_entry.Goals as goal

pub returns-in_err-read_replace-in-Replace-clause-read : goal.returns-in_err-read_replace-in-Replace-clause-read
unfolding directive_of
returns-in_err-read_replace-in-Replace-clause-read c =
    let p = err_from_is_err_and c.from_residual-in_err-read_replace-in-Replace.result c.from_residual-in_err-read_replace-in-Replace.ensures.1 in
    rw (c.in-Replace.is, p.1, p.2) (map-fault replace_view directive_view WrongArguments replacing_kinds own_kinds
    Replaces (replacing_of (words_of c.args.words.now))
    c.in_err-read_replace-in-Replace.field-0.0 (λ _. refl) c.in_err-read_replace-in-Replace.ensures.read)

pub returns-in_err-read_interval-in-Retract-clause-read : goal.returns-in_err-read_interval-in-Retract-clause-read
unfolding directive_of
returns-in_err-read_interval-in-Retract-clause-read c =
    let p = err_from_is_err_and c.from_residual-in_err-read_interval-in-Retract.result c.from_residual-in_err-read_interval-in-Retract.ensures.1 in
    rw (c.in-Retract.is, p.1, p.2) (map-fault interval_view directive_view WrongArguments ends_kinds own_kinds Retracts (ends_of (words_of c.args.words.now))
    c.in_err-read_interval-in-Retract.field-0.0 (λ _. refl) c.in_err-read_interval-in-Retract.ensures.read)
