use Rattle.std.proofs.Common.{inl}
use Rattle.std.specs.Option.{option_copied}
use Rattle.gomod_texts.specs.ListQuery.{PrintsRows}
use Rattle.gomod_texts.specs.Outcome.{OrNoMemory}
use Rattle.gomod_outcomes.proofs.PassedOn.{passed_text}
use Rattle.gomod_outcomes.proofs.queries.list.list_outcome.Goals as goal

pub returns-in_err-from : goal.returns-in_err-from
returns-in_err-from c =
    passed_text (OrNoMemory (PrintsRows c.args.main.now c.args.loaded.rows (option_copied c.args.after) c.args.limit))
    c.in_err-from.field-0.0 c.from_residual.result c.from_residual.ensures.1 (inl (c.in_err-from.ensures.told c.args.limit))

pub returns : goal.returns
returns c = rw (c.rows.ensures, c.in_ok-main.ensures, c.path.ensures) (inl (c.in_ok-from.ensures.printed c.args.limit))
