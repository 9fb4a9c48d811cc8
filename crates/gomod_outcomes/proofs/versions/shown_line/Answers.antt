use Rattle.std.proofs.Common.{◌∙◌, ap, inl, inr}
use Rattle.gomod_texts.specs.Outcome.{text_outcome}
use Rattle.gomod_outcomes.specs.Versions.{versions_line}
use Rattle.gomod_outcomes.proofs.PassedOn.{no_memory}
use Rattle.gomod_outcomes.proofs.versions.shown_line.Goals as goal

pub returns-in_err-shown : goal.returns-in_err-shown
returns-in_err-shown c = inr (no_memory _ c.from_residual.ensures.1)

pub returns-in_err-line : goal.returns-in_err-line
returns-in_err-line c = inr (no_memory _ c.from_residual-in_err-line.ensures.1)

pub returns : goal.returns
returns c =
    inl (ap text_outcome ((rw c.as_slice.ensures.value at c.in_ok-line.ensures) ∙ ap (versions_line c.args.path.now) c.in_ok-shown.ensures))
