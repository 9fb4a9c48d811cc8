use Rattle.std.proofs.Common.{◌∙◌, sym}
use Rattle.gm_file.specs.VerbViews.{mode_view}
use Rattle.gm_file.proofs.Saying.{go-bad, go-repeated, go-right, say-go}
use Rattle.gm_file.proofs.fields.Fields.add_go.Goals as goal

pub returns-then-is_some-clause-added : goal.returns-then-is_some-clause-added
returns-then-is_some-clause-added c = λ ds holds.
    go-repeated (mode_view c.args.mode) ds c.args.text.now (holds.is_given ∙ sym c.is_some.ensures ∙ c.if-is_some.true)

pub returns-in_default-clause-added : goal.returns-in_default-clause-added
returns-in_default-clause-added c = λ ds holds.
    go-bad (mode_view c.args.mode) ds c.args.text.now (holds.is_given ∙ sym c.is_some.ensures ∙ c.if-is_some.false) (sym c.go_in.ensures ∙ c.in_default.is)

pub returns-clause-added : goal.returns-clause-added
returns-clause-added c = λ ds holds. (
  say-go holds c.args.text.now c.in-Some.numbers (sym c.is_some.ensures ∙ c.if-is_some.false) (sym c.go_in.ensures ∙ c.in-Some.is),
  go-right (mode_view c.args.mode) ds c.args.text.now c.in-Some.numbers
      (holds.is_given ∙ sym c.is_some.ensures ∙ c.if-is_some.false) (sym c.go_in.ensures ∙ c.in-Some.is),
)
