use Rattle.std.proofs.Common.{◌∙◌, sym}
use Rattle.gm_file.proofs.Saying.{module-repeated, module-right, say-module}
use Rattle.gm_file.proofs.fields.Fields.add_module.Goals as goal

pub returns-then-is_some-clause-added : goal.returns-then-is_some-clause-added
returns-then-is_some-clause-added c = λ mode ds holds.
    module-repeated mode ds c.args.path c.requires.early (holds.is_declared ∙ sym c.is_some.ensures ∙ c.if-is_some.true)

pub returns-clause-added : goal.returns-clause-added
returns-clause-added c = λ mode ds holds. (
  say-module holds c.args.path (sym c.is_some.ensures ∙ c.if-is_some.false),
  module-right mode ds c.args.path c.requires.early (holds.is_declared ∙ sym c.is_some.ensures ∙ c.if-is_some.false),
)
