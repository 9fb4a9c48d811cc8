use Rattle.std.proofs.Common.{◌∙◌}
use Rattle.gm_file.proofs.exclusions.Exclusions.contains.Goals as goal

pub returns : goal.returns
returns c = c.contains.ensures ∙ c.requires c.args.pair.now
