use Rattle.gomod_hints.specs.Hints.{texts_of}
use Rattle.gomod_words.proofs.UsageLines.{line_shows}
use Rattle.gomod_words.proofs.usage.line.Goals as goal

pub returns-clause-usage : goal.returns-clause-usage
returns-clause-usage c = line_shows (texts_of c.args.words.now) _ c.hinted.result c.hinted.ensures.text c.without_tip.ensures
