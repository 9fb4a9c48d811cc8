use Rattle.gomod_hints.specs.Hints.{texts_of}
use Rattle.gomod_words.proofs.UsageLines.{shows_usage}
use Rattle.gomod_words.proofs.words.fault_of.Goals as goal

pub returns-then-matches-clause-usage : goal.returns-then-matches-clause-usage
returns-then-matches-clause-usage c = shows_usage (texts_of c.args.words.now) _ tt

pub returns-in_default-to_string-clause-usage : goal.returns-in_default-to_string-clause-usage
returns-in_default-to_string-clause-usage c = shows_usage (texts_of c.args.words.now) _ tt

pub returns-then-matches-3-clause-usage : goal.returns-then-matches-3-clause-usage
returns-then-matches-3-clause-usage c = shows_usage (texts_of c.args.words.now) _ tt

pub returns-else-words-lt2-clause-usage : goal.returns-else-words-lt2-clause-usage
returns-else-words-lt2-clause-usage c = shows_usage (texts_of c.args.words.now) _ c.line.ensures.usage
