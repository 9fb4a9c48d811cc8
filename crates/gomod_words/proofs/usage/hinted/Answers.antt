use Rattle.gomod_hints.specs.Hints.{texts_of}
use Rattle.gomod_words.proofs.UsageLines.{line_on}
use Rattle.gomod_words.proofs.usage.hinted.Goals as goal

pub returns-in-Ok-clause-text : goal.returns-in-Ok-clause-text
returns-in-Ok-clause-text c =
    line_on (texts_of c.args.words.now) c.args.message.now _ _ _ c.usage_error.result c.in-Ok.ensures c.as_str.ensures.value c.usage_of.ensures c.usage_error.ensures.text
