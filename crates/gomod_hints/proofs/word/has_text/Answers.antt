use Rattle.std.proofs.lemmas.Str.Pattern.{contains_text}
use Rattle.gomod_hints.proofs.word.has_text.Goals as goal

pub returns : goal.returns
returns c = contains_text c.contains.result c.args.text.now c.args.word.now c.contains.ensures.cases
