use Rattle.std.proofs.lemmas.Str.{IsUtf8-string_bytes}
use Rattle.gomod_outcomes.proofs.commands.whole.Goals as goal

pub returns-in-Ok-clause-utf8 : goal.returns-in-Ok-clause-utf8
returns-in-Ok-clause-utf8 c = rw c.whole.ensures (IsUtf8-string_bytes c.in-Ok.text)
