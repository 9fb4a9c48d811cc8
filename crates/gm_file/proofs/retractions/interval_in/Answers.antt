use Rattle.gm_syntax_words.specs.Tokens.{words_of}
use Rattle.gm_file.specs.Directives.{ends_of}
use Rattle.gm_file.proofs.Retracted.{ends-read}
use Rattle.gm_file.proofs.retractions.interval_in.Goals as goal

pub returns-in-Ok-clause-read : goal.returns-in-Ok-clause-read
returns-in-Ok-clause-read c = ends-read (ends_of (words_of c.args.words.now)) c.in-Ok.interval c.in-Ok.ensures.read
