use Rattle.gm_file.proofs.Words.{one-word}
use Rattle.gm_file.proofs.part.borrowed_one.Goals as goal

pub returns-in-len1 : goal.returns-in-len1
returns-in-len1 c = rw (one-word c.args.words.now c.word-item.result c.in-len1.len_at_least c.in-len1.len_below c.word-item.is) c.borrowed_argument.ensures
