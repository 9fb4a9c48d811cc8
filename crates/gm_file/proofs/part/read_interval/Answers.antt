use Rattle.gm_file.proofs.Words.{one-word}
use Rattle.gm_file.proofs.part.read_interval.Goals as goal

pub returns-in-len1-clause-read : goal.returns-in-len1-clause-read
returns-in-len1-clause-read c = rw (one-word c.args.words.now c.version-item.result c.in-len1.len_at_least
    c.in-len1.len_below c.version-item.is) c.single_interval.ensures.read
