use Rattle.gm_file.proofs.Words.{two-words}
use Rattle.gm_file.proofs.part.read_pair.Goals as goal

pub returns-in-len2-clause-read : goal.returns-in-len2-clause-read
returns-in-len2-clause-read c = rw (two-words c.args.words.now c.path-item.result c.version-item.result
    c.in-len2.len_at_least c.in-len2.len_below c.path-item.is c.version-item.is) c.pair_of_words.ensures.read
