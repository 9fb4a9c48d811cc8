use Rattle.gm_file.proofs.Words.{one-word, two-words}
use Rattle.gm_file.proofs.sides.left_text.Goals as goal

pub returns-in-len1 : goal.returns-in-len1
returns-in-len1 c = rw (one-word c.args.words.now c.path-item.result c.in-len1.len_at_least c.in-len1.len_below c.path-item.is) c.left_path.ensures

pub returns-in-len2 : goal.returns-in-len2
returns-in-len2 c = rw (two-words c.args.words.now c.path-item-then-words-lt3.result c.version-item.result
    c.in-len2.len_at_least c.in-len2.len_below c.path-item-then-words-lt3.is c.version-item.is)
    c.left_path_and_version.ensures
