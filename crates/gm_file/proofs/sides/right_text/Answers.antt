use Rattle.gm_file.proofs.Words.{one-word, two-words}
use Rattle.gm_file.proofs.sides.right_text.Goals as goal

pub returns-in-len1 : goal.returns-in-len1
returns-in-len1 c = rw (one-word c.args.words.now c.folder-item.result c.in-len1.len_at_least c.in-len1.len_below c.folder-item.is) c.right_folder.ensures

pub returns-in-len2 : goal.returns-in-len2
returns-in-len2 c = rw (two-words c.args.words.now c.path-item.result c.version-item.result c.in-len2.len_at_least
    c.in-len2.len_below c.path-item.is c.version-item.is) c.right_module.ensures
