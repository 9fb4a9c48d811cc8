use Rattle.gm_file_edit.proofs.NoLineFeeds.{path-plain}
use Rattle.gm_file_edit.proofs.new_words.push_left.Goals as goal

pub push_word-requires : goal.push_word-requires
push_word-requires c = rw c.as_str.ensures.text (path-plain c.args.path.now c.as_str.ensures.path)
