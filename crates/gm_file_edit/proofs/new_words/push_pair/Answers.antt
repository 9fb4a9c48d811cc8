use Rattle.gm_file_edit.proofs.NoLineFeeds.{path-plain, version-plain}
use Rattle.gm_file_edit.proofs.new_words.push_pair.Goals as goal

pub push_word-requires : goal.push_word-requires
push_word-requires c = rw c.as_str.ensures.text (path-plain c.args.path.now c.as_str.ensures.path)

pub push_word-requires-2 : goal.push_word-requires-2
push_word-requires-2 c = rw c.as_str-2.ensures.text (version-plain c.args.version.now c.as_str-2.ensures.version)
