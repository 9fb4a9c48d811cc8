use Rattle.gm_file_edit.proofs.NoLineFeeds.{version-plain}
use Rattle.gm_file_edit.proofs.new_words.interval_words.Goals as goal

pub push_word-requires : goal.push_word-requires
push_word-requires c = rw c.as_str.ensures.text (version-plain _ c.as_str.ensures.version)
