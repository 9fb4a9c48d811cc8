use Rattle.std.proofs.Common.{subst}
use Rattle.std.specs.String.{string_bytes}
use Rattle.gm_file.specs.declared.replace.Right.{Right}
use Rattle.gm_file.specs.Directives.{Folder}
use Rattle.gm_file.specs.Views.{right_view}
use Rattle.gm_file_edit.specs.Sound.{IsSoundRight}
use Rattle.gm_file_edit.proofs.NoLineFeeds.{byte-feed}
use Rattle.gm_file_edit.proofs.new_words.push_right.Goals as goal

pub push_word-requires : goal.push_word-requires
push_word-requires c =
    let sound : IsSoundRight (Folder (string_bytes c.in-Folder.text)) = subst (λ (r : Right). IsSoundRight (right_view r)) c.in-Folder.is c.requires in
    rw c.as_str.ensures.value (byte-feed (string_bytes c.in-Folder.text) sound.1)
