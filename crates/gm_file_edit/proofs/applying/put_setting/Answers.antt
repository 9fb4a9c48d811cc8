use Rattle.std.proofs.Common.{◌∙◌, refl}
use Rattle.std.specs.String.{string_bytes}
use Rattle.gm_file.specs.Views.{replace_view}
use Rattle.gm_file_edit.specs.Edits.{Set, GoIs, RequireAt, ReplaceWith}
use Rattle.gm_file_edit.proofs.NoLineFeeds.{go-feed}
use Rattle.gm_file_edit.proofs.NewKeys.{key-about, key-of-setting}
use Rattle.gm_file_edit.proofs.applying.put_setting.Goals as goal

pub add_go-requires-clause-version : goal.add_go-requires-clause-version
add_go-requires-clause-version c = rw c.as_str.ensures.value (go-feed (string_bytes c.in-Go.text) (rw c.in-Go.is at c.requires.written))

pub add_go-requires-clause-about : goal.add_go-requires-clause-about
add_go-requires-clause-about c =
    rw c.as_str.ensures.value
    (key-about (Set (GoIs (string_bytes c.in-Go.text))) _ (c.key_with-key.ensures ∙ key-of-setting c.setting_target.ensures c.in-Go.is) refl (rw c.in-Go.is at c.requires.written))

pub add_pair-requires-clause-about : goal.add_pair-requires-clause-about
add_pair-requires-clause-about c =
    key-about (Set (RequireAt (c.in-Require.path, c.in-Require.version))) _ (c.key_with-key.ensures ∙ key-of-setting c.setting_target.ensures c.in-Require.is) refl
    (rw c.in-Require.is at c.requires.written)

pub add-requires-clause-about : goal.add-requires-clause-about
add-requires-clause-about c =
    rw c.in_ok-words-in-Replace.ensures
    (key-about (Set (ReplaceWith (replace_view c.in-Replace.replace))) _ (c.key_with-key.ensures ∙ key-of-setting c.setting_target.ensures c.in-Replace.is) refl
    (rw c.in-Replace.is at c.requires.written))
