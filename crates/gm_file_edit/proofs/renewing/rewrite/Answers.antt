use Rattle.std.specs.String.{string_bytes}
use Rattle.gm_file_edit.proofs.NoLineFeeds.{go-feed, path-plain, version-plain}
use Rattle.gm_file_edit.proofs.renewing.rewrite.Goals as goal

pub set_last-requires : goal.set_last-requires
set_last-requires c = rw c.as_str.ensures.text (path-plain c.in-Module.path c.as_str.ensures.path)

pub set_last-requires-in-Go : goal.set_last-requires-in-Go
set_last-requires-in-Go c = rw c.as_str-in-Go.ensures.value (go-feed (string_bytes c.in-Go.text) (rw c.in-Go.is at c.requires))

pub set_last-requires-in-Require : goal.set_last-requires-in-Require
set_last-requires-in-Require c = rw c.as_str-in-Require.ensures.text (version-plain c.in-Require.version c.as_str-in-Require.ensures.version)

pub returns-in-Module : goal.returns-in-Module
returns-in-Module c = λ block within. rw c.in-Module.is (rw c.as_str.ensures.text at c.set_last.ensures block)

pub returns-in-Go : goal.returns-in-Go
returns-in-Go c = λ block within. rw c.in-Go.is (rw c.as_str-in-Go.ensures.value at c.set_last-in-Go.ensures block)

pub returns-in-Require : goal.returns-in-Require
returns-in-Require c = λ block within. rw c.in-Require.is (rw c.as_str-in-Require.ensures.text at c.set_last-in-Require.ensures block)
