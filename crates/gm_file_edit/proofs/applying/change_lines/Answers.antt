use Rattle.std.proofs.Common.{◌∙◌, None, refl, sym}
use Rattle.gm_file_edit.specs.About.{about}
use Rattle.gm_file_edit.specs.Edited.{with_change}
use Rattle.gm_file_edit.specs.Edits.{Set}
use Rattle.gm_file_edit.specs.Sound.{edit_of, setting_of}
use Rattle.gm_file_edit.proofs.Marks.{dropped-marked, marks-count, renew-is}
use Rattle.gm_file_edit.proofs.NewKeys.{key-of-rewritten, marks-at, rewritten-is}
use Rattle.gm_file_edit.proofs.Pairs.{document-sound}
use Rattle.gm_file_edit.proofs.applying.change_lines.Goals as goal

pub renew-requires-clause-marks : goal.renew-requires-clause-marks
renew-requires-clause-marks c = rw c.requires.marked (marks-count (about (edit_of c.args.change.now)) None c.args.lines.now)

pub renew-requires-clause-others : goal.renew-requires-clause-others
renew-requires-clause-others c = rw c.requires.marked (marks-at (about (edit_of c.args.change.now)) None c.args.lines.now)

pub renew-requires-clause-old_loose : goal.renew-requires-clause-old_loose
renew-requires-clause-old_loose c =
    (rewritten-is (setting_of c.in-Set.setting) c.args.lines.now (rw c.in-Set.is at c.requires.written) (rw c.in-Set.is at c.requires.fit)
    (document-sound c.args.lines.now c.requires.document c.requires.sound) (rw c.in-Set.is at c.requires.marked) c.requires.first c.requires.in_range
    c.in_ok-line-in-Set.ensures).was_loose

pub renew-requires-clause-loose : goal.renew-requires-clause-loose
renew-requires-clause-loose c =
    (rewritten-is (setting_of c.in-Set.setting) c.args.lines.now (rw c.in-Set.is at c.requires.written) (rw c.in-Set.is at c.requires.fit)
    (document-sound c.args.lines.now c.requires.document c.requires.sound) (rw c.in-Set.is at c.requires.marked) c.requires.first c.requires.in_range
    c.in_ok-line-in-Set.ensures).loose

pub renew-requires-clause-key : goal.renew-requires-clause-key
renew-requires-clause-key c =
    c.key_with-key.ensures
    ∙ key-of-rewritten c.setting_target.ensures c.key.ensures (rewritten-is (setting_of c.in-Set.setting) c.args.lines.now
    (rw c.in-Set.is at c.requires.written) (rw c.in-Set.is at c.requires.fit) (document-sound c.args.lines.now c.requires.document c.requires.sound)
    (rw c.in-Set.is at c.requires.marked) c.requires.first c.requires.in_range c.in_ok-line-in-Set.ensures)

pub pack-requires : goal.pack-requires
pack-requires c = rw c.requires.marked (marks-at (about (edit_of c.args.change.now)) None c.args.lines.now)

pub returns-in_ok-line-in-Set-clause-ok : goal.returns-in_ok-line-in-Set-clause-ok
unfolding with_change
returns-in_ok-line-in-Set-clause-ok c =
    rw c.in-Set.is (c.renew.ensures ∙ renew-is (Set (setting_of c.in-Set.setting)) c.args.lines.now _ _ (rw c.in-Set.is at c.requires.marked)
    c.requires.first c.requires.in_range c.in_ok-line-in-Set.ensures refl refl)

pub returns-in-Drop-clause-ok : goal.returns-in-Drop-clause-ok
unfolding with_change
returns-in-Drop-clause-ok c = rw c.in-Drop.is (rw (rw c.in-Drop.is at c.requires.marked) at c.pack.ensures ∙ sym (dropped-marked _ c.args.lines.now))

pub returns-in-Add-clause-ok : goal.returns-in-Add-clause-ok
unfolding with_change
returns-in-Add-clause-ok c = rw c.in-Add.is
