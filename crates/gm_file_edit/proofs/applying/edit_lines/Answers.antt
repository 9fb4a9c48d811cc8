use Rattle.std.proofs.Common.{◌∙◌, arith, sym}
use Rattle.gm_file_edit.specs.Sound.{edit_of}
use Rattle.gm_file_edit.proofs.Marks.{edited-idle, edited-new, edited-there}
use Rattle.gm_file_edit.proofs.Pairs.{document-sound}
use Rattle.gm_file_edit.proofs.applying.edit_lines.Goals as goal

pub put_in-requires-clause-closed : goal.put_in-requires-clause-closed
put_in-requires-clause-closed c = (document-sound c.args.lines.now c.requires.document c.requires.sound).closed

pub put_in-requires-2-clause-closed : goal.put_in-requires-2-clause-closed
put_in-requires-2-clause-closed c = (document-sound c.args.lines.now c.requires.document c.requires.sound).closed

pub returns-then-not-any_agrees-clause-ok : goal.returns-then-not-any_agrees-clause-ok
returns-then-not-any_agrees-clause-ok c =
    rw (edited-idle (edit_of c.args.change.now) c.args.lines.now c.key_with-wanted.ensures c.target_of-target.ensures c.takes_any_version.ensures c.keys.ensures.keys
    (sym c.any_agrees.ensures ∙ c.if-not-any_agrees.true)) c.put_in.ensures.ok

pub returns-then-first-len-clause-ok : goal.returns-then-first-len-clause-ok
returns-then-first-len-clause-ok c =
    rw (edited-there (edit_of c.args.change.now) c.args.lines.now _ (c.as_slice.ensures.value ∙ c.in_ok-marks.ensures) c.first_mark-first.ensures
    (omega (arith, c.len.ensures, c.if-first-len.true))) c.change_lines.ensures.ok

pub returns-clause-ok : goal.returns-clause-ok
returns-clause-ok c =
    rw (edited-new (edit_of c.args.change.now) c.args.lines.now _ (c.as_slice.ensures.value ∙ c.in_ok-marks.ensures) c.first_mark-first.ensures
    (omega (arith, c.len.ensures, c.if-first-len.false))) c.put_in-2.ensures.ok
