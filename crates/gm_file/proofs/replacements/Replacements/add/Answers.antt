use Rattle.std.proofs.Common.{List, subst, sym}
use Rattle.std.proofs.lemmas.Result.{err_from_is_err_and}
use Rattle.gm_file.specs.Directives.{Replacing}
use Rattle.gm_file.specs.Indexes.{IndexLines}
use Rattle.gm_file.proofs.Indexed.{seen-more}
use Rattle.gm_file.proofs.replacements.Replacements.add.Goals as goal

pub returns-in_err-note_line-clause-conflict : goal.returns-in_err-note_line-clause-conflict
returns-in_err-note_line-clause-conflict c =
    let p = err_from_is_err_and c.from_residual.result c.from_residual.ensures.1 in
    rw (p.1, p.2) c.in_err-note_line.ensures.conflict

pub returns-clause-lines : goal.returns-clause-lines
returns-clause-lines c = seen-more c.args.self.now.lines.items c.note_line.new.self.lines.items c.push.new.self.items
    c.args.replace c.note_line.ensures.lines c.in_ok-push.ensures.items

pub returns-clause-indexed : goal.returns-clause-indexed
returns-clause-indexed c =
    subst (λ (rs : List Replacing). IndexLines rs c.note_line.new.self.by_version c.note_line.new.self.by_path)
    (sym (seen-more c.args.self.now.lines.items c.note_line.new.self.lines.items c.push.new.self.items c.args.replace
    c.note_line.ensures.lines c.in_ok-push.ensures.items)) c.in_ok-note_line.ensures.indexed

pub returns-clause-conflict : goal.returns-clause-conflict
returns-clause-conflict c = c.in_ok-note_line.ensures.conflict
