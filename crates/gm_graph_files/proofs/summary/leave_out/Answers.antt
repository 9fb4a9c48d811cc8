use Rattle.std.proofs.Common.{◌≡◌, ◌∙◌, List, ap, drop, sym, subst}
use Rattle.std.specs.List.{list_any}
use Rattle.std.specs.Prelude.{OnOk}
use Rattle.gm_name.specs.ModuleVersion.{ModuleVersion}
use Rattle.gm_name_table.specs.Listed.{Appends, NumberedList, modules_of, part}
use Rattle.gm_file.specs.Main.{is_excluded, without_excluded}
use Rattle.gm_graph_files.specs.KeptFiles.{Grows, front_of}
use Rattle.gm_graph_files.proofs.Excluding.{all_others}
use Rattle.gm_graph_files.proofs.SharedLists.{cut_appends, cut_is, end_part}
use Rattle.gm_graph_files.proofs.summary.leave_out.Goals.{After-len-end}
use Rattle.gm_graph_files.proofs.summary.leave_out.Goals as goal

-- what is looked at is what follows the front
rest : (c : After-len-end) → part c.args.start c.len-end.result (modules_of c.args.modules.now) ≡ drop c.args.start (modules_of c.args.modules.now)
rest c = ap (λ end. part c.args.start end (modules_of c.args.modules.now)) c.len-end.ensures.len ∙ end_part c.args.modules.now c.args.start

pub returns-then-not-has_excluded-clause-ok : goal.returns-then-not-has_excluded-clause-ok
returns-then-not-has_excluded-clause-ok c =
    let main = c.args.main.now in
    let old = c.args.modules.now in
    let at = (goal.at.returns-then-not-has_excluded-clause-ok c).After-len-end in
    subst (Appends (front_of c.args.start old) old)
    (all_others (is_excluded main) (drop c.args.start (modules_of old))
    (ap (list_any (is_excluded main)) (sym (rest at) ∙ sym c.part.ensures) ∙ sym c.has_excluded.ensures ∙ c.if-not-has_excluded.true))
    (cut_appends old c.args.start)

pub returns-then-not-has_excluded-clause-grows : goal.returns-then-not-has_excluded-clause-grows
returns-then-not-has_excluded-clause-grows c = (_, cut_appends c.args.modules.now c.args.start)

pub returns-in_err-others-clause-grows : goal.returns-in_err-others-clause-grows
returns-in_err-others-clause-grows c = (_, cut_appends c.args.modules.now c.args.start)

pub returns-clause-ok : goal.returns-clause-ok
returns-clause-ok c =
    let old = c.args.modules.now in
    let at = (goal.at.returns-clause-ok c).After-len-end in
    let is = cut_is old c.args.start c.truncate.new.self c.truncate.ensures.modules c.truncate.ensures.numbers in
    let left : c.deref.result.now ≡ without_excluded c.args.main.now (drop c.args.start (modules_of old)) =
    c.deref.ensures.value ∙ c.in_ok-others.ensures ∙ ap (without_excluded c.args.main.now) (c.part-2.ensures ∙ rest at) in
    subst (λ (list : NumberedList). OnOk c.append.result (Appends list c.append.new.modules (without_excluded c.args.main.now (drop c.args.start (modules_of old))))) is
    (subst (λ (more : List ModuleVersion). OnOk c.append.result (Appends c.truncate.new.self c.append.new.modules more)) left c.append.ensures.ok)

pub returns-clause-grows : goal.returns-clause-grows
returns-clause-grows c =
    subst (λ (list : NumberedList). Grows list c.append.new.modules)
    (cut_is c.args.modules.now c.args.start c.truncate.new.self c.truncate.ensures.modules c.truncate.ensures.numbers) c.append.ensures.grows
