use Rattle.std.proofs.Common.{ap, ◌∙◌, Some}
use Rattle.gm_name_table.specs.Listed.{Appends}
use Rattle.gm_file.specs.Listed.{Head, with_requirements}
use Rattle.gm_file.proofs.DepReading.{dep-whole}
use Rattle.gm_file.proofs.ListEnds.{nothing_if_cut}
use Rattle.gm_file.proofs.dep_file.DepFile.read_listed.Goals as goal
use Rattle.gm_file.proofs.dep_file.DepFile.read_listed.Goals.{After-of_fields-file}

-- the requirements that were read were put to the end of the old list
list-back : (c : After-of_fields-file)
    → Appends c.args.modules.now c.of_fields-file.new.modules c.read_all-read.new.said.fields.requirements.items
list-back c =
    let taken = c.over-said.ensures.before ∙ c.at_end.ensures.before ∙ ap Some c.replace-list.ensures.value in
    c.of_fields-file.ensures.modules c.args.modules.now (c.read_all-read.ensures.before ∙ taken)

pub returns-in-Ok-clause-ok : goal.returns-in-Ok-clause-ok
returns-in-Ok-clause-ok c =
    let said = c.read_all-read.new.said in
    let listed = said.fields.requirements.items in
    let file = ap (λ (head : Head). with_requirements head listed) c.of_fields-file.ensures.file in (
      listed,
      list-back (goal.at.returns-in-Ok-clause-ok c).After-of_fields-file,
      dep-whole c.args.bytes.now said _ c.in-Ok.ensures.ok file,
    )

pub returns-clause-err : goal.returns-clause-err
returns-clause-err c =
    let listed = c.read_all-read.new.said.fields.requirements.items in
    nothing_if_cut c.args.modules.now c.of_fields-file.new.modules c.truncate.new.self listed
    (list-back (goal.at.returns-clause-err c).After-of_fields-file) c.truncate.ensures.modules
    (rw c.len-start.ensures.len at c.truncate.ensures.numbers)
