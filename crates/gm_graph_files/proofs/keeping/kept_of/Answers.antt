use Rattle.std.proofs.Common.{List, Ok, ap, refl}
use Rattle.std.proofs.lemmas.Bool.{false≢true}
use Rattle.gm_name.specs.ModuleVersion.{ModuleVersion}
use Rattle.gm_file.specs.Listed.{with_requirements}
use Rattle.gm_graph_files.proofs.KeptLists.{no_list_noted}
use Rattle.gm_graph_files.proofs.SharedLists.{cut_appends}
use Rattle.gm_graph_files.proofs.keeping.kept_of.Goals as goal

pub kept_list-requires-clause-start : goal.kept_list-requires-clause-start
kept_list-requires-clause-start c = c.requires.start

pub kept_list-requires-clause-listed : goal.kept_list-requires-clause-listed
kept_list-requires-clause-listed c = c.requires.listed

pub kept_list-requires-clause-notes : goal.kept_list-requires-clause-notes
kept_list-requires-clause-notes c = c.requires.notes

-- ---- memory ran out

pub returns-in_err-list-in-Valid-clause-grows : goal.returns-in_err-list-in-Valid-clause-grows
returns-in_err-list-in-Valid-clause-grows c = c.kept_list.ensures.grows

-- ---- the file is valid

pub returns-in_ok-list-in-Valid-clause-reading : goal.returns-in_ok-list-in-Valid-clause-reading
returns-in_ok-list-in-Valid-clause-reading c =
    rw c.in-Valid.is
    (ap (λ (requirements : List ModuleVersion). Ok (with_requirements c.in-Valid.file requirements)) c.in_ok-list-in-Valid.ensures.has)

pub returns-in_ok-list-in-Valid-clause-cut : goal.returns-in_ok-list-in-Valid-clause-cut
returns-in_ok-list-in-Valid-clause-cut c = c.in_ok-list-in-Valid.ensures.cut

pub returns-in_ok-list-in-Valid-clause-next : goal.returns-in_ok-list-in-Valid-clause-next
returns-in_ok-list-in-Valid-clause-next c = c.in_ok-list-in-Valid.ensures.next c.in-Valid.file

pub returns-in_ok-list-in-Valid-clause-grows : goal.returns-in_ok-list-in-Valid-clause-grows
returns-in_ok-list-in-Valid-clause-grows c = c.kept_list.ensures.grows

-- ---- it has a fault

pub returns-in-Faulty-clause-next : goal.returns-in-Faulty-clause-next
returns-in-Faulty-clause-next c = no_list_noted c.args.lists.now c.args.modules.now.numbers c.args.files.now c.requires.notes _ refl

pub returns-in-Faulty-clause-grows : goal.returns-in-Faulty-clause-grows
returns-in-Faulty-clause-grows c = (_, cut_appends c.args.modules.now c.args.start)

pub returns-in-Faulty-clause-cut : goal.returns-in-Faulty-clause-cut
returns-in-Faulty-clause-cut c = λ shared. absurd (false≢true shared)
