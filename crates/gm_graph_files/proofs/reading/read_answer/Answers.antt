use Rattle.std.proofs.Common.{[]}
use Rattle.gm_graph_files.proofs.SharedLists.{appends_none}
use Rattle.gm_graph_files.proofs.reading.read_answer.Goals as goal

-- ---- nothing was put to the list of modules

pub returns-in-Absent-clause-faulty : goal.returns-in-Absent-clause-faulty
returns-in-Absent-clause-faulty c = appends_none c.args.modules.now

pub returns-in-TooLong-clause-faulty : goal.returns-in-TooLong-clause-faulty
returns-in-TooLong-clause-faulty c = appends_none c.args.modules.now

pub returns-in-Some-clause-faulty : goal.returns-in-Some-clause-faulty
returns-in-Some-clause-faulty c = appends_none c.args.modules.now

pub returns-in_err-expect_path-clause-grows : goal.returns-in_err-expect_path-clause-grows
returns-in_err-expect_path-clause-grows c = ([], appends_none c.args.modules.now)

pub returns-in-Absent-clause-grows : goal.returns-in-Absent-clause-grows
returns-in-Absent-clause-grows c = ([], appends_none c.args.modules.now)

pub returns-in-TooLong-clause-grows : goal.returns-in-TooLong-clause-grows
returns-in-TooLong-clause-grows c = ([], appends_none c.args.modules.now)

pub returns-in-Some-clause-grows : goal.returns-in-Some-clause-grows
returns-in-Some-clause-grows c = ([], appends_none c.args.modules.now)

-- ---- the names keep to their room

pub returns-in-Absent-clause-within : goal.returns-in-Absent-clause-within
returns-in-Absent-clause-within c = c.expect_path.ensures.within

pub returns-in-TooLong-clause-within : goal.returns-in-TooLong-clause-within
returns-in-TooLong-clause-within c = c.expect_path.ensures.within

pub returns-in-Some-clause-within : goal.returns-in-Some-clause-within
returns-in-Some-clause-within c = c.expect_path.ensures.within

pub returns-in-Ok-clause-within : goal.returns-in-Ok-clause-within
returns-in-Ok-clause-within c = λ room. c.read_listed.ensures.within (c.expect_path.ensures.within room)

pub returns-in_ok-class_of_fault-in-Err-clause-within : goal.returns-in_ok-class_of_fault-in-Err-clause-within
returns-in_ok-class_of_fault-in-Err-clause-within c = λ room. c.read_listed.ensures.within (c.expect_path.ensures.within room)

pub returns-in_err-class_of_fault-in-Err-clause-within : goal.returns-in_err-class_of_fault-in-Err-clause-within
returns-in_err-class_of_fault-in-Err-clause-within c = λ room. c.read_listed.ensures.within (c.expect_path.ensures.within room)
