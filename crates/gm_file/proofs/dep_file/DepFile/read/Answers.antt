use Rattle.gm_file.proofs.dep_file.DepFile.read.Goals as goal

pub returns-clause-ok : goal.returns-clause-ok
returns-clause-ok c = rw c.lines.ensures.lines at c.read_lines.ensures.ok

pub returns-clause-retracts : goal.returns-clause-retracts
returns-clause-retracts c = rw c.lines.ensures.lines at c.read_lines.ensures.retracts

pub returns-clause-fault : goal.returns-clause-fault
returns-clause-fault c = rw c.lines.ensures.lines at c.read_lines.ensures.fault
