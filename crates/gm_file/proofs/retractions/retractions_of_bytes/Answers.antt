use Rattle.gm_file.proofs.retractions.retractions_of_bytes.Goals as goal

pub returns-clause-ok : goal.returns-clause-ok
returns-clause-ok c = rw c.in_ok-reader.ensures.source at c.retractions_left.ensures.ok

pub returns-clause-fault : goal.returns-clause-fault
returns-clause-fault c = rw c.in_ok-reader.ensures.source at c.retractions_left.ensures.fault
