use Rattle.gomod_outcomes.proofs.versions.read_answer.Goals as goal

pub returns-in-Bytes-clause-reading : goal.returns-in-Bytes-clause-reading
returns-in-Bytes-clause-reading c = λ name. rw (c.in-Bytes.is, ← c.as_slice.ensures.value) c.of_bytes.ensures.reading

pub returns-in-Bytes-clause-retracts : goal.returns-in-Bytes-clause-retracts
returns-in-Bytes-clause-retracts c = rw (c.in-Bytes.is, ← c.as_slice.ensures.value) c.of_bytes.ensures.retracts
