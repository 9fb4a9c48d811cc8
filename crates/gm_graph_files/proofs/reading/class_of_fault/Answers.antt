use Rattle.gm_graph_files.proofs.Misread.{class-of_few, class-of_many}
use Rattle.gm_graph_files.proofs.reading.class_of_fault.Goals as goal

pub returns-in-Misread-clause-reading : goal.returns-in-Misread-clause-reading
returns-in-Misread-clause-reading c = λ content is few.
    class-of_few content c.in-Misread.line c.in-Misread.kind (rw c.in-Misread.is at is) few

pub returns-in-Misread-clause-too_many : goal.returns-in-Misread-clause-too_many
returns-in-Misread-clause-too_many c = λ content is many.
    class-of_many content c.in-Misread.line c.in-Misread.kind (rw c.in-Misread.is at is) many
