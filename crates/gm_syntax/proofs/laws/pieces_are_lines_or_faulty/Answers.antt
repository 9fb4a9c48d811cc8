use Rattle.gm_syntax.proofs.OneText.{either_at, not_both_at, one_line_at, one_fault_at, no_open_block_at}
use Rattle.gm_syntax.proofs.laws.pieces_are_lines_or_faulty.Goals as goal

pub returns-clause-either : goal.returns-clause-either
returns-clause-either c = λ inside piece. either_at inside piece

pub returns-clause-never_both : goal.returns-clause-never_both
returns-clause-never_both c = λ inside piece line kind a. not_both_at inside piece line kind a

pub returns-clause-one_line : goal.returns-clause-one_line
returns-clause-one_line c = λ inside piece line other a b. one_line_at inside piece line other a b

pub returns-clause-one_fault : goal.returns-clause-one_fault
returns-clause-one_fault c = λ inside piece kind other a b. one_fault_at inside piece kind other a b

pub returns-clause-never_open_block : goal.returns-clause-never_open_block
returns-clause-never_open_block c = λ inside piece f. no_open_block_at inside piece f
