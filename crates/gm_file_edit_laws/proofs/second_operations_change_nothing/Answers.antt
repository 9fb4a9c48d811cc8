use Rattle.gm_file_edit_laws.proofs.SecondOperations.{second-operation}
use Rattle.gm_file_edit_laws.proofs.second_operations_change_nothing.Goals as goal

pub returns : goal.returns
returns c = second-operation
