use Rattle.gomod_laws.proofs.SumsAlike.{needless_lines_change_nothing, sum_lines_in_any_order}
use Rattle.gomod_laws.proofs.sums.sum_lines_in_any_order.Goals as goal

pub returns-clause-order : goal.returns-clause-order
returns-clause-order c = sum_lines_in_any_order

pub returns-clause-needless : goal.returns-clause-needless
returns-clause-needless c = needless_lines_change_nothing
