use Rattle.gomod_laws.proofs.CounterLists.{main_is_missing, path_is_twice, required_has_no_row, row_is_not_required, row_is_too_low, rows_are_unordered}
use Rattle.gomod_laws.proofs.counterexamples.listings.a_list_can_be_no_build_list.Goals as goal

pub returns-clause-twice : goal.returns-clause-twice
returns-clause-twice c = path_is_twice

pub returns-clause-unordered : goal.returns-clause-unordered
returns-clause-unordered c = rows_are_unordered

pub returns-clause-no_main : goal.returns-clause-no_main
returns-clause-no_main c = main_is_missing

pub returns-clause-low : goal.returns-clause-low
returns-clause-low c = row_is_too_low

pub returns-clause-missing : goal.returns-clause-missing
returns-clause-missing c = required_has_no_row

pub returns-clause-not_required : goal.returns-clause-not_required
returns-clause-not_required c = row_is_not_required
