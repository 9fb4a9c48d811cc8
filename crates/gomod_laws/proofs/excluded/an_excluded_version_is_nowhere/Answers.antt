use Rattle.gomod_laws.proofs.ExcludedVersions.{no_fault_is_excluded, no_field_is_excluded, no_row_is_excluded, no_step_is_excluded}
use Rattle.gomod_laws.proofs.excluded.an_excluded_version_is_nowhere.Goals as goal

pub returns-clause-rows : goal.returns-clause-rows
returns-clause-rows c = no_row_is_excluded

pub returns-clause-fields : goal.returns-clause-fields
returns-clause-fields c = no_field_is_excluded

pub returns-clause-steps : goal.returns-clause-steps
returns-clause-steps c = no_step_is_excluded

pub returns-clause-faults : goal.returns-clause-faults
returns-clause-faults c = no_fault_is_excluded
