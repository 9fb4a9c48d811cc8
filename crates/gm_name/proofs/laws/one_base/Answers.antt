use Rattle.gm_name.proofs.BaseVersions.{base-forms, base-lower, base-unique, base-version}
use Rattle.gm_name.proofs.laws.one_base.Goals as goal

pub returns-clause-one : goal.returns-clause-one
returns-clause-one c = base-unique

pub returns-clause-version : goal.returns-clause-version
returns-clause-version c = base-version

pub returns-clause-lower : goal.returns-clause-lower
returns-clause-lower c = base-lower

pub returns-clause-forms : goal.returns-clause-forms
returns-clause-forms c = base-forms
