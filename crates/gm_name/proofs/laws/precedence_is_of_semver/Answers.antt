use Rattle.gm_name.proofs.Precedence.{precedence-higher, precedence-lower, precedence-same}
use Rattle.gm_name.proofs.laws.precedence_is_of_semver.Goals as goal

pub returns-clause-lower : goal.returns-clause-lower
returns-clause-lower c = precedence-lower

pub returns-clause-same : goal.returns-clause-same
returns-clause-same c = λ p q _ _. precedence-same p q

pub returns-clause-higher : goal.returns-clause-higher
returns-clause-higher c = precedence-higher
