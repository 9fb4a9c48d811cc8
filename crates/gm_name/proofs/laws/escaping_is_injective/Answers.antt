use Rattle.gm_name.proofs.Bytes.{path_has_no_bang, version_has_no_bang}
use Rattle.gm_version.proofs.Escapes.{escaped-injective}
use Rattle.gm_name.proofs.laws.escaping_is_injective.Goals as goal

pub returns-clause-path : goal.returns-clause-path
returns-clause-path c = path_has_no_bang

pub returns-clause-version : goal.returns-clause-version
returns-clause-version c = version_has_no_bang

pub returns-clause-paths : goal.returns-clause-paths
returns-clause-paths c = λ p q is_p is_q same. escaped-injective p q (path_has_no_bang p is_p) (path_has_no_bang q is_q) same

pub returns-clause-versions : goal.returns-clause-versions
returns-clause-versions c = λ v w is_v is_w same. escaped-injective v w (version_has_no_bang v is_v) (version_has_no_bang w is_w) same
