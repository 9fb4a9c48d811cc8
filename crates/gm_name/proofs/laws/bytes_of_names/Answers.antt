use Rattle.gm_name.proofs.Bytes.{path-bytes, version-bytes}
use Rattle.gm_name.proofs.laws.bytes_of_names.Goals as goal

pub returns-clause-path : goal.returns-clause-path
returns-clause-path c = path-bytes

pub returns-clause-version : goal.returns-clause-version
returns-clause-version c = version-bytes
