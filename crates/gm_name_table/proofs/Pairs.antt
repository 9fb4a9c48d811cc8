-- The clauses of a reader, from what it says by its result.
use Rattle.std.proofs.Common.{ℕ, List, Err}
use Rattle.gm_name.specs.Path.{IsPath}
use Rattle.gm_name_table.specs.Pairs.{pair_fault_of_path, pair_fault_of_version, PairReading}
use Rattle.gm_version.specs.Readings.{VersionReading}
use Rattle.gm_name.specs.Readings.{PathReading}
use Rattle.gm_name.specs.declared.path.PathFault.{PathFault}
use Rattle.gm_name.specs.declared.path.PathFault.TheVariants as path
use Rattle.gm_version.specs.declared.version.VersionFault.{VersionFault}
use Rattle.gm_version.specs.declared.version.VersionFault.TheVariants as version

-- a path that is not read
pub of-path : (p v : List ℕ) (fault : PathFault) → PathReading p (Err fault) → PairReading p v (Err (pair_fault_of_path fault))
of-path p v path.NoMemory read = read
of-path p v path.BadPath read = read

-- a version that is not read, beside a path
pub of-version : (p v : List ℕ) (fault : VersionFault) → IsPath p → VersionReading v (Err fault)
    → PairReading p v (Err (pair_fault_of_version fault))
of-version p v version.NoMemory is read = is
of-version p v version.BadVersion is read = (is, read.0)
of-version p v version.NotCanonical is read = (is, read.1)
