-- What reading a pair says by its result, and its fault if its path or its version is not read.
use Rattle.std.specs.Prelude.{◌≡◌, ℕ, List, Result, Ok, Err}
use Rattle.gm_name.specs.Fit.{Fits}
use Rattle.gm_name.specs.Path.{IsPath}
use Rattle.gm_version.specs.Version.{IsVersion}
use Rattle.gm_name_table.specs.declared.known_names.PairFault.{PairFault}
use Rattle.gm_name_table.specs.declared.known_names.PairFault.TheVariants as pair
use Rattle.gm_name.specs.declared.path.PathFault.{PathFault}
use Rattle.gm_name.specs.declared.path.PathFault.TheVariants as path
use Rattle.gm_version.specs.declared.version.VersionFault.{VersionFault}
use Rattle.gm_version.specs.declared.version.VersionFault.TheVariants as version

abbrev pub pair_fault_of_path : PathFault → PairFault
pair_fault_of_path path.NoMemory = pair.NoMemory
pair_fault_of_path path.BadPath = pair.BadPath

abbrev pub pair_fault_of_version : VersionFault → PairFault
pair_fault_of_version version.NoMemory = pair.NoMemory
pair_fault_of_version version.NotCanonical = pair.BadVersion
pair_fault_of_version version.BadVersion = pair.BadVersion

-- of a pair in two texts
abbrev pub PairReading : List ℕ → List ℕ → Result (List ℕ × List ℕ) PairFault → Type 0
PairReading path version (Ok pair) = (pair ≡ (path, version)) × IsPath path × IsVersion version × Fits path version
PairReading path version (Err pair.NoMemory) = IsPath path
PairReading path version (Err pair.BadPath) = ¬ (IsPath path)
PairReading path version (Err pair.BadVersion) = IsPath path × ¬ (IsVersion version)
PairReading path version (Err pair.Misfit) = IsPath path × IsVersion version × ¬ (Fits path version)
