-- What a reader says by its result: one fact for each case.
use Rattle.std.specs.Prelude.{◌≡◌, ℕ, List, Result, Ok, Err}
use Rattle.gm_version.specs.Version.{IsNotCanonical, IsSemVer, IsVersion}
use Rattle.gm_version.specs.declared.version.VersionFault.{VersionFault}
use Rattle.gm_version.specs.declared.version.VersionFault.TheVariants as version

-- of a version in a text
abbrev pub VersionReading : List ℕ → Result (List ℕ) VersionFault → Type 0
VersionReading text (Ok version) = (version ≡ text) × IsVersion text
VersionReading text (Err version.NoMemory) = IsSemVer text
VersionReading text (Err version.BadVersion) = ¬ (IsVersion text) × ¬ (IsNotCanonical text)
VersionReading text (Err version.NotCanonical) = IsNotCanonical text × ¬ (IsVersion text)
