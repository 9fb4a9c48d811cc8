-- The kinds of faults of paths, versions and pairs, from the facts of gm_name.
use Rattle.std.proofs.Common.{◌≡◌, ◌↔◌, ℕ, Bool, true, false, List, [], ◌∷◌, Err, IsErr, Ok, Result, Some, refl, ap}
use Rattle.gm_file.specs.declared.fault.DirectiveKind.TheVariants.{BadPath, BadVersion, Misfit, WrongArguments}
use Rattle.gm_file.specs.declared.fault.LineFault.{LineFault}
use Rattle.gm_file.specs.Faults.{pair_kinds, path_kinds, unless, version_kinds}
use Rattle.gm_file.specs.Private.Reading.{IsPartRead}
use Rattle.gm_file.specs.Views.{of_pair_fault, of_path_fault, of_version_fault}
use Rattle.gm_name_table.specs.declared.known_names.PairFault.{PairFault}
use Rattle.gm_name_table.specs.declared.known_names.PairFault.TheVariants as pair
use Rattle.gm_name.specs.declared.path.PathFault.{PathFault}
use Rattle.gm_name.specs.declared.path.PathFault.TheVariants as path
use Rattle.gm_version.specs.declared.version.VersionFault.{VersionFault}
use Rattle.gm_version.specs.declared.version.VersionFault.TheVariants as version
use Rattle.gm_name.specs.ModuleVersion.{ModuleVersion}
use Rattle.gm_file.specs.Fields.{first}
use Rattle.gm_name.proofs.NameTests.{fit-tested, path-tested, version-tested}
use Rattle.gm_name.specs.Fit.{Fits}
use Rattle.gm_name.specs.Names.{does_fit}
use Rattle.gm_name.specs.Path.{IsPath}
use Rattle.gm_version.specs.Readings.{VersionReading}
use Rattle.gm_name.specs.Readings.{PathReading}
use Rattle.gm_name_table.specs.Pairs.{PairReading}
use Rattle.gm_version.specs.Version.{IsVersion}

pub not-tested : (b : Bool) (P : Type 0) → (b ≡ true ↔ P) → ¬ P → b ≡ false
not-tested true P is none = absurd (none (is.0 refl))
not-tested false P is none = refl

pub path-sound : (text : List ℕ) → IsPath text → path_kinds text ≡ []
path-sound text holds = rw ((path-tested _).1 holds)

pub path-bad : {text : List ℕ} → ¬ (IsPath text) → path_kinds text ≡ BadPath ∷ []
path-bad fails = rw (not-tested _ _ (path-tested _) fails)

pub version-sound : (text : List ℕ) → IsVersion text → version_kinds text ≡ []
version-sound text holds = rw ((version-tested _).1 holds)

pub version-bad : {text : List ℕ} → ¬ (IsVersion text) → version_kinds text ≡ BadVersion ∷ []
version-bad fails = rw (not-tested _ _ (version-tested _) fails)

pub fit-sound : {path version : List ℕ} → Fits path version → unless (does_fit path version) Misfit ≡ []
fit-sound holds = rw ((fit-tested _ _).1 holds)

pub fit-bad : {path version : List ℕ} → ¬ (Fits path version) → unless (does_fit path version) Misfit ≡ Misfit ∷ []
fit-bad fails = rw (not-tested _ _ (fit-tested _ _) fails)

pub pair-sound : (path version : List ℕ) → path_kinds path ≡ [] → version_kinds version ≡ [] → Fits path version → pair_kinds (path, version) ≡ []
pair-sound path version p v fit = rw (p, v) (fit-sound fit)

pub pair-misfit : {path version : List ℕ} → path_kinds path ≡ [] → version_kinds version ≡ [] → ¬ (Fits path version)
    → first (pair_kinds (path, version)) ≡ Some Misfit
pair-misfit p v none = rw (p, v, fit-bad none) refl

-- two texts of which one is invalid
pub pair-bad-path : (path version : List ℕ) → ¬ (IsPath path) → first (pair_kinds (path, version)) ≡ Some BadPath
pair-bad-path path version fails = rw (path-bad fails) refl

pub pair-bad-version : {path version : List ℕ} → IsPath path → ¬ (IsVersion version) → first (pair_kinds (path, version)) ≡ Some BadVersion
pair-bad-version holds fails = rw (path-sound _ holds, version-bad fails) refl

-- ---- names that are refused: the fault of the line is the first of its kinds

pub refused-as : {Y : Type 0} (r : Result Y LineFault) (f : LineFault) → IsErr r → ((h : LineFault) → r ≡ Err h → h ≡ f) → r ≡ Err f
refused-as (Ok y) f is same = absurd (cc is)
refused-as (Err h) f is same = ap Err (same h refl)

pub path-kind : (text : List ℕ) (e : PathFault) → PathReading text (Err e)
    → IsPartRead {X = List ℕ} {Y = List ℕ} (λ p. p) WrongArguments path_kinds (Some text) (Err (of_path_fault e))
path-kind text path.NoMemory read = tt
path-kind text path.BadPath read = rw (path-bad read) refl

pub version-kind : (text : List ℕ) (e : VersionFault) → VersionReading text (Err e)
    → IsPartRead {X = List ℕ} {Y = List ℕ} (λ v. v) WrongArguments version_kinds (Some text) (Err (of_version_fault e))
version-kind text version.NoMemory read = tt
version-kind text version.BadVersion read = rw (version-bad read.0) refl
version-kind text version.NotCanonical read = rw (version-bad read.1) refl

pub pair-kind : (path version : List ℕ) (e : PairFault) → PairReading path version (Err e)
    → IsPartRead {X = ModuleVersion} {Y = ModuleVersion} (λ p. p) WrongArguments pair_kinds (Some (path, version)) (Err (of_pair_fault e))
pair-kind path version pair.NoMemory read = tt
pair-kind path version pair.BadPath read = pair-bad-path _ _ read
pair-kind path version pair.BadVersion read = pair-bad-version read.0 read.1
pair-kind path version pair.Misfit read = pair-misfit (path-sound _ read.0) (version-sound _ read.1) read.2
