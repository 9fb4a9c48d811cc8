-- The latest of a module's versions. SemVer 2.0.0, section 9: "A pre-release version indicates that the version is
-- unstable", so it is the greatest release, and the greatest of all versions only if each is a pre-release.
use Rattle.std.specs.Prelude.{◌≡◌, ◌⊎◌, ℕ, ◌==◌, ◌||◌, not, Bool, true, false, List, length, Contains}
use Rattle.std.specs.Ordering.{is_gt}
use Rattle.gm_version.specs.Version.{parts_in, version_cmp}

-- a version without a pre-release
abbrev pub is_release : List ℕ → Bool
is_release version = length (parts_in version).3 == 0

-- whether a version is considered: any version, or only a release
abbrev pub counts : Bool → List ℕ → Bool
counts releases_only version = not releases_only || is_release version

-- the version is considered, and no considered version is greater
pub record IsGreatest (releases_only : Bool) (versions : List (List ℕ)) (version : List ℕ) : Type 0 where
  pub listed : Contains versions version
  pub counted : counts releases_only version ≡ true
  pub greatest : (other : List ℕ) → Contains versions other → counts releases_only other ≡ true
      → is_gt (version_cmp other version) ≡ false

-- no version is considered
abbrev pub NoneConsidered : Bool → List (List ℕ) → Type 0
NoneConsidered releases_only versions = (other : List ℕ) → Contains versions other
    → counts releases_only other ≡ false

-- the greatest release, or the greatest version if there is no release
abbrev pub IsLatest : List (List ℕ) → List ℕ → Type 0
IsLatest versions version = IsGreatest true versions version
    ⊎ (NoneConsidered true versions × IsGreatest false versions version)
