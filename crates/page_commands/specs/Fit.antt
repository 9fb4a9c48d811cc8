-- A copy from crates/gm_name/specs/Fit.antt, which tools/check/headline.py writes.
use Rattle.std.specs.Prelude.{◌≡◌, ℕ, ◌<◌, ◌≤◌, ◌⊎◌, List, [], ◌++◌, codes}
use Rattle.page_commands.specs.Path.{HasMajor}
use Rattle.page_commands.specs.Version.{build_of, major_of}
use Rattle.page_commands.specs.Types.Major.{Major, NoSuffix, Slash, Dot}

-- the version fits a path with this major version
abbrev pub FitsMajor : Major → List ℕ → Type 0
FitsMajor (Slash n) version = (major_of version ≡ n) × (build_of version ≡ [])
FitsMajor (Dot n) version =
    ((major_of version ≡ n) ⊎ ((n ≡ 1) × (rest : List ℕ) × (version ≡ codes "v0.0.0-" ++ rest)))
    × (build_of version ≡ [])
FitsMajor NoSuffix version = ((major_of version < 2) × (build_of version ≡ []))
    ⊎ ((2 ≤ major_of version) × (build_of version ≡ codes "incompatible"))

-- the version fits the path
abbrev pub Fits : List ℕ → List ℕ → Type 0
Fits path version = (major : Major) × HasMajor path major × FitsMajor major version
