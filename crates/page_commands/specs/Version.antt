-- A copy from crates/gm_version/specs/Version.antt, which tools/check/headline.py writes.
use Rattle.std.specs.Prelude.{◌≡◌, ℕ, ◌⊎◌, List, [], ◌∷◌, codes, drop}
use Rattle.std.specs.Cmp.Lexicographic.{slice_cmp}
use Rattle.std.specs.Ordering.{nat_cmp, on, then_cmp}
use Rattle.std.specs.Result.{result_unwrap_or}
use Rattle.std.specs.declared.cmp.Ordering.{Ordering}
use Rattle.page_commands.specs.Types.{IsValid, parts_text, pre_cmp, Parts, version_parts}

-- the text of a version: `v`, then the three numbers, the pre-release and the build as SemVer writes them
abbrev pub version_text : Parts → List ℕ
version_text parts = 118 ∷ parts_text parts

-- no build, or the build `incompatible`
abbrev pub HasPlainBuild : Parts → Type 0
HasPlainBuild parts = (parts.4 ≡ []) ⊎ (parts.4 ≡ codes "incompatible")

-- a version
abbrev pub IsVersion : List ℕ → Type 0
IsVersion text = (parts : Parts) × IsValid parts × HasPlainBuild parts × (text ≡ version_text parts)

-- the parts of a version; zeros and empty texts if the text is not read
abbrev pub parts_in : List ℕ → Parts
parts_in text = result_unwrap_or (version_parts (drop 1 text)) (0, 0, 0, [], [])

-- the major number of a version, and its build
abbrev pub major_of : List ℕ → ℕ
major_of version = (parts_in version).0

abbrev pub build_of : List ℕ → List ℕ
build_of version = (parts_in version).4

-- precedence, as in section 11 of SemVer: by the numbers, then by the pre-release
abbrev pub precedence : Parts → Parts → Ordering
precedence = then_cmp (on (λ (p : Parts). p.0) nat_cmp) (then_cmp (on (λ (p : Parts). p.1) nat_cmp)
    (then_cmp (on (λ (p : Parts). p.2) nat_cmp) (on (λ (p : Parts). p.3) pre_cmp)))

-- the order of versions: by precedence, then by the text
abbrev pub version_cmp : List ℕ → List ℕ → Ordering
version_cmp = then_cmp (on parts_in precedence) (slice_cmp nat_cmp)
