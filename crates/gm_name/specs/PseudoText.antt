-- Go Modules Reference, "Pseudo-versions": the three forms and their base versions as whole texts, where specs/Pseudo
-- goes by the parts of a version. The law `pseudo_is_spelled` says that the two agree.
use Rattle.std.specs.Prelude.{◌≡◌, ℕ, ◌+◌, ◌^◌, ◌<◌, ◌⊎◌, true, List, [], ◌++◌, length, codes}
use Rattle.std.specs.Char.{is_ascii_alphanumeric, is_ascii_digit}
use Rattle.std.specs.Fmt.{decimal}
use Rattle.std.specs.List.{list_all}
use Rattle.semver.specs.Grammar.{is_pre_release}

-- TIME-REVISION and what follows: a time of fourteen digits, a revision of one or more letters and digits, and then
-- nothing or `+incompatible`
pub record IsEnd (end time revision build : List ℕ) : Type 0 where
  pub joined : end ≡ time ++ codes "-" ++ revision ++ build
  pub fourteen : length time ≡ 14
  pub digits : list_all is_ascii_digit time ≡ true
  pub some : 0 < length revision
  pub letters_or_digits : list_all is_ascii_alphanumeric revision ≡ true
  pub plain : (build ≡ []) ⊎ (build ≡ codes "+incompatible")

-- X, Y and Z: numbers below 2 ^ 64
abbrev pub AreNumbers : ℕ → ℕ → ℕ → Type 0
AreNumbers x y z = (x < 2 ^ 64) × (y < 2 ^ 64) × (z < 2 ^ 64)

-- vX.Y.Z, its numbers written without leading zeros
abbrev pub release : ℕ → ℕ → ℕ → List ℕ
release x y z = codes "v" ++ decimal x ++ codes "." ++ decimal y ++ codes "." ++ decimal z

-- BEFORE: a pre-release that is not empty
abbrev pub IsBefore : List ℕ → Type 0
IsBefore before = (0 < length before) × (is_pre_release before ≡ true)

-- form 1: vX.0.0-TIME-REVISION
abbrev pub first_text : ℕ → List ℕ → List ℕ
first_text x end = codes "v" ++ decimal x ++ codes ".0.0-" ++ end

-- form 2: vX.Y.Z-BEFORE.0.TIME-REVISION
abbrev pub second_text : ℕ → ℕ → ℕ → List ℕ → List ℕ → List ℕ
second_text x y z before end = release x y z ++ codes "-" ++ before ++ codes ".0." ++ end

-- form 3: vX.Y.(Z+1)-0.TIME-REVISION
abbrev pub third_text : ℕ → ℕ → ℕ → List ℕ → List ℕ
third_text x y z end = release x y (z + 1) ++ codes "-0." ++ end

-- the text of a pseudo-version of this form, with its time and revision
abbrev pub IsPseudoText : List ℕ → ℕ → List ℕ → List ℕ → Type 0
IsPseudoText version form time revision = (end build : List ℕ) × IsEnd end time revision build
    × (((form ≡ 1) × (x : ℕ) × (x < 2 ^ 64) × (version ≡ first_text x end))
    ⊎ ((form ≡ 2) × (x y z : ℕ) × (before : List ℕ) × AreNumbers x y z × IsBefore before
    × (version ≡ second_text x y z before end))
    ⊎ ((form ≡ 3) × (x y z : ℕ) × AreNumbers x y (z + 1) × (version ≡ third_text x y z end)))

-- the text of a pseudo-version and that of its base version, which has the same build: vX.Y.Z-BEFORE in form 2, and
-- vX.Y.Z in form 3
abbrev pub IsBaseText : List ℕ → List ℕ → Type 0
IsBaseText version base = (end time revision build : List ℕ) × IsEnd end time revision build
    × (((x y z : ℕ) × (before : List ℕ) × AreNumbers x y z × IsBefore before
    × (version ≡ second_text x y z before end) × (base ≡ release x y z ++ codes "-" ++ before ++ build))
    ⊎ ((x y z : ℕ) × AreNumbers x y (z + 1)
    × (version ≡ third_text x y z end) × (base ≡ release x y z ++ build)))
