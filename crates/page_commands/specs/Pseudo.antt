-- A copy from crates/gm_name/specs/Pseudo.antt, which tools/check/headline.py writes.
use Rattle.std.specs.Prelude.{◌≡◌, ℕ, ◌<◌, ◌⊎◌, true, List, [], ◌++◌, length, codes}
use Rattle.std.specs.Char.{is_ascii_alphanumeric, is_ascii_digit}
use Rattle.std.specs.List.{list_all}
use Rattle.page_commands.specs.Version.{parts_in}

-- a pre-release made of a front, a time of fourteen digits, a dash and a revision of letters and digits
pub record IsStamp (pre front time revision : List ℕ) : Type 0 where
  pub joined : pre ≡ front ++ time ++ codes "-" ++ revision
  pub fourteen : length time ≡ 14
  pub digits : list_all is_ascii_digit time ≡ true
  pub some : 0 < length revision
  pub letters_or_digits : list_all is_ascii_alphanumeric revision ≡ true

-- the text before the time in each form:
--     1    vX.0.0-TIME-REVISION             nothing
--     2    vX.Y.Z-BEFORE.0.TIME-REVISION    BEFORE, which is not empty, and `.0.`
--     3    vX.Y.Z-0.TIME-REVISION           `0.`, where Z is above 0
abbrev pub IsFront : ℕ → ℕ → ℕ → List ℕ → Type 0
IsFront form minor patch front = ((form ≡ 1) × (minor ≡ 0) × (patch ≡ 0) × (front ≡ []))
    ⊎ ((form ≡ 2) × (before : List ℕ) × (0 < length before) × (front ≡ before ++ codes ".0."))
    ⊎ ((form ≡ 3) × (0 < patch) × (front ≡ codes "0."))

-- a pseudo-version of this form, with its time and revision
abbrev pub IsPseudo : List ℕ → ℕ → List ℕ → List ℕ → Type 0
IsPseudo version form time revision = let p = parts_in version in
    (front : List ℕ) × IsFront form p.1 p.2 front × IsStamp p.3 front time revision
