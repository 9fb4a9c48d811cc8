-- Laws about the definitions, each of them the contract of a function in `laws`.
use Rattle.semver.specs.Grammar.{IsValid, is_pre_identifier}
use Rattle.semver.specs.Order.{is_numeric, pre_part_cmp}
use Rattle.std.specs.Ordering.{nat_cmp}
use Rattle.std.specs.Prelude.{◌≡◌, ◌<◌, ◌↔◌, not, true, List, ℕ}
use Rattle.std.specs.Char.{is_ascii_uppercase}
use Rattle.std.specs.List.{list_all}
use Rattle.std.specs.declared.cmp.Ordering.TheVariants.{Equal, Greater, Less}
use Rattle.gm_version.specs.Escape.{IsUnescaped, escaped_text, has_no_bang, is_escaped}
use Rattle.gm_name.specs.Fit.{Fits}
use Rattle.gm_name.specs.Names.{does_fit, is_path, is_version}
use Rattle.gm_name.specs.Path.{HasMajor, IsPath, is_byte_of_path}
use Rattle.gm_version.specs.Version.{HasPlainBuild, IsVersion, is_byte_of_version, parts_in, precedence, version_text}
use Rattle.gm_name.specs.Precedence.{HasLowerPrecedence, HasSamePrecedence, number_of}
use Rattle.gm_name.specs.Pseudo.{IsBase, IsPseudo}
use Rattle.gm_name.specs.PseudoText.{IsBaseText, IsPseudoText}
use Rattle.semver.specs.Parse.{Parts}
use Rattle.gm_name.specs.declared.major.Major.{Major}

-- a path names only one major version
abbrev pub OneMajor : Type 0
OneMajor = (path : List ℕ) (a b : Major) → HasMajor path a → HasMajor path b → a ≡ b

-- two versions that fit one path and have equal precedence are the same
abbrev pub OneVersionForPrecedence : Type 0
OneVersionForPrecedence = (path v w : List ℕ) → IsVersion v → IsVersion w → Fits path v → Fits path w
    → precedence (parts_in v) (parts_in w) ≡ Equal → v ≡ w

-- section 11.4.1 of SemVer: numeric identifiers of pre-releases are ordered as numbers
abbrev pub NumericIdentifiersByNumber : Type 0
NumericIdentifiersByNumber = (a b : List ℕ) → is_pre_identifier a ≡ true → is_pre_identifier b ≡ true
    → is_numeric a ≡ true → is_numeric b ≡ true
    → pre_part_cmp a b ≡ nat_cmp (number_of a) (number_of b)

-- a version is the text of its parts, which are valid and have a plain build, and of no other valid parts
abbrev pub VersionIsSpelled : Type 0
VersionIsSpelled = (text : List ℕ) → IsVersion text
    → IsValid (parts_in text) × HasPlainBuild (parts_in text) × (text ≡ version_text (parts_in text))
    × ((parts : Parts) → IsValid parts → text ≡ version_text parts → parts ≡ parts_in text)

-- a version is a pseudo-version of at most one form, with one time and one revision
abbrev pub OnePseudo : Type 0
OnePseudo = (version : List ℕ) (a b : ℕ) (s t q r : List ℕ) → IsPseudo version a s q → IsPseudo version b t r
    → (a ≡ b) × (s ≡ t) × (q ≡ r)

-- a text passes the test of a path exactly when it is a module path
abbrev pub PathsAreTested : Type 0
PathsAreTested = (text : List ℕ) → is_path text ≡ true ↔ IsPath text

-- a text passes the test of a version exactly when it is a version
abbrev pub VersionsAreTested : Type 0
VersionsAreTested = (text : List ℕ) → is_version text ≡ true ↔ IsVersion text

-- a version passes the test for a path exactly when it fits the path
abbrev pub FitsAreTested : Type 0
FitsAreTested = (path version : List ℕ) → does_fit path version ≡ true ↔ Fits path version

-- section 11 of SemVer: `precedence` computes the standard's rule
abbrev pub LowerPrecedence : Type 0
LowerPrecedence = (p q : Parts) → IsValid p → IsValid q → (precedence p q ≡ Less) ↔ HasLowerPrecedence p q

abbrev pub SamePrecedence : Type 0
SamePrecedence = (p q : Parts) → IsValid p → IsValid q → (precedence p q ≡ Equal) ↔ HasSamePrecedence p q

abbrev pub HigherPrecedence : Type 0
HigherPrecedence = (p q : Parts) → IsValid p → IsValid q → (precedence p q ≡ Greater) ↔ HasLowerPrecedence q p

-- a version has at most one base
abbrev pub OneBase : Type 0
OneBase = (version a b : List ℕ) → IsBase version a → IsBase version b → a ≡ b

-- a base is a version
abbrev pub BaseIsVersion : Type 0
BaseIsVersion = (version base : List ℕ) → IsVersion version → IsBase version base → IsVersion base

-- a base has lower precedence than the pseudo-version
abbrev pub BaseIsLower : Type 0
BaseIsLower = (version base : List ℕ) → IsVersion version → IsBase version base
    → HasLowerPrecedence (parts_in base) (parts_in version)

-- the versions with a base are the pseudo-versions of the second and third forms
abbrev pub BaseForms : Type 0
BaseForms = (version : List ℕ) → ((base : List ℕ) × IsBase version base)
    ↔ ((form : ℕ) × (time revision : List ℕ) × (1 < form) × IsPseudo version form time revision)

-- a text without '!' is what its escaped form unescapes to, and no other text is
abbrev pub UnescapeInvertsEscape : Type 0
UnescapeInvertsEscape = (text : List ℕ) → has_no_bang text ≡ true
    → IsUnescaped text (escaped_text text) × ((other : List ℕ) → IsUnescaped other (escaped_text text) → other ≡ text)

-- the escaped texts are exactly the texts made of pieces (`is_escaped`)
abbrev pub EscapedTextsAreTested : Type 0
EscapedTextsAreTested = (name : List ℕ) → is_escaped name ≡ true ↔ ((text : List ℕ) × IsUnescaped text name)

-- an escaped text has no upper-case letter
abbrev pub EscapedIsLowerCase : Type 0
EscapedIsLowerCase = (text : List ℕ) → list_all (λ b. not (is_ascii_uppercase b)) (escaped_text text) ≡ true

-- which bytes a path can have, and which a version
abbrev pub BytesOfPath : Type 0
BytesOfPath = (text : List ℕ) → IsPath text → list_all is_byte_of_path text ≡ true

abbrev pub BytesOfVersion : Type 0
BytesOfVersion = (text : List ℕ) → IsVersion text → list_all is_byte_of_version text ≡ true

-- `!` is not among them
abbrev pub PathHasNoBang : Type 0
PathHasNoBang = (text : List ℕ) → IsPath text → has_no_bang text ≡ true

abbrev pub VersionHasNoBang : Type 0
VersionHasNoBang = (text : List ℕ) → IsVersion text → has_no_bang text ≡ true

-- so different paths, and different versions, have different escaped texts
abbrev pub PathEscapingIsInjective : Type 0
PathEscapingIsInjective = (p q : List ℕ) → IsPath p → IsPath q → escaped_text p ≡ escaped_text q → p ≡ q

abbrev pub VersionEscapingIsInjective : Type 0
VersionEscapingIsInjective = (v w : List ℕ) → IsVersion v → IsVersion w → escaped_text v ≡ escaped_text w → v ≡ w

-- the pseudo-versions are exactly the texts of the three forms
abbrev pub PseudoIsSpelled : Type 0
PseudoIsSpelled = (version : List ℕ) (form : ℕ) (time revision : List ℕ)
    → (IsVersion version × IsPseudo version form time revision) ↔ IsPseudoText version form time revision

-- their base versions are exactly the texts that the forms name
abbrev pub BaseIsSpelled : Type 0
BaseIsSpelled = (version base : List ℕ) → (IsVersion version × IsBase version base) ↔ IsBaseText version base
