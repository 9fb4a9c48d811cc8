-- Which bytes a path and a version can have.
use Rattle.std.proofs.Common.{◌≡◌, ◌==◌, ℕ, ◌^◌, ◌<◌, true, List, [], ◌∷◌, not, refl, inl, inr, arith}
use Rattle.std.proofs.lemmas.Bool.Decides.{nat_tests}
use Rattle.std.proofs.lemmas.List.Splits.{join_with_byte-slice_split}
use Rattle.std.specs.Char.{is_ascii_digit}
use Rattle.std.specs.Cmp.{first_so, second_so}
use Rattle.std.specs.Fmt.{decimal}
use Rattle.std.specs.List.{list_all}
use Rattle.semver.specs.Grammar.{is_build_identifier, is_identifier_byte, is_pre_identifier, is_pre_release}
use Rattle.semver.specs.Identifiers.{marked}
use Rattle.semver.specs.Order.{parts}
use Rattle.gm_name.specs.Element.{elements, is_element, is_path_byte}
use Rattle.gm_version.specs.Escape.{has_no_bang}
use Rattle.gm_name.specs.Path.{IsPath, is_byte_of_path}
use Rattle.gm_version.specs.Version.{IsVersion, is_byte_of_version}
use Rattle.gm_version.proofs.ListTests.{all-append, all-join, weaker}
use Rattle.gm_version.proofs.Numbers.{decimal-digits}
use Rattle.gm_name.proofs.Paths.{element-bytes}

-- ---- paths

path-byte : (b : ℕ) → is_path_byte b ≡ true → is_byte_of_path b ≡ true
path-byte b h = rw h refl

-- the bytes of elements and of the slashes between them
pub elements-bytes : (text : List ℕ) → list_all is_element (elements text) ≡ true → list_all is_byte_of_path text ≡ true
elements-bytes text all =
    let each = weaker is_element (list_all is_byte_of_path)
    (λ e h. weaker is_path_byte is_byte_of_path path-byte e (element-bytes e h)) (elements text) all in
    rw (join_with_byte-slice_split 47 text) at (all-join is_byte_of_path 47 (elements text) refl each)

-- a path has only letters, digits, `-`, `.`, `_`, `~` and `/`
pub path-bytes : (text : List ℕ) → IsPath text → list_all is_byte_of_path text ≡ true
path-bytes text path =
    let each = weaker is_element (list_all is_byte_of_path)
    (λ e h. weaker is_path_byte is_byte_of_path path-byte e (element-bytes e h)) path.elements path.each in
    rw path.joined (all-join is_byte_of_path 47 path.elements refl each)

-- ---- versions

digit-byte : (b : ℕ) → is_ascii_digit b ≡ true → is_byte_of_version b ≡ true
digit-byte b h = grind (arith, nat_tests)

identifier-byte : (b : ℕ) → is_identifier_byte b ≡ true → is_byte_of_version b ≡ true
identifier-byte b h = grind (arith, nat_tests)

number-bytes : (n : ℕ) → n < 2 ^ 64 → list_all is_byte_of_version (decimal n) ≡ true
number-bytes n small = weaker is_ascii_digit is_byte_of_version digit-byte (decimal n) (decimal-digits n small)

identifier-bytes : (part : List ℕ) → is_pre_identifier part ≡ true → list_all is_byte_of_version part ≡ true
identifier-bytes part h = weaker is_identifier_byte is_byte_of_version identifier-byte part (second_so _ _ (first_so (is_build_identifier part) _ h))

pre-bytes : (pre : List ℕ) → is_pre_release pre ≡ true → list_all is_byte_of_version (marked 45 pre) ≡ true
pre-bytes [] h = refl
pre-bytes (b ∷ rest) h =
    let each = weaker is_pre_identifier (list_all is_byte_of_version) identifier-bytes (parts (b ∷ rest)) h in
    rw (join_with_byte-slice_split 46 (b ∷ rest)) at (all-join is_byte_of_version 46 (parts (b ∷ rest)) refl each)

-- a version has only letters, digits, `+`, `-` and `.`
pub version-bytes : (text : List ℕ) → IsVersion text → list_all is_byte_of_version text ≡ true
version-bytes text version =
    let p = version.0 in
    let valid = version.1 in
    let build : list_all is_byte_of_version (marked 43 p.4) ≡ true = elim version.2 [ inl none ↦ rw none refl | inr word ↦ rw word refl ] in
    rw version.3 (all-append _ (decimal p.0) _ (number-bytes p.0 valid.0)
    (all-append _ (decimal p.1) _ (number-bytes p.1 valid.1)
    (all-append _ (decimal p.2) _ (number-bytes p.2 valid.2) (all-append _ (marked 45 p.3) _ (pre-bytes p.3 valid.3) build))))

-- ---- no `!`

path-byte_no_bang : (b : ℕ) → is_byte_of_path b ≡ true → not (b == 33) ≡ true
path-byte_no_bang b h = grind (arith, nat_tests)

version-byte_no_bang : (b : ℕ) → is_byte_of_version b ≡ true → not (b == 33) ≡ true
version-byte_no_bang b h = grind (arith, nat_tests)

-- a path has no `!`
pub path_has_no_bang : (text : List ℕ) → IsPath text → has_no_bang text ≡ true
path_has_no_bang text path = weaker is_byte_of_path (λ b. not (b == 33)) path-byte_no_bang text (path-bytes text path)

-- a version has no `!`
pub version_has_no_bang : (text : List ℕ) → IsVersion text → has_no_bang text ≡ true
version_has_no_bang text version = weaker is_byte_of_version (λ b. not (b == 33)) version-byte_no_bang text (version-bytes text version)
