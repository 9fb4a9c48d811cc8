-- Tests that compute: `is_path`, `is_version` and `does_fit` decide the facts `IsPath`, `IsVersion` and `Fits`.
-- Definitions that compute, such as those of a file's directives, use these tests; the laws `paths_are_tested`,
-- `versions_are_tested` and `fits_are_tested` say that tests and facts agree.
use Rattle.std.specs.Prelude.{ℕ, ◌-◌, ◌^◌, ◌==◌, ◌&&◌, ◌||◌, nat_lt, nat_eq, if◌then◌else◌, Bool, false, List, length, take, drop, slice_index, codes, Option, Some, None, Result, Ok, Err, is_some, option_and_then}
use Rattle.std.specs.Option.{option_map, option_map_or}
use Rattle.std.specs.Char.{is_ascii_digit}
use Rattle.std.specs.List.{ends_with, list_all, starts_with}
use Rattle.std.specs.Str.{bytes_eq}
use Rattle.std.specs.Str.Parse.{digits_value}
use Rattle.semver.specs.Parse.{Parts, version_parts}
use Rattle.semver.specs.declared.error.Error.{Error}
use Rattle.gm_name.specs.Element.{elements, is_element}
use Rattle.gm_version.specs.Version.{build_of, major_of}
use Rattle.gm_version.specs.Number.{is_decimal}
use Rattle.gm_name.specs.Path.{is_digit_or_dot}
use Rattle.gm_name.specs.Tail.{head, tail}
use Rattle.gm_name.specs.declared.major.Major.{Major}
use Rattle.gm_name.specs.declared.major.Major.TheVariants.{NoSuffix, Slash, Dot}

-- the number below 2 ^ 64 in a text
abbrev pub number_in : List ℕ → Option ℕ
number_in text = if is_decimal text && nat_lt (digits_value 10 text) (2 ^ 64) then Some (digits_value 10 text) else None

-- the number after the mark at the end of a text
abbrev pub number_after : List ℕ → List ℕ → Option ℕ
number_after mark text = if ends_with nat_eq (head is_ascii_digit text) mark
    then number_in (tail is_ascii_digit text) else None

-- the number, if it is at least `low`
abbrev pub at_least : ℕ → ℕ → Option ℕ
at_least low n = if nat_lt n low then None else Some n

-- the number N of a text that ends in `.vN`, or in `.vN-unstable` for N above 0
abbrev pub dot_number : List ℕ → Option ℕ
dot_number text = if ends_with nat_eq text (codes "-unstable")
    then option_and_then (at_least 1) (number_after (codes ".v") (take (length text - 9) text))
    else number_after (codes ".v") text

-- whether a text ends in `/v` and one or more digits or dots
abbrev pub ends_in_slash_version : List ℕ → Bool
ends_in_slash_version text = nat_lt 0 (length (tail is_digit_or_dot text))
    && ends_with nat_eq (head is_digit_or_dot text) (codes "/v")

-- the major version that a text names if it is read as a path
abbrev pub major_in : List ℕ → Option Major
major_in text = if starts_with nat_eq text (codes "gopkg.in/") then option_map Dot (dot_number text)
    else (if ends_in_slash_version text
    then option_map Slash (option_and_then (at_least 2) (number_after (codes "/v") text))
    else Some NoSuffix)

-- whether a text is a module path
unfoldable pub is_path : List ℕ → Bool
is_path text = list_all is_element (elements text) && is_some (major_in text)

-- whether the text was parsed, and has no build or the build `incompatible`
abbrev pub has_plain_build : Result Parts Error → Bool
has_plain_build (Ok parts) = (length parts.4 == 0) || bytes_eq parts.4 (codes "incompatible")
has_plain_build (Err error) = false

-- whether a text is a version
unfoldable pub is_version : List ℕ → Bool
is_version text = (slice_index text 0 == 118) && has_plain_build (version_parts (drop 1 text))

abbrev pub has_no_build : List ℕ → Bool
has_no_build version = length (build_of version) == 0

-- whether the version fits a path with this major version
abbrev pub fits_major : List ℕ → Major → Bool
fits_major version (Slash n) = (major_of version == n) && has_no_build version
fits_major version (Dot n) =
    ((major_of version == n) || ((n == 1) && starts_with nat_eq version (codes "v0.0.0-"))) && has_no_build version
fits_major version NoSuffix = if nat_lt (major_of version) 2 then has_no_build version
    else bytes_eq (build_of version) (codes "incompatible")

-- whether the version fits the path
unfoldable pub does_fit : List ℕ → List ℕ → Bool
does_fit path version = option_map_or (fits_major version) (major_in path) false
