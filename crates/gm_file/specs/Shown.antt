-- The versions of a module that no interval contains (Go Modules Reference, retract directive): a retracted version
-- "should not be depended upon", and "a version interval" stands for the versions between its ends.
use Rattle.std.specs.Prelude.{ℕ, ◌&&◌, not, Bool, List}
use Rattle.std.specs.List.{filter, list_any}
use Rattle.std.specs.Ordering.{is_gt}
use Rattle.gm_version.specs.Version.{parts_in, precedence}
use Rattle.gm_file.specs.Directives.{VersionInterval}

-- the first version has lower precedence than the second, or the same (SemVer 2.0.0, section 11)
abbrev pub is_at_most : List ℕ → List ℕ → Bool
is_at_most one other = not (is_gt (precedence (parts_in one) (parts_in other)))

-- the interval with these ends contains the version: low end, version and high end ascend
abbrev pub holds_version : List ℕ → VersionInterval → Bool
holds_version version ends = is_at_most ends.0 version && is_at_most version ends.1

-- some interval contains the version
abbrev pub is_retracted : List VersionInterval → List ℕ → Bool
is_retracted intervals version = list_any (holds_version version) intervals

-- the versions that no interval contains, in their order
abbrev pub shown_of : List VersionInterval → List (List ℕ) → List (List ℕ)
shown_of intervals versions = filter (λ version. not (is_retracted intervals version)) versions
