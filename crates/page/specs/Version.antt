-- A copy from crates/gm_version/specs/Version.antt, which tools/check/headline.py writes.
use Rattle.std.specs.Prelude.{ℕ, List}
use Rattle.std.specs.Cmp.Lexicographic.{slice_cmp}
use Rattle.std.specs.Ordering.{nat_cmp, on, then_cmp}
use Rattle.std.specs.declared.cmp.Ordering.{Ordering}
use Rattle.page.specs.Types.{pre_cmp, Parts, parts_in}

-- precedence, as in section 11 of SemVer: by the numbers, then by the pre-release
abbrev pub precedence : Parts → Parts → Ordering
precedence = then_cmp (on (λ (p : Parts). p.0) nat_cmp) (then_cmp (on (λ (p : Parts). p.1) nat_cmp)
    (then_cmp (on (λ (p : Parts). p.2) nat_cmp) (on (λ (p : Parts). p.3) pre_cmp)))

-- the order of versions: by precedence, then by the text
abbrev pub version_cmp : List ℕ → List ℕ → Ordering
version_cmp = then_cmp (on parts_in precedence) (slice_cmp nat_cmp)
