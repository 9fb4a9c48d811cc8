-- Section 11 of SemVer 2.0.0: when one version has lower precedence than another. The rules are listed as in the
-- standard, independently of `precedence`, which computes; the law `precedence_is_of_semver` says that the two agree.
use Rattle.std.specs.Prelude.{◌≡◌, ℕ, ◌+◌, ◌-◌, ◌*◌, ◌^◌, ◌<◌, ◌⊎◌, true, false, List, [], ◌∷◌, ◌++◌, length}
use Rattle.semver.specs.Order.{is_numeric, parts}
use Rattle.semver.specs.Parse.{Parts}

-- one list is lower than another: its item at the first difference is lower, or it is a proper prefix of the other
abbrev pub IsLowerList : {X : Type 0} → (X → X → Type 0) → List X → List X → Type 0
IsLowerList {X} IsLowerItem xs ys = (front : List X)
    × (((x y : X) × (s t : List X) × (xs ≡ front ++ x ∷ s) × (ys ≡ front ++ y ∷ t) × IsLowerItem x y)
    ⊎ ((y : X) × (t : List X) × (xs ≡ front) × (ys ≡ front ++ y ∷ t)))

-- the number that decimal digits write
abbrev pub number_of : List ℕ → ℕ
number_of [] = 0
number_of (d ∷ ds) = (d - 48) * 10 ^ length ds + number_of ds

-- the pieces between the dots of a pre-release
abbrev pub identifiers : List ℕ → List (List ℕ)
identifiers pre = parts pre

-- 11.4.1 identifiers of digits only are compared as numbers
-- 11.4.2 identifiers with letters or hyphens are compared byte by byte, in ASCII order
-- 11.4.3 an identifier of digits only is lower than any other
abbrev pub IsLowerIdentifier : List ℕ → List ℕ → Type 0
IsLowerIdentifier a b = ((is_numeric a ≡ true) × (is_numeric b ≡ true) × (number_of a < number_of b))
    ⊎ ((is_numeric a ≡ false) × (is_numeric b ≡ false) × IsLowerList (λ (x y : ℕ). x < y) a b)
    ⊎ ((is_numeric a ≡ true) × (is_numeric b ≡ false))

-- 11.3   a version with a pre-release is lower than one without
-- 11.4   the first identifier that differs decides
-- 11.4.4 the list with fewer identifiers is lower if all of them are equal to those of the other list
abbrev pub IsLowerPreRelease : List ℕ → List ℕ → Type 0
IsLowerPreRelease p q = ((0 < length p) × (length q ≡ 0))
    ⊎ ((0 < length p) × (0 < length q) × IsLowerList IsLowerIdentifier (identifiers p) (identifiers q))

-- 11.1, 11.2 the first difference of major, minor, patch and pre-release decides, and numbers are compared as numbers
--            (a version's parts are these four, in this order, and the build, which doesn't count)
abbrev pub HasLowerPrecedence : Parts → Parts → Type 0
HasLowerPrecedence p q = (p.0 < q.0)
    ⊎ ((p.0 ≡ q.0) × (p.1 < q.1))
    ⊎ ((p.0 ≡ q.0) × (p.1 ≡ q.1) × (p.2 < q.2))
    ⊎ ((p.0 ≡ q.0) × (p.1 ≡ q.1) × (p.2 ≡ q.2) × IsLowerPreRelease p.3 q.3)

-- none of the four differs
abbrev pub HasSamePrecedence : Parts → Parts → Type 0
HasSamePrecedence p q = (p.0 ≡ q.0) × (p.1 ≡ q.1) × (p.2 ≡ q.2) × (p.3 ≡ q.3)
