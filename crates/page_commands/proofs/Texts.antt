-- Single definitions, computed.
use Rattle.std.proofs.Common.{◌≡◌, ◌∙◌, ◌++◌, ◌||◌, ◌==◌, ℕ, Bool, true, false, List, [], ◌∷◌, ap, arith, codes, inl, inr, lit<, refl, sym}
use Rattle.std.specs.Prelude.{slice_index}
use Rattle.std.specs.Fmt.{decimal}
use Rattle.std.specs.List.{list_any}
use Rattle.std.proofs.lemmas.Bool.{false≢true}
use Rattle.page_commands.specs.Fit.{FitsMajor}
use Rattle.page_commands.specs.Path.{EndsInDotNumber, IsPath, IsUnderGopkg}
use Rattle.page_commands.specs.Pseudo.{IsStamp}
use Rattle.page_commands.specs.Types.Major.{Dot, NoSuffix, Slash}
use Rattle.page_commands.specs.Worlds.Parts.{MajorsAreTold, PartsAreTold}
use Rattle.page_commands.specs.Worlds.Texts.{HashesAreTold, NamesAreTold, PathsAreTold, VersionsAreTold}
use Rattle.page_commands.proofs.Listable.{ends_in_none, ends_otherwise, joined_so, not_gopkg, not_slash}
use Rattle.page_commands.proofs.Members.{appended}
use Rattle.page_commands.proofs.OnLiterals.{on_literals}

plain : IsPath (codes "example.com/m")
unfolding on_literals
plain = record { elements = codes "example.com" ∷ codes "m" ∷ []; some = lit< tt; joined = refl; each = refl; named = (NoSuffix, (not_gopkg, not_slash)) }

slash : IsPath (codes "a.b/v2")
unfolding on_literals
slash = record {
  elements = codes "a.b" ∷ codes "v2" ∷ [];
  some = lit< tt;
  joined = refl;
  each = refl;
  named = (Slash 2, (outside, omega arith, lit< tt, (codes "a.b", refl)));
}
  where
    outside : IsUnderGopkg (codes "a.b/v2") → ⊥
    outside (rest, is) = let wrong : 97 ≡ 103 = ap (λ (t : List ℕ). slice_index t 0) is in omega (arith, wrong)

zero : IsPath (codes "gopkg.in/a.v0")
unfolding on_literals
zero = record {
  elements = codes "gopkg.in" ∷ codes "a.v0" ∷ [];
  some = lit< tt;
  joined = refl;
  each = refl;
  named = (Dot 0, ((codes "a.v0", refl), lit< tt, inl (codes "gopkg.in/a", refl)));
}

unstable : IsPath (codes "gopkg.in/a.v1-unstable")
unfolding on_literals
unstable = record {
  elements = codes "gopkg.in" ∷ codes "a.v1-unstable" ∷ [];
  some = lit< tt;
  joined = refl;
  each = refl;
  named = (Dot 1, ((codes "a.v1-unstable", refl), lit< tt, inr (lit< tt, codes "gopkg.in/a.v1", refl, (codes "gopkg.in/a", refl))));
}

pub paths_are_told : PathsAreTold
unfolding on_literals
paths_are_told = record { plain = plain; slash = slash; zero = zero; unstable = unstable; refused = refl; passed = refl; unfetchable = refl; fetchable = refl }

pub versions_are_told : VersionsAreTold
unfolding on_literals
versions_are_told = record { refused = refl; passed = refl; misfit = refl; fit = refl; releases = refl; order = refl; tie = refl; build = refl }

pub names_are_told : NamesAreTold
unfolding on_literals
names_are_told = record { escaped = refl; files = refl }

pub hashes_are_told : HashesAreTold
unfolding on_literals
hashes_are_told = refl

pub parts_are_told : PartsAreTold
unfolding on_literals
parts_are_told = record {
  blank = refl;
  bracket = refl;
  quote = refl;
  bad = refl;
  ends = refl;
  bare = refl;
  comments = refl;
  bare_kind = refl;
  numbers = refl;
  marks = refl;
  place = refl;
  word = refl;
  ranks = refl;
  first = refl;
  said = refl;
  nothing = refl;
  sums = refl;
  good = refl;
  other = refl;
  unlisted = refl;
  folder = refl;
}

-- ---- majors

pub first_byte : (text : List ℕ) (byte : ℕ) → slice_index text 0 ≡ byte → (byte ≡ 103 → ⊥) → IsUnderGopkg text → ⊥
first_byte text byte begins other (rest, is) = other (sym begins ∙ ap (λ (t : List ℕ). slice_index t 0) is)

or_true : (b : Bool) → (b || true) ≡ true
or_true true = refl
or_true false = refl

-- a `v` after a byte
pub has_v : (byte : ℕ) (front tail : List ℕ) → list_any (λ b. b == 118) (front ++ (byte ∷ 118 ∷ []) ++ tail) ≡ true
has_v byte [] tail = or_true (byte == 118)
has_v byte (x ∷ front) tail = rw (has_v byte front tail) (or_true (x == 118))

-- a text without a `v` does not have it behind a slash
no_v : (text front tail : List ℕ) → list_any (λ b. b == 118) text ≡ false → text ≡ front ++ codes "/v" ++ tail → ⊥
no_v text front tail none is =
    false≢true (sym none ∙ (ap (λ (t : List ℕ). list_any (λ b. b == 118) t) is ∙ has_v 47 front tail))

no_zero : EndsInDotNumber (codes "gopkg.in/a.v0-unstable") 0 → ⊥
no_zero (inl is) = ends_in_none (codes "gopkg.in/a.v0-unstable") 101 refl (codes ".v") (omega arith) 0 (omega arith) is
no_zero (inr (some, stable, is, ends)) = omega (arith, some)

not_later : FitsMajor (Dot 2) (codes "v0.0.0-1") → ⊥
unfolding on_literals
not_later (inl is, build) = (let wrong : 0 ≡ 2 = is in omega (arith, wrong))
not_later (inr (is, rest, begins), build) = (let wrong : 2 ≡ 1 = is in omega (arith, wrong))

not_minor : FitsMajor (Dot 1) (codes "v0.1.0") → ⊥
unfolding on_literals
not_minor (inl is, build) = (let wrong : 0 ≡ 1 = is in omega (arith, wrong))
not_minor (inr (is, rest, begins), build) = (let wrong : 49 ≡ 48 = ap (λ (t : List ℕ). slice_index t 3) begins in omega (arith, wrong))

some_build : codes "incompatible" ≡ [] → ⊥
some_build e = cc e

stamp : (pre front : List ℕ) → pre ≡ front ++ (codes "20200101000000" ++ 45 ∷ codes "a") → IsStamp pre front (codes "20200101000000") (codes "a")
stamp pre front joined = record { joined = search (joined, joined_so front (codes "20200101000000") (codes "a")); fourteen = refl; digits = refl; some = lit< tt; letters_or_digits = refl }

pub majors_are_told : MajorsAreTold
unfolding on_literals
majors_are_told = record {
  slash = (first_byte (codes "a.b/v3") 97 refl (λ e. omega (arith, e)), omega arith, lit< tt, (codes "a.b", refl));
  dot = ((codes "a.v0", refl), lit< tt, inl (codes "gopkg.in/a", refl));
  unstable = ((codes "a.v3-unstable", refl), lit< tt, inr (lit< tt, codes "gopkg.in/a.v3", refl, (codes "gopkg.in/a", refl)));
  none = (first_byte (codes "a.b/vx") 97 refl (λ e. omega (arith, e)), ends_otherwise (codes "a.b/vx") 120 refl refl);
  ends = (codes "a", codes "1", refl, lit< tt, refl);
  ends_so = (codes "a", codes "1.2", refl, lit< tt, refl);
  fit_slash = (refl, refl);
  fit_dot = (inl refl, refl);
  early = (inr (refl, codes "20200101000000-a", refl), refl);
  outside = λ has. first_byte (codes "a/b.v1") 97 refl (λ e. omega (arith, e)) has.0;
  below = λ has. has.0 (codes "a", refl);
  below_slash = λ has. has.0 (codes "a/v2", refl);
  first = λ has. omega (arith, has.1);
  named = λ has. has.1 (codes "a", codes "1", refl, lit< tt, refl);
  large = λ has. omega (arith, has.2);
  large_dot = λ has. omega (arith, has.1);
  zero = no_zero;
  bare = ends_otherwise (codes "a/v") 118 refl refl;
  unmarked = λ (front, tail, is, some, all). no_v (codes "a/2") front tail refl is;
  marked = λ (front, is). no_v (codes "a/x2") front (decimal 2) refl (search (appended, is));
  other = λ is. (let wrong : 1 ≡ 2 = is.0 in omega (arith, wrong));
  early_slash = λ is. (let wrong : 0 ≡ 1 = is.0 in omega (arith, wrong));
  build = λ is. some_build is.1;
  build_dot = λ is. some_build is.1;
  later = not_later;
  minor = not_minor;
  unread = refl;
  alone = ([], inl (refl, refl, refl, refl), stamp (codes "20200101000000-a") [] refl);
  before = (codes "a.0.", inr (inl (refl, codes "a", lit< tt, refl)), stamp (codes "a.0.20200101000000-a") (codes "a.0.") refl);
  after = (codes "0.", inr (inr (refl, lit< tt, refl)), stamp (codes "0.20200101000000-a") (codes "0.") refl);
}
