-- The pre-release in the text of a version: the only `-` that can precede it is its own mark, and it has no `+`.
use Rattle.std.proofs.Common.{◌≡◌, ◌≢◌, ◌==◌, ◌∙◌, ◌⊎◌, ◌&&◌, MatchOption, ℕ, ◌^◌, ◌<◌, Bool, true, List, [], ◌∷◌, ◌++◌, not, length, get_or, codes, refl, sym, ap, inl, inr, arith, lit<, Option, Some, None, append-nil, append_assoc}
use Rattle.std.proofs.lemmas.Bool.Decides.{nat_tests}
use Rattle.std.proofs.lemmas.List.Folds.{list_all-append}
use Rattle.std.proofs.lemmas.List.Splits.{join_with_byte-slice_split}
use Rattle.std.proofs.lemmas.List.Sums.{AllPass-from_list_all}
use Rattle.std.proofs.lemmas.Str.Pattern.{IsSplitOnceResult, split_after, split_parts}
use Rattle.std.specs.Borrow.{Bor}
use Rattle.std.specs.Char.{is_ascii_digit}
use Rattle.std.specs.Cmp.{first_so, second_so}
use Rattle.std.specs.Fmt.{decimal}
use Rattle.std.specs.List.{list_all}
use Rattle.semver.specs.Grammar.{is_build_identifier, is_identifier_byte, is_pre_identifier, is_pre_release}
use Rattle.semver.specs.Identifiers.{marked}
use Rattle.semver.specs.Order.{parts}
use Rattle.gm_version.specs.Version.{HasPlainBuild, IsVersion, parts_in}
use Rattle.gm_version.proofs.ListTests.{all-append, all-join, weaker}
use Rattle.gm_version.proofs.Numbers.{decimal-digits}
use Rattle.gm_version.proofs.Versions.{version-parts}

-- no byte of the list is this one
abbrev pub lacks : ℕ → List ℕ → Bool
lacks c xs = list_all (λ b. not (b == c)) xs

apart : (c : ℕ) (xs : List ℕ) → (c == c) ≡ true → lacks c xs ≡ true → (i : ℕ) → i < length xs → get_or xs i 0 ≢ c
apart c xs same all i lt is =
    let pass = AllPass-from_list_all (λ b. not (b == c)) xs all i 0 lt in
    cc (rw (is, same) at pass)

-- a byte that is lacking is at no place
nowhere : (c : ℕ) (xs front rest : List ℕ) → (c == c) ≡ true → lacks c xs ≡ true → xs ≡ front ++ c ∷ rest → ⊥
nowhere c xs front rest same all is =
    let both : (lacks c front && lacks c (c ∷ rest)) ≡ true = sym (list_all-append (λ b. not (b == c)) front (c ∷ rest)) ∙ rw is at all in
    let here = first_so (not (c == c)) (lacks c rest) (second_so (lacks c front) (lacks c (c ∷ rest)) both) in
    cc (rw same at here)

digit-no_dash : (b : ℕ) → is_ascii_digit b ≡ true → not (b == 45) ≡ true
digit-no_dash b h = grind (arith, nat_tests)

identifier-no_plus : (b : ℕ) → is_identifier_byte b ≡ true → not (b == 43) ≡ true
identifier-no_plus b h = grind (arith, nat_tests)

number-no_dash : (n : ℕ) → n < 2 ^ 64 → lacks 45 (decimal n) ≡ true
number-no_dash n small = weaker is_ascii_digit (λ b. not (b == 45)) digit-no_dash (decimal n) (decimal-digits n small)

part-no_plus : (part : List ℕ) → is_pre_identifier part ≡ true → lacks 43 part ≡ true
part-no_plus part h = weaker is_identifier_byte (λ b. not (b == 43)) identifier-no_plus part (second_so _ _ (first_so (is_build_identifier part) _ h))

pre-no_plus : (pre : List ℕ) → is_pre_release pre ≡ true → lacks 43 pre ≡ true
pre-no_plus [] h = refl
pre-no_plus (b ∷ rest) h =
    let each = weaker is_pre_identifier (lacks 43) part-no_plus (parts (b ∷ rest)) h in
    rw (join_with_byte-slice_split 46 (b ∷ rest)) at (all-join (λ b. not (b == 43)) 46 (parts (b ∷ rest)) refl each)

-- the text of a version before its pre-release
abbrev numbers_text : ℕ → ℕ → ℕ → List ℕ
numbers_text major minor patch = 118 ∷ (decimal major ++ (46 ∷ (decimal minor ++ (46 ∷ decimal patch))))

numbers-no_dash : (major minor patch : ℕ) → major < 2 ^ 64 → minor < 2 ^ 64 → patch < 2 ^ 64 → lacks 45 (numbers_text major minor patch) ≡ true
numbers-no_dash major minor patch a b c =
    all-append _ (decimal major) _ (number-no_dash major a)
    (all-append _ (decimal minor) _ (number-no_dash minor b) (number-no_dash patch c))

numbers-first : (major minor patch : ℕ) (rest : List ℕ)
    → 118 ∷ (decimal major ++ (46 ∷ (decimal minor ++ (46 ∷ (decimal patch ++ rest))))) ≡ numbers_text major minor patch ++ rest
numbers-first major minor patch rest =
    sym (ap (118 ∷◌) (append_assoc (decimal major) (46 ∷ (decimal minor ++ (46 ∷ decimal patch))) rest
    ∙ ap (λ t. decimal major ++ (46 ∷ t)) (append_assoc (decimal minor) (46 ∷ decimal patch) rest)))

-- after the first dash there are the pre-release and the build; without a dash there is no pre-release
after_dash : (major minor patch : ℕ) (pre build text : List ℕ) (r : Option (Bor (List ℕ) × Bor (List ℕ)))
    → lacks 45 (numbers_text major minor patch) ≡ true → HasPlainBuild (major, minor, patch, pre, build)
    → text ≡ numbers_text major minor patch ++ (marked 45 pre ++ marked 43 build) → IsSplitOnceResult 45 text r
    → MatchOption r (pre ≡ []) (λ x. x.1.now ≡ pre ++ marked 43 build)
after_dash major minor patch [] build text None front plain is cut = refl
after_dash major minor patch [] build text (Some x) front plain is cut =
    let tail : lacks 45 (marked 43 build) ≡ true = elim plain [ inl none ↦ rw none refl | inr word ↦ rw word refl ] in
    let all = all-append (λ b. not (b == 45)) (numbers_text major minor patch) (marked 43 build) front tail in
    absurd (nowhere 45 text x.0.now x.1.now refl (rw is all) (split_parts 45 text (Some x) cut (lit< tt)).0)
after_dash major minor patch (b ∷ rest) build text None front plain is cut =
    absurd (split_after 45 text (numbers_text major minor patch) (b ∷ rest ++ marked 43 build) None cut (lit< tt) is
    (apart 45 (numbers_text major minor patch) refl front))
after_dash major minor patch (b ∷ rest) build text (Some x) front plain is cut =
    (split_after 45 text (numbers_text major minor patch) (b ∷ rest ++ marked 43 build) (Some x) cut (lit< tt) is
    (apart 45 (numbers_text major minor patch) refl front)).1

-- the pre-release ends at a plus, or with the text
before_plus : (pre build rest : List ℕ) (r : Option (Bor (List ℕ) × Bor (List ℕ))) → lacks 43 pre ≡ true
    → (build ≡ []) ⊎ (build ≡ codes "incompatible") → rest ≡ pre ++ marked 43 build → IsSplitOnceResult 43 rest r
    → MatchOption r (rest ≡ pre) (λ x. x.0.now ≡ pre)
before_plus pre build rest None free (inl none) is cut = is ∙ rw none (append-nil pre)
before_plus pre build rest None free (inr word) is cut =
    absurd (split_after 43 rest pre (codes "incompatible") None cut (lit< tt) (is ∙ rw word refl) (apart 43 pre refl free))
before_plus pre build rest (Some x) free (inl none) is cut =
    let same : rest ≡ pre = is ∙ rw none (append-nil pre) in
    absurd (nowhere 43 rest x.0.now x.1.now refl (rw same free) (split_parts 43 rest (Some x) cut (lit< tt)).0)
before_plus pre build rest (Some x) free (inr word) is cut =
    (split_after 43 rest pre (codes "incompatible") (Some x) cut (lit< tt) (is ∙ rw word refl) (apart 43 pre refl free)).0

-- the pre-release and the build of a version are after the first dash of its text
pub version-after_dash : (text : List ℕ) (r : Option (Bor (List ℕ) × Bor (List ℕ))) → IsVersion text → IsSplitOnceResult 45 text r
    → MatchOption r ((parts_in text).3 ≡ []) (λ x. x.1.now ≡ (parts_in text).3 ++ marked 43 (parts_in text).4)
version-after_dash text r version cut =
    let p = parts_in text in
    let known = version-parts text version in
    let valid = known.0 in
    after_dash p.0 p.1 p.2 p.3 p.4 text r (numbers-no_dash p.0 p.1 p.2 valid.0 valid.1 valid.2) known.1
    (known.2 ∙ numbers-first p.0 p.1 p.2 (marked 45 p.3 ++ marked 43 p.4)) cut

-- and the pre-release is what precedes a plus there
pub version-before_plus : (text rest : List ℕ) (r : Option (Bor (List ℕ) × Bor (List ℕ))) → IsVersion text
    → rest ≡ (parts_in text).3 ++ marked 43 (parts_in text).4 → IsSplitOnceResult 43 rest r
    → MatchOption r (rest ≡ (parts_in text).3) (λ x. x.0.now ≡ (parts_in text).3)
version-before_plus text rest r version is cut =
    let p = parts_in text in
    let known = version-parts text version in
    before_plus p.3 p.4 rest r (pre-no_plus p.3 known.0.3) known.1 is cut
