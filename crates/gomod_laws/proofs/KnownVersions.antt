-- The path a.b and the versions v1.0.0 and v1.1.0, of which the counterexamples are, and v1.9.0 and v1.10.0 of the
-- examples.
use Rattle.std.proofs.Common.{◌≡◌, ◌∙◌, ◌∷◌, ◌++◌, ◌<◌, ◌==◌, ℕ, true, false, List, [], ap, ap₂, arith, codes, drop, inl, length, length-append, lit<, refl, sym}
use Rattle.std.specs.Cmp.Lexicographic.{slice_cmp}
use Rattle.std.specs.Fmt.{decimal}
use Rattle.std.specs.Ordering.{is_gt, nat_cmp, ordering_then}
use Rattle.std.specs.declared.cmp.Ordering.TheVariants.{Less, Equal, Greater}
use Rattle.std.proofs.lemmas.Fmt.{decimal_digit, decimal_step}
use Rattle.gm_name.specs.Fit.{Fits}
use Rattle.gm_name.specs.Path.{HasMajor, IsUnderGopkg}
use Rattle.gm_version.specs.Version.{IsVersion, parts_in, precedence, version_cmp, version_text}
use Rattle.gm_name.specs.declared.major.Major.TheVariants.{NoSuffix}
use Rattle.gm_name.proofs.BaseVersions.{parts-spelled}
use Rattle.gm_version.specs.VersionOrder.{version_total}
use Rattle.gm_store.specs.Latest.{IsLatest, counts}
use Rattle.gm_store.specs.Listed.{IsListable, IsListed, IsPseudoVersion}
use Rattle.gm_graph_select.proofs.Ascending.{member_head, member_tail}
use Rattle.gm_graph_select.proofs.Greatest.{not_above_itself}
use Rattle.gomod_run.proofs.ListLines.{heads}
use Rattle.gomod_laws.proofs.WrittenLists.{each_of}

-- what a version says
abbrev pub Parts : Type 0
Parts = ℕ × ℕ × ℕ × List ℕ × List ℕ

abbrev pub one_zero : List ℕ
one_zero = codes "v1.0.0"

abbrev pub one_one : List ℕ
one_one = codes "v1.1.0"

-- ---- versions by their digits

digits : {x y z : List ℕ} {a b c : ℕ} → x ≡ a ∷ [] → y ≡ b ∷ [] → z ≡ c ∷ []
    → 118 ∷ (a ∷ (46 ∷ (b ∷ (46 ∷ (c ∷ []))))) ≡ 118 ∷ (x ++ (46 ∷ (y ++ (46 ∷ (z ++ [])))))
digits e f g = rw (e, f, g) refl

zero_is : decimal 0 ≡ 48 ∷ []
zero_is = decimal_digit 0 (lit< tt)

one_is : decimal 1 ≡ 49 ∷ []
one_is = decimal_digit 1 (lit< tt)

one_zero_text : one_zero ≡ version_text (1, 0, 0, [], [])
one_zero_text = digits one_is zero_is zero_is

pub one_zero_is : IsVersion one_zero
one_zero_is = ((1, 0, 0, [], []), (lit< tt, lit< tt, lit< tt, refl, refl), inl refl, one_zero_text)

pub one_zero_parts : parts_in one_zero ≡ (1, 0, 0, [], [])
one_zero_parts = parts-spelled _ _ (lit< tt, lit< tt, lit< tt, refl, refl) one_zero_text

one_one_text : one_one ≡ version_text (1, 1, 0, [], [])
one_one_text = digits one_is one_is zero_is

pub one_one_is : IsVersion one_one
one_one_is = ((1, 1, 0, [], []), (lit< tt, lit< tt, lit< tt, refl, refl), inl refl, one_one_text)

pub one_one_parts : parts_in one_one ≡ (1, 1, 0, [], [])
one_one_parts = parts-spelled _ _ (lit< tt, lit< tt, lit< tt, refl, refl) one_one_text

abbrev pub one_nine : List ℕ
one_nine = codes "v1.9.0"

abbrev pub one_ten : List ℕ
one_ten = codes "v1.10.0"

nine_is : decimal 9 ≡ 57 ∷ []
nine_is = decimal_digit 9 (lit< tt)

ten_is : decimal 10 ≡ 49 ∷ 48 ∷ []
ten_is = decimal_step _ (omega arith) (omega arith) ∙ ap (λ front. front ++ (48 ∷ [])) one_is

one_nine_text : one_nine ≡ version_text (1, 9, 0, [], [])
one_nine_text = digits one_is nine_is zero_is

one_nine_parts : parts_in one_nine ≡ (1, 9, 0, [], [])
one_nine_parts = parts-spelled _ _ (lit< tt, lit< tt, lit< tt, refl, refl) one_nine_text

one_ten_text : one_ten ≡ version_text (1, 10, 0, [], [])
one_ten_text = rw (one_is, ten_is, zero_is) refl

pub one_ten_is : IsVersion one_ten
one_ten_is = ((1, 10, 0, [], []), (lit< tt, lit< tt, lit< tt, refl, refl), inl refl, one_ten_text)

pub one_ten_parts : parts_in one_ten ≡ (1, 10, 0, [], [])
one_ten_parts = parts-spelled _ _ (lit< tt, lit< tt, lit< tt, refl, refl) one_ten_text

-- ---- their order

-- versions are ordered by what they say, and then by their bytes
ordered : (v w : List ℕ) {p q : Parts} → parts_in v ≡ p → parts_in w ≡ q → version_cmp v w ≡ ordering_then (precedence p q) (slice_cmp nat_cmp v w)
ordered v w e f = ap₂ (λ (p q : Parts). ordering_then (precedence p q) (slice_cmp nat_cmp v w)) e f

pub one_one_is_above : version_cmp one_one one_zero ≡ Greater
one_one_is_above = ordered one_one one_zero one_one_parts one_zero_parts

one_zero_is_below : version_cmp one_zero one_one ≡ Less
one_zero_is_below = ordered one_zero one_one one_zero_parts one_one_parts

pub one_ten_is_above : version_cmp one_ten one_nine ≡ Greater
one_ten_is_above = ordered one_ten one_nine one_ten_parts one_nine_parts

pub same_precedence : precedence (parts_in one_zero) (parts_in one_zero) ≡ Equal
same_precedence = ap₂ precedence one_zero_parts one_zero_parts

pub versions_differ : one_zero ≡ one_one → ⊥
versions_differ e = let digit = heads _ _ _ _ (ap (drop 3) e) in omega (arith, digit)

-- ---- what fits the path a.b

not_gopkg : IsUnderGopkg (codes "a.b") → ⊥
not_gopkg (rest, is) = let wrong = heads _ _ _ _ is in omega (arith, wrong)

no_slash : (x z : List ℕ) → codes "a.b" ≡ (x ++ codes "/v") ++ z → ⊥
no_slash [] z e = let wrong = heads _ _ _ _ e in omega (arith, wrong)
no_slash (_ ∷ []) z e = let wrong = heads _ _ _ _ (ap (drop 1) e) in omega (arith, wrong)
no_slash (_ ∷ _ ∷ []) z e = let wrong = heads _ _ _ _ (ap (drop 2) e) in omega (arith, wrong)
no_slash (_ ∷ _ ∷ _ ∷ x) z e =
    let size : 0 ≡ length ((x ++ codes "/v") ++ z) = ap (λ t. length t) (ap (drop 3) e) in
    let inner = length-append x (codes "/v") in
    let outer = length-append (x ++ codes "/v") z in
    omega (arith, size, inner, outer)

no_suffix : HasMajor (codes "a.b") NoSuffix
no_suffix = (not_gopkg, λ (front, tail, is, some, all). no_slash _ _ is)

pub one_zero_fits : Fits (codes "a.b") one_zero
one_zero_fits = (NoSuffix, no_suffix, inl (low, none))
  where
    low : (parts_in one_zero).0 < 2
    low = let major : (parts_in one_zero).0 ≡ 1 = ap (λ (p : Parts). p.0) one_zero_parts in omega (arith, major)

    none : (parts_in one_zero).4 ≡ []
    none = ap (λ (p : Parts). p.4) one_zero_parts

no_pseudo : IsPseudoVersion one_zero → ⊥
no_pseudo (form, time, revision, (front, is, stamp)) =
    let pre : (parts_in one_zero).3 ≡ [] = ap (λ p. p.3) one_zero_parts in
    let whole : [] ≡ ((front ++ time) ++ codes "-") ++ revision = sym pre ∙ stamp.joined in
    let size : 0 ≡ length (((front ++ time) ++ codes "-") ++ revision) = ap (λ t. length t) whole in
    let one = length-append ((front ++ time) ++ codes "-") revision in
    let some = stamp.some in
    omega (arith, size, one, some)

pub one_zero_listable : IsListable (codes "a.b") one_zero
one_zero_listable = record { canonical = one_zero_is; fit = one_zero_fits; no_pseudo = no_pseudo }

-- ---- lists

abbrev pub both_listed : List ℕ
both_listed = codes "v1.0.0\nv1.1.0\n"

pub one_zero_listed : IsListed (codes "a.b") both_listed one_zero
one_zero_listed = record { named = (0, omega arith, refl); listable = one_zero_listable }

one_one_counts : counts true one_one ≡ true
one_one_counts = ap (λ p. length p.3 == 0) one_one_parts

pub one_one_is_latest : IsLatest (one_zero ∷ one_one ∷ []) one_one
one_one_is_latest = inl (record {
  listed = member_tail _ _ (one_one ∷ []) (member_head _ []);
  counted = one_one_counts;
  greatest = λ other there counted. each_of (λ v. is_gt (version_cmp v one_one) ≡ false) (one_zero ∷ one_one ∷ [])
      (ap is_gt one_zero_is_below, (not_above_itself (version_cmp one_one one_one) (version_total.antisymm one_one one_one), tt)) other there;
})
