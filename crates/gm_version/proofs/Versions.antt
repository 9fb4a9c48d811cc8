-- What SemVer's parser says about the text of a version.
use Rattle.std.proofs.Common.{◌≡◌, ◌≢◌, ◌↔◌, ◌==◌, MatchBool, ℕ, ◌^◌, ◌<◌, Bool, true, false, List, [], ◌∷◌, ◌++◌, length, get_or, drop, codes, Ok, Err, Some, None, refl, sym, ap, ◌∙◌, subst, inl, inr, arith, lit<, length-append}
use Rattle.std.proofs.lemmas.Bool.{eqb-true}
use Rattle.std.proofs.lemmas.List.{nil_from_length}
use Rattle.std.proofs.Math.Seq.{get_or-append_seam}
use Rattle.std.proofs.lemmas.List.Sums.{AllPass-from_list_all}
use Rattle.std.proofs.lemmas.Str.Pattern.{IsSplitOnceResult, split_after, split_parts}
use Rattle.std.specs.Borrow.{Bor}
use Rattle.std.specs.Char.{is_ascii_digit}
use Rattle.std.specs.Fmt.{decimal}
use Rattle.semver.proofs.Grammar.{version_parts-complete, version_parts-sound}
use Rattle.semver.specs.Grammar.{IsValid, is_pre_release}
use Rattle.semver.specs.Identifiers.{parts_text}
use Rattle.semver.specs.Parse.{Parts, version_parts}
use Rattle.semver.specs.declared.error.Error.{Error}
use Rattle.gm_version.specs.Number.{IsNumber}
use Rattle.gm_version.specs.Version.{HasPlainBuild, IsNotCanonical, IsShortVersion, IsVersion, build_of, parts_in, version_text}
use Rattle.gm_version.proofs.Numbers.{decimal-digits}

-- ---- SemVer's grammar

-- a text that is parsed is the text of its parts, which are valid
pub version-read : (text rest : List ℕ) (parts : Parts) → text ≡ 118 ∷ rest → version_parts rest ≡ Ok parts
    → IsValid parts × (text ≡ version_text parts)
version-read text rest parts v read =
    let sound = version_parts-sound rest parts read in
    (sound.1, v ∙ ap (118 ∷◌) (sym sound.0))

-- the text of valid parts is parsed into these parts
pub version-complete : (text rest : List ℕ) (parts : Parts) → text ≡ 118 ∷ rest → IsValid parts → text ≡ version_text parts → version_parts rest ≡ Ok parts
version-complete text rest parts v valid spelled =
    let same : rest ≡ parts_text parts = cc (sym v ∙ spelled) in
    rw same (version_parts-complete parts valid)

-- a text that is not parsed is not the text of any valid parts
pub version-unread : (text rest : List ℕ) (e : Error) → text ≡ 118 ∷ rest → version_parts rest ≡ Err e
    → (parts : Parts) → IsValid parts → text ≢ version_text parts
version-unread text rest e v unread parts valid spelled = cc (unread, version-complete text rest parts v valid spelled)

-- a text that does not begin with `v`
pub version-v : (text : List ℕ) → ((rest : List ℕ) → text ≢ 118 ∷ rest) → ¬ (IsVersion text) × ¬ (IsNotCanonical text)
version-v text apart = (
  λ version. apart (parts_text version.0) version.3,
  λ other. elim other [
    | inl built ↦ apart (parts_text built.0) built.3
    | inr short ↦ elim short [
      | inl one ↦ apart (decimal one.0) one.2
      | inr two ↦ apart (decimal two.0 ++ 46 ∷ decimal two.1) two.4
    ]
  ],
)

-- a text that is not parsed is not a version, and is non-canonical only if it is short
pub version-none : (text rest : List ℕ) (e : Error) → text ≡ 118 ∷ rest → version_parts rest ≡ Err e
    → ¬ (IsVersion text) × (IsNotCanonical text → IsShortVersion text)
version-none text rest e v unread = (
  λ version. version-unread text rest e v unread version.0 version.1 version.3,
  λ other. elim other [
    | inl built ↦ absurd (version-unread text rest e v unread built.0 built.1 built.3)
    | inr short ↦ short
  ],
)

-- a text that is parsed with another build is not a version
pub version-built : (text rest : List ℕ) (parts : Parts) → text ≡ 118 ∷ rest → version_parts rest ≡ Ok parts → ¬ (HasPlainBuild parts)
    → IsNotCanonical text × ¬ (IsVersion text)
version-built text rest parts v read built =
    let r = version-read text rest parts v read in (
      inl (parts, r.0, built, r.1),
      λ version.
          let again = version-complete text rest version.0 v version.1 version.3 in
          let same : version.0 ≡ parts = cc (sym again ∙ read) in
          built (subst HasPlainBuild same version.2),
    )

-- ---- short versions

-- digits are not dots
digits-no_dot : (n : ℕ) → n < 2 ^ 64 → (i : ℕ) → i < length (decimal n) → get_or (decimal n) i 0 ≢ 46
digits-no_dot n small i lt e =
    let digit = AllPass-from_list_all is_ascii_digit (decimal n) (decimal-digits n small) i 0 lt in
    cc (rw e at digit)

-- a text that is split at a dot
pub short-cut : (text : List ℕ) (a b : Bor (List ℕ)) → IsSplitOnceResult 46 text (Some (a, b))
    → (((m : ℕ) × IsNumber a.now m) × ((n : ℕ) × IsNumber b.now n)) ↔ IsShortVersion (118 ∷ text)
short-cut text a b cut =
    let parts = split_parts 46 text (Some (a, b)) cut (lit< tt) in (
      λ both. inr (
        both.0.0,
        both.1.0,
        both.0.1.0,
        both.1.1.0,
        ap (118 ∷◌) (parts.0 ∙ ap (λ t. t ++ 46 ∷ b.now) both.0.1.1 ∙ ap (λ t. decimal both.0.0 ++ 46 ∷ t) both.1.1.1),
      ),
      λ short. elim short [
        | inl one ↦
            let same : text ≡ decimal one.0 = cc one.2 in
            let whole = sym parts.0 ∙ same in
            let size : length (a.now ++ 46 ∷ b.now) ≡ length (decimal one.0) = ap length whole in
            let inside : length a.now < length (decimal one.0) = omega (arith, size, length-append a.now (46 ∷ b.now)) in
            let dot : get_or (decimal one.0) (length a.now) 0 ≡ 46 = rw whole at (get_or-append_seam a.now 46 b.now 0) in
            absurd (digits-no_dot one.0 one.1 (length a.now) inside dot)
        | inr two ↦
            let same : text ≡ decimal two.0 ++ 46 ∷ decimal two.1 = cc two.4 in
            let after = split_after 46 text (decimal two.0) (decimal two.1) (Some (a, b)) cut (lit< tt) same (digits-no_dot two.0 two.2) in
            ((two.0, (two.2, after.0)), (two.1, (two.3, after.1)))
      ],
    )

-- a text without a dot
pub short-whole : (text : List ℕ) → IsSplitOnceResult 46 text None → ((n : ℕ) × IsNumber text n) ↔ IsShortVersion (118 ∷ text)
short-whole text uncut = (
  λ one. inl (one.0, one.1.0, ap (118 ∷◌) one.1.1),
  λ short. elim short [
    | inl one ↦
        let same : text ≡ decimal one.0 = cc one.2 in
        (one.0, (one.1, same))
    | inr two ↦
        let same : text ≡ decimal two.0 ++ 46 ∷ decimal two.1 = cc two.4 in
        absurd (split_after 46 text (decimal two.0) (decimal two.1) None uncut (lit< tt) same (digits-no_dot two.0 two.2))
  ],
)

-- ---- the parts of a version's text

-- a text that is parsed has the parts that the parser gives
pub parts-read : (text : List ℕ) (parts : Parts) → version_parts (drop 1 text) ≡ Ok parts → parts_in text ≡ parts
parts-read text parts read = rw read refl

-- a version is the text of its parts, which are valid, and has a plain build
pub version-parts : (text : List ℕ) → IsVersion text → IsValid (parts_in text) × HasPlainBuild (parts_in text) × (text ≡ version_text (parts_in text))
version-parts text version =
    let same : parts_in text ≡ version.0 = parts-read text version.0 (rw version.3 (version_parts-complete version.0 version.1)) in
    rw same (version.1, version.2, version.3)

-- an empty build decides between the two plain builds
pub build-cases : (text : List ℕ) (parts : Parts) (empty : Bool) → IsVersion text → version_parts (drop 1 text) ≡ Ok parts
    → empty ≡ (length parts.4 == 0) → MatchBool empty (build_of text ≡ []) (build_of text ≡ codes "incompatible")
build-cases text parts true version read says =
    let same = parts-read text parts read in
    subst (λ p. p.4 ≡ []) (sym same) (nil_from_length parts.4 (eqb-true _ _ (sym says)))
build-cases text parts false version read says =
    let same = parts-read text parts read in
    elim (version-parts text version).1 [
      | inl none ↦ cc (rw (rw same at none) at says)
      | inr word ↦ word
    ]

-- the new text is the version with another patch number and pre-release, and is parsed into its parts
abbrev pub IsVersionWith : List ℕ → List ℕ → Parts → ℕ → List ℕ → Type 0
IsVersionWith text new p patch pre = IsVersion new × (version_parts (drop 1 new) ≡ Ok (p.0, p.1, patch, pre, p.4))
    × (new ≡ version_text ((parts_in text).0, (parts_in text).1, patch, pre, (parts_in text).4))

pub version-with : (text new : List ℕ) (p : Parts) (patch : ℕ) (pre : List ℕ) → IsVersion text → version_parts (drop 1 text) ≡ Ok p
    → patch < 2 ^ 64 → is_pre_release pre ≡ true → new ≡ version_text (p.0, p.1, patch, pre, p.4) → IsVersionWith text new p patch pre
version-with text new p patch pre version read small good spelled =
    let same = parts-read text p read in
    let old = rw same at (version-parts text version).0 in
    let plain = rw same at (version-parts text version).1 in
    let q : Parts = (p.0, p.1, patch, pre, p.4) in
    let valid : IsValid q = (old.0, old.1, small, good, old.4) in
    ((q, valid, plain, spelled), rw spelled (version_parts-complete q valid), rw same spelled)
