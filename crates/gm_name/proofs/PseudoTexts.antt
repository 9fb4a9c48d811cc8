-- Pseudo-versions and their bases as whole texts.
use Rattle.std.proofs.Common.{◌⊎◌, ◌≡◌, ◌↔◌, ◌==◌, nat_lt, ℕ, ◌+◌, ◌-◌, ◌^◌, ◌<◌, true, false, List, [], ◌∷◌, ◌++◌, length, codes, refl, sym, ap, subst, ◌∙◌, inl, inr, arith, append_assoc, length-append}
use Rattle.std.proofs.lemmas.Bool.{and_from}
use Rattle.std.proofs.lemmas.Bool.Decides.{nat_tests}
use Rattle.std.proofs.lemmas.Fmt.{decimal_digit}
use Rattle.std.proofs.lemmas.List.Folds.{list_all-append}
use Rattle.std.specs.Char.{is_ascii_alphanumeric, is_ascii_digit}
use Rattle.std.specs.Cmp.{first_so, second_so}
use Rattle.std.specs.Fmt.{decimal}
use Rattle.std.specs.List.{list_all}
use Rattle.semver.specs.Grammar.{IsValid, is_build, is_identifier_byte, is_pre_identifier, is_pre_release}
use Rattle.semver.specs.Identifiers.{marked}
use Rattle.semver.specs.Order.{is_numeric, parts}
use Rattle.semver.specs.Parse.{Parts}
use Rattle.gm_name.specs.Pseudo.{IsBase, IsFront, IsPseudo, IsStamp}
use Rattle.gm_name.specs.PseudoText.{IsBaseText, IsEnd, IsPseudoText, AreNumbers, IsBefore, first_text, release, second_text, third_text}
use Rattle.gm_version.specs.Version.{HasPlainBuild, IsVersion, parts_in, version_text}
use Rattle.gm_name.proofs.BaseVersions.{identifiers-append, parts-spelled, pre-before, pre-from, pre-identifiers}
use Rattle.gm_version.proofs.ListTests.{all-append, weaker}
use Rattle.gm_version.proofs.Versions.{version-parts}

-- ---- the text of parts

marked-some : (mark : ℕ) (text : List ℕ) → 0 < length text → marked mark text ≡ mark ∷ text
marked-some mark [] some = absurd (omega arith)
marked-some mark (b ∷ rest) some = refl

-- the text of a release, with its build
release-text : (x y z : ℕ) (build : List ℕ) → version_text (x, y, z, [], build) ≡ release x y z ++ marked 43 build
release-text x y z build = simp append_assoc

-- the text of a version with a pre-release
pre-text : (x y z : ℕ) (pre build : List ℕ) → 0 < length pre
    → version_text (x, y, z, pre, build) ≡ release x y z ++ codes "-" ++ pre ++ marked 43 build
pre-text x y z pre build some = rw (marked-some 45 pre some) (simp append_assoc)

-- ---- the text of the parts of each form

zero : decimal 0 ≡ codes "0"
zero = decimal_digit 0 (omega arith)

first-whole : (x : ℕ) (time revision build : List ℕ) → length time ≡ 14
    → version_text (x, 0, 0, time ++ codes "-" ++ revision, build)
    ≡ first_text x (time ++ codes "-" ++ revision ++ marked 43 build)
first-whole x time revision build fourteen =
    let pre = time ++ codes "-" ++ revision in
    let rest = marked 43 build in
    let some : 0 < length pre = omega (arith, length-append (time ++ codes "-") revision, length-append time (codes "-")) in
    pre-text x 0 0 pre build some
    ∙ ap (λ o. codes "v" ++ decimal x ++ codes "." ++ o ++ codes "." ++ o ++ codes "-" ++ pre ++ rest) zero
    ∙ regroup (codes "v") (decimal x) (codes ".") (codes "0") (codes "-") time (codes "-") revision rest
  where
    regroup : (v x p o d t e r m : List ℕ) → v ++ x ++ p ++ o ++ p ++ o ++ d ++ (t ++ e ++ r) ++ m
        ≡ v ++ x ++ (p ++ o ++ p ++ o ++ d) ++ (t ++ e ++ r ++ m)
    regroup v x p o d t e r m = simp append_assoc

second-whole : (x y z : ℕ) (before time revision build : List ℕ) → 0 < length before
    → version_text (x, y, z, before ++ codes ".0." ++ time ++ codes "-" ++ revision, build)
    ≡ second_text x y z before (time ++ codes "-" ++ revision ++ marked 43 build)
second-whole x y z before time revision build long =
    let pre = before ++ codes ".0." ++ time ++ codes "-" ++ revision in
    let some : 0 < length pre = omega (
      arith,
      length-append (((before ++ codes ".0.") ++ time) ++ codes "-") revision,
      length-append ((before ++ codes ".0.") ++ time) (codes "-"),
      length-append (before ++ codes ".0.") time,
      length-append before (codes ".0."),
    ) in
    pre-text x y z pre build some
    ∙ regroup (release x y z) (codes "-") before (codes ".0.") time (codes "-") revision (marked 43 build)
  where
    regroup : (r d b o t e v m : List ℕ) → r ++ d ++ (b ++ o ++ t ++ e ++ v) ++ m
        ≡ r ++ d ++ b ++ o ++ (t ++ e ++ v ++ m)
    regroup r d b o t e v m = simp append_assoc

third-whole : (x y z : ℕ) (time revision build : List ℕ)
    → version_text (x, y, z + 1, codes "0." ++ time ++ codes "-" ++ revision, build)
    ≡ third_text x y z (time ++ codes "-" ++ revision ++ marked 43 build)
third-whole x y z time revision build =
    pre-text x y (z + 1) (codes "0." ++ time ++ codes "-" ++ revision) build (omega arith)
    ∙ regroup (release x y (z + 1)) (codes "-") (codes "0.") time (codes "-") revision (marked 43 build)
  where
    regroup : (r d o t e v m : List ℕ) → r ++ d ++ (o ++ t ++ e ++ v) ++ m ≡ r ++ (d ++ o) ++ (t ++ e ++ v ++ m)
    regroup r d o t e v m = simp append_assoc

-- ---- builds

-- a plain build as a text
build-text : (build : List ℕ) → (build ≡ []) ⊎ (build ≡ codes "incompatible")
    → (marked 43 build ≡ []) ⊎ (marked 43 build ≡ codes "+incompatible")
build-text build plain = elim plain [ inl none ↦ inl (rw none refl) | inr word ↦ inr (rw word refl) ]

-- the build that a text is of
abbrev pub IsBuildOf : List ℕ → Type 0
IsBuildOf text = (build : List ℕ) × ((build ≡ []) ⊎ (build ≡ codes "incompatible")) × (is_build build ≡ true) × (marked 43 build ≡ text)

build-part : (text : List ℕ) → (text ≡ []) ⊎ (text ≡ codes "+incompatible") → IsBuildOf text
build-part text plain = elim plain [
  | inl none ↦ ([], inl refl, refl, sym none)
  | inr word ↦ (codes "incompatible", inr refl, refl, sym word)
]

-- ---- pre-releases

digit-identifier : (b : ℕ) → is_ascii_digit b ≡ true → is_identifier_byte b ≡ true
digit-identifier b h = grind (arith, nat_tests)

letter-identifier : (b : ℕ) → is_ascii_alphanumeric b ≡ true → is_identifier_byte b ≡ true
letter-identifier b h = grind (arith, nat_tests)

identifier-no_dot : (b : ℕ) → is_identifier_byte b ≡ true → (b == 46) ≡ false
identifier-no_dot b h = grind (arith, nat_tests)

-- identifier bytes are one identifier
one-part : (text : List ℕ) → list_all is_identifier_byte text ≡ true → parts text ≡ text ∷ []
one-part [] all = refl
one-part (b ∷ rest) all =
    let other : (b == 46) ≡ false = identifier-no_dot b (first_so _ _ all) in
    let one : parts rest ≡ rest ∷ [] = one-part rest (second_so _ _ all) in
    rw (other, one) refl

-- a time, a dash and a revision are one identifier of a pre-release
end-identifier : {end time revision build : List ℕ} → IsEnd end time revision build → is_pre_identifier (time ++ codes "-" ++ revision) ≡ true
end-identifier {end} {time} {revision} is =
    let whole = time ++ codes "-" ++ revision in
    let long : 0 < length whole = omega (arith, length-append (time ++ codes "-") revision, length-append time (codes "-")) in
    let some : nat_lt 0 (length whole) ≡ true = grind (arith, nat_tests) in
    let numeric : is_numeric whole ≡ false =
    list_all-append is_ascii_digit (time ++ codes "-") revision
    ∙ rw (list_all-append is_ascii_digit time (codes "-"), is.digits) refl in
    let first = weaker is_ascii_digit is_identifier_byte digit-identifier time is.digits in
    let second = weaker is_ascii_alphanumeric is_identifier_byte letter-identifier revision is.letters_or_digits in
    let each : list_all is_identifier_byte whole ≡ true =
    all-append is_identifier_byte (time ++ codes "-") revision (all-append is_identifier_byte time (codes "-") first refl) second in
    rw (numeric, each, some) refl

-- a pre-release of each form is valid
first-pre : {end time revision build : List ℕ} → IsEnd end time revision build
    → list_all is_pre_identifier (parts (time ++ codes "-" ++ revision)) ≡ true
first-pre {end} {time} {revision} is =
    let whole = time ++ codes "-" ++ revision in
    let identifier = end-identifier is in
    let one : parts whole ≡ whole ∷ [] = one-part whole (second_so _ _ (first_so _ _ identifier)) in
    rw (one, identifier) refl

third-pre : {end time revision build : List ℕ} → IsEnd end time revision build
    → list_all is_pre_identifier (parts (codes "0." ++ time ++ codes "-" ++ revision)) ≡ true
third-pre {end} {time} {revision} is =
    ap (list_all is_pre_identifier) (identifiers-append (codes "0") (time ++ codes "-" ++ revision)) ∙ first-pre is

second-pre : {end time revision build : List ℕ} (before : List ℕ) → IsBefore before → IsEnd end time revision build
    → list_all is_pre_identifier (parts (before ++ codes ".0." ++ time ++ codes "-" ++ revision)) ≡ true
second-pre {end} {time} {revision} before tagged is =
    let rest = codes "0." ++ time ++ codes "-" ++ revision in
    let same : before ++ codes ".0." ++ time ++ codes "-" ++ revision ≡ before ++ 46 ∷ rest = simp append_assoc in
    let all = list_all-append is_pre_identifier (parts before) (parts rest) in
    rw (same, identifiers-append before rest, all) (and_from _ _ (pre-identifiers before tagged.1 tagged.0) (third-pre is))

-- ---- from parts to texts

-- the end of a pseudo-version
end-of : {pre front time revision : List ℕ} (build : List ℕ) → IsStamp pre front time revision
    → (build ≡ []) ⊎ (build ≡ codes "incompatible")
    → IsEnd (time ++ codes "-" ++ revision ++ marked 43 build) time revision (marked 43 build)
end-of build stamp plain = record {
  joined = refl;
  fourteen = stamp.fourteen;
  digits = stamp.digits;
  some = stamp.some;
  letters_or_digits = stamp.letters_or_digits;
  plain = build-text build plain;
}

first-of : {version time revision : List ℕ} (p : Parts) → version ≡ version_text p → p.1 ≡ 0 → p.2 ≡ 0 → IsStamp p.3 [] time revision
    → version ≡ first_text p.0 (time ++ codes "-" ++ revision ++ marked 43 p.4)
first-of {time = time} {revision = revision} (x, y, z, pre, build) spelled minor patch stamp =
    spelled ∙ rw (minor, patch, stamp.joined) (first-whole x time revision build stamp.fourteen)

second-of : {version time revision : List ℕ} (p : Parts) (before : List ℕ) → version ≡ version_text p → 0 < length before
    → IsStamp p.3 (before ++ codes ".0.") time revision
    → version ≡ second_text p.0 p.1 p.2 before (time ++ codes "-" ++ revision ++ marked 43 p.4)
second-of {time = time} {revision = revision} (x, y, z, pre, build) before spelled some stamp =
    spelled ∙ rw stamp.joined (second-whole x y z before time revision build some)

third-of : {version time revision : List ℕ} (p : Parts) → version ≡ version_text p → 0 < p.2 → IsStamp p.3 (codes "0.") time revision
    → version ≡ third_text p.0 p.1 (p.2 - 1) (time ++ codes "-" ++ revision ++ marked 43 p.4)
third-of {time = time} {revision = revision} (x, y, z, pre, build) spelled positive stamp =
    let more : z ≡ z - 1 + 1 = omega arith in
    spelled ∙ ap (λ n. version_text (x, y, n, pre, build)) more
    ∙ ap (λ t. version_text (x, y, z - 1 + 1, t, build)) stamp.joined
    ∙ third-whole x y (z - 1) time revision build

pseudo-to : (version : List ℕ) (form : ℕ) (time revision : List ℕ)
    → IsVersion version × IsPseudo version form time revision → IsPseudoText version form time revision
pseudo-to version form time revision is =
    let p = parts_in version in
    let v = version-parts version is.0 in
    let stamp = is.1.2 in (
      time ++ codes "-" ++ revision ++ marked 43 p.4,
      marked 43 p.4,
      end-of p.4 stamp v.1,
      elim is.1.1 [
        | inl first ↦
            let at = subst (λ f. IsStamp p.3 f time revision) first.3 stamp in
            inl (first.0, p.0, v.0.0, first-of p v.2 first.1 first.2 at)
        | inr others ↦ elim others [
          | inl second ↦
              let at = subst (λ f. IsStamp p.3 f time revision) second.3 stamp in
              let tagged : IsBefore second.1 = (second.2, pre-before second.1 v.0.3 at) in
              let spelled = second-of p second.1 v.2 second.2 at in
              inr (inl (second.0, p.0, p.1, p.2, second.1, (v.0.0, v.0.1, v.0.2), tagged, spelled))
          | inr third ↦
              let at = subst (λ f. IsStamp p.3 f time revision) third.2 stamp in
              let small : AreNumbers p.0 p.1 (p.2 - 1 + 1) = (v.0.0, v.0.1, omega (arith, v.0.2, third.1)) in
              inr (inr (third.0, p.0, p.1, p.2 - 1, small, third-of p v.2 third.1 at))
        ]
      ],
    )

base-to : (version base : List ℕ) → IsVersion version × IsBase version base → IsBaseText version base
base-to version base is =
    let p = parts_in version in
    let v = version-parts version is.0 in
    let time = is.1.0 in
    let revision = is.1.1 in
    let end = time ++ codes "-" ++ revision ++ marked 43 p.4 in
    elim is.1.2 [
      | inl second ↦
          let tagged : IsBefore second.0 = (second.1, pre-before second.0 v.0.3 second.2) in
          let spelled = second-of p second.0 v.2 second.1 second.2 in
          let base_spelled = second.3 ∙ pre-text p.0 p.1 p.2 second.0 p.4 second.1 in
          (end, time, revision, marked 43 p.4, end-of p.4 second.2 v.1, inl (p.0, p.1, p.2, second.0, (v.0.0, v.0.1, v.0.2), tagged, spelled, base_spelled))
      | inr third ↦
          let small : AreNumbers p.0 p.1 (p.2 - 1 + 1) = (v.0.0, v.0.1, omega (arith, v.0.2, third.0)) in
          let base_spelled = third.2 ∙ release-text p.0 p.1 (p.2 - 1) p.4 in
          (end, time, revision, marked 43 p.4, end-of p.4 third.1 v.1, inr (p.0, p.1, p.2 - 1, small, third-of p v.2 third.0 third.1, base_spelled))
    ]

-- ---- from texts to parts

-- the stamp of a pre-release with this end
stamp-of : {end time revision build : List ℕ} (front : List ℕ) → IsEnd end time revision build
    → IsStamp (front ++ time ++ codes "-" ++ revision) front time revision
stamp-of front is = record {
  joined = refl;
  fourteen = is.fourteen;
  digits = is.digits;
  some = is.some;
  letters_or_digits = is.letters_or_digits;
}

-- the end, by the build that its last text is of
end-joined : {end time revision build : List ℕ} → IsEnd end time revision build → (part : IsBuildOf build)
    → end ≡ time ++ codes "-" ++ revision ++ marked 43 part.0
end-joined {time = time} {revision = revision} is part = is.joined ∙ ap (time ++ codes "-" ++ revision ++◌) (sym part.3)

-- a text of valid parts is a version with these parts
version-of : {version : List ℕ} (q : Parts) → IsValid q → HasPlainBuild q → version ≡ version_text q → IsVersion version × (parts_in version ≡ q)
version-of {version} q valid plain spelled = ((q, valid, plain, spelled), parts-spelled version q valid spelled)

first-from : {version end time revision build : List ℕ} (x : ℕ) → x < 2 ^ 64 → IsEnd end time revision build → (part : IsBuildOf build)
    → version ≡ first_text x end → IsVersion version × (parts_in version ≡ (x, 0, 0, time ++ codes "-" ++ revision, part.0))
first-from {time = time} {revision = revision} x small is part spelled =
    let pre = time ++ codes "-" ++ revision in
    let valid : is_pre_release pre ≡ true = pre-from pre (first-pre is) in
    version-of (x, 0, 0, pre, part.0) (small, omega arith, omega arith, valid, part.2) part.1
    (spelled ∙ ap (first_text x) (end-joined is part) ∙ sym (first-whole x time revision part.0 is.fourteen))

second-from : {version end time revision build : List ℕ} (x y z : ℕ) (before : List ℕ) → AreNumbers x y z
    → IsBefore before → IsEnd end time revision build → (part : IsBuildOf build) → version ≡ second_text x y z before end
    → IsVersion version × (parts_in version ≡ (x, y, z, before ++ codes ".0." ++ time ++ codes "-" ++ revision, part.0))
second-from {time = time} {revision = revision} x y z before small tagged is part spelled =
    let pre = before ++ codes ".0." ++ time ++ codes "-" ++ revision in
    let valid : is_pre_release pre ≡ true = pre-from pre (second-pre before tagged is) in
    version-of (x, y, z, pre, part.0) (small.0, small.1, small.2, valid, part.2) part.1
    (spelled ∙ ap (second_text x y z before) (end-joined is part) ∙ sym (second-whole x y z before time revision part.0 tagged.0))

third-from : {version end time revision build : List ℕ} (x y z : ℕ) → AreNumbers x y (z + 1)
    → IsEnd end time revision build → (part : IsBuildOf build) → version ≡ third_text x y z end
    → IsVersion version × (parts_in version ≡ (x, y, z + 1, codes "0." ++ time ++ codes "-" ++ revision, part.0))
third-from {time = time} {revision = revision} x y z small is part spelled =
    let pre = codes "0." ++ time ++ codes "-" ++ revision in
    let valid : is_pre_release pre ≡ true = pre-from pre (third-pre is) in
    version-of (x, y, z + 1, pre, part.0) (small.0, small.1, small.2, valid, part.2) part.1
    (spelled ∙ ap (third_text x y z) (end-joined is part) ∙ sym (third-whole x y z time revision part.0))

pseudo-from : (version : List ℕ) (form : ℕ) (time revision : List ℕ)
    → IsPseudoText version form time revision → IsVersion version × IsPseudo version form time revision
pseudo-from version form time revision is =
    let b = build-part is.1 is.2.plain in
    elim is.3 [
      | inl f ↦
          let v = first-from f.1 f.2 is.2 b f.3 in
          (v.0, at (sym v.1) ([], inl (f.0, refl, refl, refl), stamp-of [] is.2))
      | inr others ↦ elim others [
        | inl f ↦
            let v = second-from f.1 f.2 f.3 f.4 f.5 f.6 is.2 b f.7 in
            let front = f.4 ++ codes ".0." in
            (v.0, at (sym v.1) (front, inr (inl (f.0, f.4, f.6.0, refl)), stamp-of front is.2))
        | inr f ↦
            let v = third-from f.1 f.2 f.3 f.4 is.2 b f.5 in
            (v.0, at (sym v.1) (codes "0.", inr (inr (f.0, omega arith, refl)), stamp-of (codes "0.") is.2))
      ]
    ]
  where
    HasFront : Parts → Type 0
    HasFront q = (front : List ℕ) × IsFront form q.1 q.2 front × IsStamp q.3 front time revision

    at : {q r : Parts} → q ≡ r → HasFront q → HasFront r
    at same has = subst HasFront same has

base-from : (version base : List ℕ) → IsBaseText version base → IsVersion version × IsBase version base
base-from version base is =
    let b = build-part is.3 is.4.plain in
    elim is.5 [
      | inl f ↦
          let v = second-from f.0 f.1 f.2 f.3 f.4 f.5 is.4 b f.6 in
          let spelled : base ≡ version_text (f.0, f.1, f.2, f.3, b.0) =
          f.7 ∙ ap (release f.0 f.1 f.2 ++ codes "-" ++ f.3 ++◌) (sym b.3) ∙ sym (pre-text f.0 f.1 f.2 f.3 b.0 f.5.0) in
          (v.0, at (sym v.1) (is.1, is.2, inl (f.3, f.5.0, stamp-of (f.3 ++ codes ".0.") is.4, spelled)))
      | inr f ↦
          let v = third-from f.0 f.1 f.2 f.3 is.4 b f.4 in
          let less : f.2 + 1 - 1 ≡ f.2 = omega arith in
          let spelled : base ≡ version_text (f.0, f.1, f.2 + 1 - 1, [], b.0) =
          f.5 ∙ ap (release f.0 f.1 f.2 ++◌) (sym b.3) ∙ sym (release-text f.0 f.1 f.2 b.0)
          ∙ ap (λ n. version_text (f.0, f.1, n, [], b.0)) (sym less) in
          (v.0, at (sym v.1) (is.1, is.2, inr (omega arith, stamp-of (codes "0.") is.4, spelled)))
    ]
  where
    HasBase : Parts → Type 0
    HasBase p = (time revision : List ℕ)
        × (((before : List ℕ) × (0 < length before) × IsStamp p.3 (before ++ codes ".0.") time revision
        × (base ≡ version_text (p.0, p.1, p.2, before, p.4)))
        ⊎ ((0 < p.2) × IsStamp p.3 (codes "0.") time revision × (base ≡ version_text (p.0, p.1, p.2 - 1, [], p.4))))

    at : {q r : Parts} → q ≡ r → HasBase q → HasBase r
    at same has = subst HasBase same has

-- ---- both ways

pub pseudo-spelled : (version : List ℕ) (form : ℕ) (time revision : List ℕ)
    → (IsVersion version × IsPseudo version form time revision) ↔ IsPseudoText version form time revision
pseudo-spelled version form time revision =
    (pseudo-to version form time revision, pseudo-from version form time revision)

pub base-spelled : (version base : List ℕ) → (IsVersion version × IsBase version base) ↔ IsBaseText version base
base-spelled version base = (base-to version base, base-from version base)
