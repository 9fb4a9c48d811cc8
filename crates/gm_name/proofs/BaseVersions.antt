-- The base of a pseudo-version: it is unique, a version, and of lower precedence.
use Rattle.std.proofs.Common.{◌≡◌, ◌↔◌, ◌==◌, ℕ, ◌-◌, ◌<◌, true, List, [], ◌∷◌, ◌++◌, length, codes, refl, sym, ap, subst, ◌∙◌, inl, inr, arith, append_assoc, length-append}
use Rattle.std.proofs.lemmas.Bool.{cases_Bool}
use Rattle.std.proofs.lemmas.List.{append_cancel_right}
use Rattle.std.proofs.lemmas.List.Folds.{list_all-append}
use Rattle.std.specs.Cmp.{first_so}
use Rattle.std.specs.List.{list_all}
use Rattle.semver.proofs.Grammar.{version_parts-complete}
use Rattle.semver.specs.Grammar.{IsValid, is_pre_identifier, is_pre_release}
use Rattle.semver.specs.Order.{parts}
use Rattle.semver.specs.OrderLaws.{parts-shape}
use Rattle.semver.specs.Parse.{Parts}
use Rattle.gm_name.specs.Precedence.{HasLowerPrecedence, IsLowerIdentifier, IsLowerList}
use Rattle.gm_name.specs.Pseudo.{IsBase, IsFront, IsPseudo, IsStamp}
use Rattle.gm_version.specs.Version.{IsVersion, parts_in, version_text}
use Rattle.gm_name.proofs.Stamps.{base-pseudo, front-dot, stamp-unique}
use Rattle.gm_version.proofs.Versions.{parts-read, version-parts}

-- ---- the identifiers before and after a dot

pub identifiers-append : (xs ys : List ℕ) → parts (xs ++ 46 ∷ ys) ≡ parts xs ++ parts ys
identifiers-append [] ys = refl
identifiers-append (b ∷ xs) ys = elim (cases_Bool (b == 46)) [
  | inl dot ↦ rw dot (ap ([] ∷◌) (identifiers-append xs ys))
  | inr other ↦
      let shape = parts-shape xs in
      rw (other, identifiers-append xs ys, shape.2) refl
]

-- a pre-release is a front, a dot and the rest
front-identifiers : {pre time revision : List ℕ} (before : List ℕ) → IsStamp pre (before ++ codes ".0.") time revision
    → (rest : List ℕ) × (parts pre ≡ parts before ++ parts rest)
front-identifiers {pre} {time} {revision} before stamp =
    let rest = codes "0." ++ time ++ codes "-" ++ revision in
    let whole : pre ≡ before ++ 46 ∷ rest = stamp.joined ∙ simp append_assoc in
    (rest, ap parts whole ∙ identifiers-append before rest)

pub pre-identifiers : (pre : List ℕ) → is_pre_release pre ≡ true → 0 < length pre → list_all is_pre_identifier (parts pre) ≡ true
pre-identifiers [] h some = absurd (omega arith)
pre-identifiers (b ∷ rest) h some = h

pub pre-from : (pre : List ℕ) → list_all is_pre_identifier (parts pre) ≡ true → is_pre_release pre ≡ true
pre-from [] h = refl
pre-from (b ∷ rest) h = h

stamp-some : {pre front time revision : List ℕ} → IsStamp pre front time revision → 0 < length pre
stamp-some {pre} {front} {time} {revision} stamp =
    let whole = ap length stamp.joined in
    omega (arith, length-append ((front ++ time) ++ codes "-") revision, length-append (front ++ time) (codes "-"))

-- the text before `.0.` in a pre-release is a pre-release too
pub pre-before : {pre time revision : List ℕ} (before : List ℕ) → is_pre_release pre ≡ true
    → IsStamp pre (before ++ codes ".0.") time revision → is_pre_release before ≡ true
pre-before {pre} before valid stamp =
    let cut = front-identifiers before stamp in
    let all = pre-identifiers pre valid (stamp-some stamp) in
    let both : list_all is_pre_identifier (parts before ++ parts cut.0) ≡ true = rw cut.1 at all in
    pre-from before (first_so _ _ (sym (list_all-append is_pre_identifier (parts before) (parts cut.0)) ∙ both))

-- ---- the base

-- a pseudo-version has only one base
pub base-unique : (version a b : List ℕ) → IsBase version a → IsBase version b → a ≡ b
base-unique version a b x y = elim x.2 [
  | inl v ↦ elim y.2 [
    | inl w ↦
        let fronts = same_front v.2 w.2 (second v.0 v.1) (second w.0 w.1) in
        let before : v.0 ≡ w.0 = append_cancel_right v.0 w.0 (codes ".0.") fronts in
        v.3 ∙ rw before (sym w.3)
    | inr w ↦
        let fronts = same_front v.2 w.1 (second v.0 v.1) (third w.0) in
        absurd (omega (arith, ap length fronts, length-append v.0 (codes ".0.")))
  ]
  | inr v ↦ elim y.2 [
    | inl w ↦
        let fronts = same_front v.1 w.2 (third v.0) (second w.0 w.1) in
        absurd (omega (arith, ap length fronts, length-append w.0 (codes ".0.")))
    | inr w ↦ v.2 ∙ sym w.2
  ]
]
  where
    p : Parts
    p = parts_in version

    second : (before : List ℕ) → 0 < length before → IsFront 2 p.1 p.2 (before ++ codes ".0.")
    second before some = inr (inl (refl, before, some, refl))

    third : 0 < p.2 → IsFront 3 p.1 p.2 (codes "0.")
    third positive = inr (inr (refl, positive, refl))

    same_front : {f g s t q r : List ℕ} {m n : ℕ} → IsStamp p.3 f s q → IsStamp p.3 g t r → IsFront m p.1 p.2 f → IsFront n p.1 p.2 g → f ≡ g
    same_front {f} {g} {m = m} {n = n} sf sg is_f is_g =
        (stamp-unique (front-dot m p.1 p.2 f is_f) (front-dot n p.1 p.2 g is_g) sf sg).0

-- the parts of the base, by form
base-parts : (version base : List ℕ) → IsVersion version → IsBase version base
    → (q : Parts) × IsValid q × (q.4 ≡ (parts_in version).4) × (base ≡ version_text q) × HasLowerPrecedence q (parts_in version)
base-parts version base is_version is =
    let p = parts_in version in
    let v = version-parts version is_version in
    let valid = v.0 in
    elim is.2 [
      | inl second ↦
          let cut = front-identifiers second.0 second.2 in
          let shape = parts-shape cut.0 in
          let longer : parts p.3 ≡ parts second.0 ++ shape.0 ∷ shape.1 = cut.1 ∙ ap (parts second.0 ++◌) shape.2 in
          let lower : IsLowerList IsLowerIdentifier (parts second.0) (parts p.3) = (parts second.0, inr (shape.0, shape.1, refl, longer)) in (
            (p.0, p.1, p.2, second.0, p.4),
            (valid.0, valid.1, valid.2, pre-before second.0 valid.3 second.2, valid.4),
            refl,
            second.3,
            inr (inr (inr (refl, refl, refl, inr (second.1, stamp-some second.2, lower)))),
          )
      | inr third ↦ (
        (p.0, p.1, p.2 - 1, [], p.4),
        (valid.0, valid.1, omega (arith, valid.2), refl, valid.4),
        refl,
        third.2,
        inr (inr (inl (refl, refl, omega (arith, third.0)))),
      )
    ]

-- a base is a version
pub base-version : (version base : List ℕ) → IsVersion version → IsBase version base → IsVersion base
base-version version base is_version is =
    let b = base-parts version base is_version is in
    let v = version-parts version is_version in
    (b.0, b.1, rw b.2 v.1, b.3)

pub parts-spelled : (text : List ℕ) (parts : Parts) → IsValid parts → text ≡ version_text parts → parts_in text ≡ parts
parts-spelled text parts valid spelled = parts-read text parts (rw spelled (version_parts-complete parts valid))

-- a base has lower precedence
pub base-lower : (version base : List ℕ) → IsVersion version → IsBase version base → HasLowerPrecedence (parts_in base) (parts_in version)
base-lower version base is_version is =
    let b = base-parts version base is_version is in
    let same = parts-spelled base b.0 b.1 b.3 in
    subst (λ q. HasLowerPrecedence q (parts_in version)) (sym same) b.4

-- the pseudo-versions with a base are those of the second and third form
pub base-forms : (version : List ℕ) → ((base : List ℕ) × IsBase version base)
    ↔ ((form : ℕ) × (time revision : List ℕ) × (1 < form) × IsPseudo version form time revision)
base-forms version = (
  λ some. let b = base-pseudo version some.0 some.1 in (b.0, b.1, b.2, b.3, b.5),
  λ some.
      let p = parts_in version in
      let pseudo = some.4 in
      elim pseudo.1 [
        | inl first ↦ absurd (omega (arith, some.3, first.0))
        | inr others ↦ elim others [
          | inl second ↦
              let stamp = subst (λ f. IsStamp p.3 f some.1 some.2) second.3 pseudo.2 in
              (version_text (p.0, p.1, p.2, second.1, p.4), (some.1, some.2, inl (second.1, second.2, stamp, refl)))
          | inr third ↦
              let stamp = subst (λ f. IsStamp p.3 f some.1 some.2) third.2 pseudo.2 in
              (version_text (p.0, p.1, p.2 - 1, [], p.4), (some.1, some.2, inr (third.1, stamp, refl)))
        ]
      ],
)
