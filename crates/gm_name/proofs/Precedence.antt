-- `precedence` computes the order of section 11 of SemVer.
use Rattle.std.proofs.Common.{◌≡◌, ◌↔◌, ◌⊎◌, ◌==◌, ℕ, ◌<◌, Bool, true, false, List, [], ◌∷◌, ◌++◌, length, refl, sym, ap, ◌∙◌, inl, inr, arith, append-nil}
use Rattle.std.proofs.lemmas.Bool.{cases_Bool, eqb-true}
use Rattle.std.proofs.lemmas.Bool.Decides.{nat_tests}
use Rattle.std.proofs.lemmas.Cmp.{tied_itself}
use Rattle.std.proofs.lemmas.List.Folds.{list_all-append}
use Rattle.std.specs.Cmp.{first_so, nat_cmp_total, ranked, second_so}
use Rattle.std.specs.Cmp.Lexicographic.{slice_cmp}
use Rattle.std.specs.FinMap.{IsAntisymmetric, nat_cmp-IsAntisymmetric}
use Rattle.std.specs.List.{list_all}
use Rattle.std.specs.Ordering.{nat_cmp, ordering_reverse, ordering_then}
use Rattle.std.specs.declared.cmp.Ordering.{Ordering}
use Rattle.std.specs.declared.cmp.Ordering.TheVariants.{Less, Equal, Greater}
use Rattle.semver.specs.Grammar.{IsValid, is_pre_identifier, is_pre_release}
use Rattle.semver.specs.Order.{is_numeric, parts, pre_cmp, pre_part_cmp}
use Rattle.semver.specs.OrderLaws.{pre-anti, pre_cmp-both, pre_cmp-empty, pre_cmp-left, pre_cmp-right, pre_part-anti, pre_part_total, pre_total}
use Rattle.semver.specs.Parse.{Parts}
use Rattle.gm_name.specs.Precedence.{HasLowerPrecedence, HasSamePrecedence, IsLowerIdentifier, IsLowerList, IsLowerPreRelease, number_of}
use Rattle.gm_version.specs.Version.{precedence}
use Rattle.gm_version.specs.VersionOrder.{precedence_total, then_second}
use Rattle.gm_name.proofs.NumericIdentifiers.{cmp-lt, numeric-by_number}

-- ---- lists

-- one item more in front of both
lower-cons : {X : Type 0} (R : X → X → Type 0) (x y : X) (xs ys : List X) → x ≡ y → IsLowerList R xs ys → IsLowerList R (x ∷ xs) (y ∷ ys)
lower-cons R x y xs ys same lower = elim lower.1 [
  | inl d ↦ (x ∷ lower.0, inl (d.0, d.1, d.2, d.3, ap (x ∷◌) d.4, rw (sym same) (ap (x ∷◌) d.5), d.6))
  | inr d ↦ (x ∷ lower.0, inr (d.0, d.1, ap (x ∷◌) d.2, rw (sym same) (ap (x ∷◌) d.3)))
]

-- the first items of two lists decide, or are equal
lower-step : {X : Type 0} (C : X → X → Ordering) (R : X → X → Type 0) (x y : X) (xs ys : List X) (r : Ordering) → C x y ≡ r
    → (C x y ≡ Less → R x y) → (C x y ≡ Equal → x ≡ y) → (slice_cmp C xs ys ≡ Less → IsLowerList R xs ys)
    → ordering_then r (slice_cmp C xs ys) ≡ Less → IsLowerList R (x ∷ xs) (y ∷ ys)
lower-step C R x y xs ys Less is lower same rest e = ([], inl (x, y, xs, ys, refl, refl, lower is))
lower-step C R x y xs ys Equal is lower same rest e = lower-cons R x y xs ys (same is) (rest e)
lower-step C R x y xs ys Greater is lower same rest e = cc e

-- if `Less` means lower for items that pass, so it does for lists
list-less : {X : Type 0} (C : X → X → Ordering) (R : X → X → Type 0) (pass : X → Bool)
    → ((x y : X) → pass x ≡ true → pass y ≡ true → C x y ≡ Less → R x y) → IsAntisymmetric C
    → (xs ys : List X) → list_all pass xs ≡ true → list_all pass ys ≡ true → slice_cmp C xs ys ≡ Less → IsLowerList R xs ys
list-less C R pass lower anti [] [] p q e = cc e
list-less C R pass lower anti [] (y ∷ ys) p q e = ([], inr (y, ys, refl, refl))
list-less C R pass lower anti (x ∷ xs) [] p q e = cc e
list-less C R pass lower anti (x ∷ xs) (y ∷ ys) p q e =
    lower-step C R x y xs ys (C x y) refl (lower x y (first_so _ _ p) (first_so _ _ q)) (anti x y)
    (list-less C R pass lower anti xs ys (second_so _ _ p) (second_so _ _ q)) e

-- equal items in front change no comparison
cmp-front : {X : Type 0} (C : X → X → Ordering) → ((x : X) → C x x ≡ Equal) → (front s t : List X) → slice_cmp C (front ++ s) (front ++ t) ≡ slice_cmp C s t
cmp-front C self [] s t = refl
cmp-front C self (x ∷ front) s t = rw (self x) (cmp-front C self front s t)

-- an item in a list that passes
pass-at : {X : Type 0} (pass : X → Bool) (front : List X) (x : X) (s : List X) → list_all pass (front ++ x ∷ s) ≡ true → pass x ≡ true
pass-at pass front x s all = first_so _ _ (second_so _ _ (sym (list_all-append pass front (x ∷ s)) ∙ all))

-- conversely, if lower items compare as `Less`, so do lower lists
less-list : {X : Type 0} (C : X → X → Ordering) (R : X → X → Type 0) (pass : X → Bool)
    → ((x y : X) → pass x ≡ true → pass y ≡ true → R x y → C x y ≡ Less) → ((x : X) → C x x ≡ Equal)
    → (xs ys : List X) → list_all pass xs ≡ true → list_all pass ys ≡ true → IsLowerList R xs ys → slice_cmp C xs ys ≡ Less
less-list C R pass less self xs ys p q lower = elim lower.1 [
  | inl d ↦
      let x_passes = pass-at pass lower.0 d.0 d.2 (rw d.4 at p) in
      let y_passes = pass-at pass lower.0 d.1 d.3 (rw d.5 at q) in
      rw (d.4, d.5) (cmp-front C self lower.0 (d.0 ∷ d.2) (d.1 ∷ d.3) ∙ rw (less d.0 d.1 x_passes y_passes d.6) refl)
  | inr d ↦ rw (d.2, d.3) (ap (λ l. slice_cmp C l (lower.0 ++ d.0 ∷ d.1)) (sym (append-nil lower.0)) ∙ cmp-front C self lower.0 [] (d.0 ∷ d.1))
]

-- ---- numbers and texts

pub number-less : (a b : ℕ) → nat_cmp a b ≡ Less → a < b
number-less a b e = ranked a b Less (sym e)

all-true : (xs : List ℕ) → list_all (λ (x : ℕ). true) xs ≡ true
all-true [] = refl
all-true (x ∷ xs) = all-true xs

bytes-lower : (a b : List ℕ) → (slice_cmp nat_cmp a b ≡ Less) ↔ IsLowerList (λ (x y : ℕ). x < y) a b
bytes-lower a b = (
  list-less nat_cmp (λ (x y : ℕ). x < y) (λ (x : ℕ). true) (λ x y _ _ e. number-less x y e) nat_cmp-IsAntisymmetric a b (all-true a) (all-true b),
  less-list nat_cmp (λ (x y : ℕ). x < y) (λ (x : ℕ). true) (λ x y _ _ lt. cmp-lt x y lt) (tied_itself nat_cmp_total) a b (all-true a) (all-true b),
)

-- ---- identifiers

identifier-lower : (a b : List ℕ) → is_pre_identifier a ≡ true → is_pre_identifier b ≡ true → (pre_part_cmp a b ≡ Less) ↔ IsLowerIdentifier a b
identifier-lower a b ha hb = elim (cases_Bool (is_numeric a)) [
  | inl na ↦ elim (cases_Bool (is_numeric b)) [
    | inl nb ↦
        let by_number = numeric-by_number a b ha hb na nb in (
          λ e. inl (na, nb, number-less (number_of a) (number_of b) (sym by_number ∙ e)),
          λ lower. elim lower [
            | inl numbers ↦ by_number ∙ cmp-lt (number_of a) (number_of b) numbers.2
            | inr others ↦ elim others [
              | inl texts ↦ cc (na, texts.0)
              | inr mixed ↦ cc (nb, mixed.1)
            ]
          ],
        )
    | inr nb ↦ (λ e. inr (inr (na, nb)), λ lower. rw (na, nb) refl)
  ]
  | inr na ↦ elim (cases_Bool (is_numeric b)) [
    | inl nb ↦
        let greater : pre_part_cmp a b ≡ Greater = rw (na, nb) refl in (
          λ e. cc (greater, e),
          λ lower. elim lower [
            | inl numbers ↦ cc (na, numbers.0)
            | inr others ↦ elim others [
              | inl texts ↦ cc (nb, texts.1)
              | inr mixed ↦ cc (na, mixed.0)
            ]
          ],
        )
    | inr nb ↦
        let as_texts : pre_part_cmp a b ≡ slice_cmp nat_cmp a b = rw (na, nb) refl in (
          λ e. inr (inl (na, nb, (bytes-lower a b).0 (sym as_texts ∙ e))),
          λ lower. elim lower [
            | inl numbers ↦ cc (na, numbers.0)
            | inr others ↦ elim others [
              | inl texts ↦ as_texts ∙ (bytes-lower a b).1 texts.2
              | inr mixed ↦ cc (na, mixed.0)
            ]
          ],
        )
  ]
]

-- ---- pre-releases

-- the identifiers of a non-empty pre-release
identifiers-pass : (p : List ℕ) → 0 < length p → is_pre_release p ≡ true → list_all is_pre_identifier (parts p) ≡ true
identifiers-pass [] some h = absurd (omega arith)
identifiers-pass (b ∷ rest) some h = h

pre-lower : (p q : List ℕ) → is_pre_release p ≡ true → is_pre_release q ≡ true → (pre_cmp p q ≡ Less) ↔ IsLowerPreRelease p q
pre-lower p q hp hq = elim (cases_Bool (length p == 0)) [
  | inl none_p ↦ elim (cases_Bool (length q == 0)) [
    | inl none_q ↦
        let tie = pre_cmp-empty p q none_p none_q in
        (λ e. cc (tie, e), λ lower. elim lower [ inl one ↦ absurd (empty p none_p one.0) | inr both ↦ absurd (empty p none_p both.0) ])
    | inr some_q ↦
        let greater = pre_cmp-left p q none_p some_q in
        (λ e. cc (greater, e), λ lower. elim lower [ inl one ↦ absurd (empty p none_p one.0) | inr both ↦ absurd (empty p none_p both.0) ])
  ]
  | inr some_p ↦ elim (cases_Bool (length q == 0)) [
    | inl none_q ↦ (λ e. inl (some p some_p, eqb-true _ _ none_q), λ lower. pre_cmp-right p q some_p none_q)
    | inr some_q ↦
        let both = pre_cmp-both p q some_p some_q in
        let p_passes = identifiers-pass p (some p some_p) hp in
        let q_passes = identifiers-pass q (some q some_q) hq in (
          λ e. inr (
            some p some_p,
            some q some_q,
            list-less pre_part_cmp IsLowerIdentifier is_pre_identifier
                (λ a b ha hb f. (identifier-lower a b ha hb).0 f) pre_part-anti (parts p) (parts q) p_passes q_passes (sym both ∙ e),
          ),
          λ lower. elim lower [
            | inl one ↦ absurd (less_than_none q some_q one.1)
            | inr all ↦ both ∙ less-list pre_part_cmp IsLowerIdentifier is_pre_identifier
                (λ a b ha hb f. (identifier-lower a b ha hb).1 f) (tied_itself pre_part_total) (parts p) (parts q) p_passes q_passes all.2
          ],
        )
  ]
]
  where
    empty : (t : List ℕ) → (length t == 0) ≡ true → ¬ (0 < length t)
    empty t none more = grind (arith, nat_tests)

    some : (t : List ℕ) → (length t == 0) ≡ false → 0 < length t
    some t h = grind (arith, nat_tests)

    less_than_none : (t : List ℕ) → (length t == 0) ≡ false → ¬ (length t ≡ 0)
    less_than_none t h e = grind (arith, nat_tests)

-- ---- versions

-- a comparison of numbers, and then another
then-less : (a b : ℕ) (r : Ordering) → ordering_then (nat_cmp a b) r ≡ Less → (a < b) ⊎ ((a ≡ b) × (r ≡ Less))
then-less a b r e = by (nat_cmp a b) refl e
  where
    by : (s : Ordering) → nat_cmp a b ≡ s → ordering_then s r ≡ Less → (a < b) ⊎ ((a ≡ b) × (r ≡ Less))
    by Less is f = inl (number-less a b is)
    by Equal is f = inr (nat_cmp-IsAntisymmetric a b is, f)
    by Greater is f = cc f

less-first : (a b : ℕ) (r : Ordering) → a < b → ordering_then (nat_cmp a b) r ≡ Less
less-first a b r lt = rw (cmp-lt a b lt) refl

less-then : (a b : ℕ) (r : Ordering) → a ≡ b → r ≡ Less → ordering_then (nat_cmp a b) r ≡ Less
less-then a b r same e = rw (same, tied_itself nat_cmp_total b) e

pub precedence-lower : (p q : Parts) → IsValid p → IsValid q → (precedence p q ≡ Less) ↔ HasLowerPrecedence p q
precedence-lower p q vp vq =
    let pre = pre-lower p.3 q.3 vp.3 vq.3 in (
      λ e. elim (then-less p.0 q.0 _ e) [
        | inl major ↦ inl major
        | inr r1 ↦ elim (then-less p.1 q.1 _ r1.1) [
          | inl minor ↦ inr (inl (r1.0, minor))
          | inr r2 ↦ elim (then-less p.2 q.2 _ r2.1) [
            | inl patch ↦ inr (inr (inl (r1.0, r2.0, patch)))
            | inr r3 ↦ inr (inr (inr (r1.0, r2.0, r3.0, pre.0 r3.1)))
          ]
        ]
      ],
      λ lower. elim lower [
        | inl major ↦ less-first p.0 q.0 _ major
        | inr l1 ↦ elim l1 [
          | inl minor ↦ less-then p.0 q.0 _ minor.0 (less-first p.1 q.1 _ minor.1)
          | inr l2 ↦ elim l2 [
            | inl patch ↦ less-then p.0 q.0 _ patch.0 (less-then p.1 q.1 _ patch.1 (less-first p.2 q.2 _ patch.2))
            | inr l3 ↦ less-then p.0 q.0 _ l3.0 (less-then p.1 q.1 _ l3.1 (less-then p.2 q.2 _ l3.2 (pre.1 l3.3)))
          ]
        ]
      ],
    )

-- if a chain of two comparisons ties, the first of them does
pub then_first : (r s : Ordering) → ordering_then r s ≡ Equal → r ≡ Equal
then_first Less s e = cc e
then_first Equal s e = refl
then_first Greater s e = cc e

pub precedence-same : (p q : Parts) → (precedence p q ≡ Equal) ↔ HasSamePrecedence p q
precedence-same p q = (
  λ e.
      let t1 = then_second _ _ e in
      let t2 = then_second _ _ t1 in
      let numbers = nat_cmp-IsAntisymmetric in
      (numbers _ _ (then_first _ _ e), numbers _ _ (then_first _ _ t1), numbers _ _ (then_first _ _ t2), pre-anti _ _ (then_second _ _ t2)),
  λ same. rw (same.0, same.1, same.2, same.3) (rw (
    tied_itself nat_cmp_total q.0,
    tied_itself nat_cmp_total q.1,
    tied_itself nat_cmp_total q.2,
  ) (tied_itself pre_total q.3)),
)

-- a comparison is `Greater` exactly if its reverse is `Less`
turned-less : (r : Ordering) → (r ≡ Greater) ↔ (ordering_reverse r ≡ Less)
turned-less Less = (λ e. cc e, λ e. cc e)
turned-less Equal = (λ e. cc e, λ e. cc e)
turned-less Greater = (λ e. refl, λ e. refl)

pub precedence-higher : (p q : Parts) → IsValid p → IsValid q → (precedence p q ≡ Greater) ↔ HasLowerPrecedence q p
precedence-higher p q vp vq =
    let turn = turned-less (precedence p q) in
    let back = precedence_total.antisymm q p in
    let lower = precedence-lower q p vq vp in
    (λ e. lower.0 (back ∙ turn.0 e), λ l. turn.1 (sym back ∙ lower.1 l))
