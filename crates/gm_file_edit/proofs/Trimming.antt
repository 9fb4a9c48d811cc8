-- Cutting the spaces and tabs off the ends of a text.
use Rattle.std.proofs.Common.{◌≡◌, ◌∙◌, ◌+◌, ◌-◌, ◌<◌, ◌⊎◌, ℕ, Bool, true, false, List, [], ◌∷◌, ◌++◌, length, take, drop, get_or, Option, Some, None, inl, inr, ap, sym, refl, arith, one-add}
use Rattle.std.specs.Prelude.{IfSome}
use Rattle.std.specs.Char.{char_set_contains}
use Rattle.std.specs.List.{prefix_len, suffix_len}
use Rattle.std.specs.Str.Pattern.{CutsPrefixes, CutsSuffixes, FindsPrefixBy, FindsSuffixBy, HasCharAt, HasPassingCharAt, IsTrimEndMatches, IsTrimStartMatches}
use Rattle.std.proofs.lemmas.Bool.{cases_Bool}
use Rattle.std.proofs.lemmas.Bool.Decides.{nat_tests}
use Rattle.std.proofs.lemmas.List.{drop_all, length-append, reverse-append, take-append-drop, take-append-le, take_all, take_more}
use Rattle.std.proofs.lemmas.List.Folds.{length-prefix_len}
use Rattle.std.proofs.lemmas.List.Sums.{suffix_len_is}
use Rattle.gm_file_edit.specs.Edits.{is_space_or_tab, without_leading, without_trailing}

-- what a search for a space or a tab finds
abbrev Finds : ((ℕ → Bool) → List ℕ → Option ℕ → Type 0) → List ℕ → Option ℕ → Type 0
Finds By text found = (test : ℕ → Bool) → ((c : ℕ) → char_set_contains (32 ∷ 9 ∷ []) c ≡ test c) → By test text found

same-test : (c : ℕ) → char_set_contains (32 ∷ 9 ∷ []) c ≡ is_space_or_tab c
same-test c = grind (arith, nat_tests)

either-blank : (c : ℕ) → is_space_or_tab c ≡ true → (c ≡ 32) ⊎ (c ≡ 9)
either-blank c e = grind (arith, nat_tests)

-- ---- at the start

-- a text that begins with a space or a tab
front-blank : (text : List ℕ) (n : ℕ) → HasPassingCharAt is_space_or_tab text 0 n
    → (b : ℕ) × (is_space_or_tab b ≡ true) × (n ≡ 1) × (text ≡ b ∷ drop n text)
unfolding lib.Utf8.encode
front-blank text n (c, passes, at) = elim (either-blank c passes) [
  | inl is ↦ let there : HasCharAt 32 text 0 n = rw is at at in (32, refl, there.ends, there.split)
  | inr is ↦ let there : HasCharAt 9 text 0 n = rw is at at in (9, refl, there.ends, there.split)
]

leading-more : (b : ℕ) (rest : List ℕ) → is_space_or_tab b ≡ true → without_leading (b ∷ rest) ≡ without_leading rest
leading-more b rest e = rw (
  length-prefix_len _ _,
  length-prefix_len _ _,
  e,
  one-add _,
)

leading-none : (text : List ℕ) → (0 < length text → is_space_or_tab (get_or text 0 0) ≡ false) → without_leading text ≡ text
leading-none [] stops = refl
leading-none (b ∷ rest) stops = rw (length-prefix_len _ _, stops (omega arith))

front-cut : (text : List ℕ) (ns : List ℕ) (rest : List ℕ) → CutsPrefixes (Finds FindsPrefixBy) text ns rest
    → without_leading rest ≡ without_leading text
front-cut text [] rest same = rw same
front-cut text (n ∷ ns) rest (more, cuts, found, same) =
    let blank = front-blank _ _ (found is_space_or_tab same-test) in
    ap without_leading same ∙ sym (ap without_leading blank.3 ∙ leading-more blank.0 (drop n more) blank.1) ∙ front-cut text ns more cuts

front-stops : (text : List ℕ) (found : Option ℕ) → Finds FindsPrefixBy text found → IfSome found (λ n. n ≡ 0)
    → 0 < length text → is_space_or_tab (get_or text 0 0) ≡ false
unfolding lib.Utf8.encode
front-stops [] found finds empty some = absurd (omega (arith, some))
front-stops (b ∷ rest) None finds empty some = elim (cases_Bool (is_space_or_tab b)) [
  | inr other ↦ other
  | inl blank ↦ elim (either-blank b blank) [
    | inl is ↦ cc (finds is_space_or_tab same-test 32 rest refl (rw is))
    | inr is ↦ cc (finds is_space_or_tab same-test 9 rest refl (rw is))
  ]
]
front-stops (b ∷ rest) (Some n) finds empty some =
    let blank = front-blank _ _ (finds is_space_or_tab same-test) in absurd (omega (arith, empty, blank.2))

pub leading-cut : (text rest : List ℕ) → IsTrimStartMatches (Finds FindsPrefixBy) text rest → rest ≡ without_leading text
leading-cut text rest ((ns, cuts), (found, finds, empty)) =
    sym (leading-none _ (front-stops _ _ finds empty)) ∙ front-cut _ _ _ cuts

-- ---- at the end

-- a text that ends with a space or a tab
end-blank : (text : List ℕ) (n : ℕ) → HasPassingCharAt is_space_or_tab text (length text - n) (length text)
    → (b : ℕ) × (is_space_or_tab b ≡ true) × (0 < n) × (text ≡ take (length text - n) text ++ b ∷ [])
unfolding lib.Utf8.encode
end-blank text n (c, passes, at) =
    let parts = sym (take-append-drop (length text - n) text) in
    elim (either-blank c passes) [
      | inl is ↦
          let there : HasCharAt 32 text (length text - n) (length text) = rw is at at in (
            32,
            refl,
            omega (arith, there.ends),
            parts ∙ rw (there.split ∙ ap (λ t. 32 ∷ t) (drop_all (length text) text (omega arith))),
          )
      | inr is ↦
          let there : HasCharAt 9 text (length text - n) (length text) = rw is at at in (
            9,
            refl,
            omega (arith, there.ends),
            parts ∙ rw (there.split ∙ ap (λ t. 9 ∷ t) (drop_all (length text) text (omega arith))),
          )
    ]

trailing-more : (front : List ℕ) (b : ℕ) → is_space_or_tab b ≡ true → without_trailing (front ++ b ∷ []) ≡ without_trailing front
trailing-more front b e =
    let count : suffix_len is_space_or_tab (front ++ b ∷ []) ≡ 1 + suffix_len is_space_or_tab front =
    ap (prefix_len is_space_or_tab) (reverse-append front _) ∙ rw e in
    let long : length (front ++ b ∷ []) - suffix_len is_space_or_tab (front ++ b ∷ []) ≡ length front - suffix_len is_space_or_tab front =
    omega (arith, count, length-append front (b ∷ [])) in
    rw long (take-append-le (length front - suffix_len is_space_or_tab front) _ _ (omega arith))

trailing-none : (text : List ℕ) → (0 < length text → is_space_or_tab (get_or text (length text - 1) 0) ≡ false)
    → without_trailing text ≡ text
trailing-none text stops =
    let none : suffix_len is_space_or_tab text ≡ length text - length text =
    suffix_len_is _ _ _ 0 (omega arith) (λ k from to. absurd (omega (arith, from, to))) stops in
    let all : length text - suffix_len is_space_or_tab text ≡ length text = omega (arith, none) in
    rw all (take_all (length text) text (omega arith))

end-cut : (text : List ℕ) (ns : List ℕ) (front : List ℕ) → CutsSuffixes (Finds FindsSuffixBy) text ns front
    → without_trailing front ≡ without_trailing text
end-cut text [] front same = rw same
end-cut text (n ∷ ns) front (more, cuts, found, same) =
    let blank = end-blank _ _ (found is_space_or_tab same-test) in
    ap without_trailing same ∙ sym (ap without_trailing blank.3 ∙ trailing-more _ _ blank.1) ∙ end-cut text ns more cuts

end-stops : (text : List ℕ) (found : Option ℕ) → Finds FindsSuffixBy text found → IfSome found (λ n. n ≡ 0)
    → 0 < length text → is_space_or_tab (get_or text (length text - 1) 0) ≡ false
unfolding lib.Utf8.encode
end-stops text None finds empty some =
    let b = get_or text (length text - 1) 0 in
    let front = take (length text - 1) text in
    let all : length text - 1 + 1 ≡ length text = omega (arith, some) in
    let parts : text ≡ front ++ b ∷ [] =
    sym (rw all (take_all (length text) text (omega arith))) ∙ take_more text (length text - 1) 0 (omega (arith, some)) in
    elim (cases_Bool (is_space_or_tab b)) [
      | inr other ↦ other
      | inl blank ↦ elim (either-blank b blank) [
        | inl is ↦ cc (finds is_space_or_tab same-test 32 front refl (parts ∙ rw is))
        | inr is ↦ cc (finds is_space_or_tab same-test 9 front refl (parts ∙ rw is))
      ]
    ]
end-stops text (Some n) finds empty some =
    let blank = end-blank _ _ (finds is_space_or_tab same-test) in absurd (omega (arith, empty, blank.2))

pub trailing-cut : (text front : List ℕ) → IsTrimEndMatches (Finds FindsSuffixBy) text front → front ≡ without_trailing text
trailing-cut text front ((ns, cuts), (found, finds, empty)) =
    sym (trailing-none _ (end-stops _ _ finds empty)) ∙ end-cut _ _ _ cuts
