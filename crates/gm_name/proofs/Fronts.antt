-- The front of a text: its bytes up to the first that no element can have.
use Rattle.std.proofs.Common.{◌≡◌, ◌≢◌, ℕ, ◌+◌, ◌-◌, ◌<◌, ◌≤◌, ◌==◌, ◌&&◌, Bool, true, false, List, length, get_or, take, drop, refl, sym, ap, ◌∙◌, inl, inr, arith, length-drop}
use Rattle.std.proofs.lemmas.Bool.{and_left, cases_eq, cases_lt, eqb-true, false_from_ne_true, true≢false}
use Rattle.std.proofs.lemmas.Bool.Decides.{nat_tests}
use Rattle.std.proofs.lemmas.List.{drop-drop, get_or-drop, get_or-take, take-take, take_all, take_rest}
use Rattle.std.proofs.lemmas.List.Folds.{length-prefix_len}
use Rattle.std.proofs.lemmas.List.Splits.{slice_split_first, slice_split_none}
use Rattle.std.proofs.lemmas.List.Sums.{AllPass-from_list_all, list_all-from_AllPass, position_or_len_is, prefix_len-le-length, prefix_len_is, prefix_len_passes, prefix_len_stops}
use Rattle.std.specs.List.{list_all, position_or_len, prefix_len, take_while}
use Rattle.gm_name.specs.Element.{elements, is_element, is_path_byte, stem}
use Rattle.gm_name.specs.Private.Texts.{is_stem_byte}
use Rattle.gm_name.specs.Path.{is_byte_of_path}
use Rattle.gm_name.proofs.Bytes.{elements-bytes}
use Rattle.gm_name.proofs.Paths.{path_byte-no_slash}
use Rattle.gm_name.proofs.Logic.{and-true}

-- ---- bytes

stem_byte-path : (b : ℕ) → is_stem_byte b ≡ true → is_path_byte b ≡ true
stem_byte-path b h = grind (arith, nat_tests)

stem_byte-no_dot : (b : ℕ) → is_stem_byte b ≡ true → (b == 46) ≡ false
stem_byte-no_dot b h = grind (arith, nat_tests)

dot-from : (b : ℕ) → is_path_byte b ≡ true → is_stem_byte b ≡ false → (b == 46) ≡ true
dot-from b path apart = grind (arith, nat_tests)

outside_path : (b : ℕ) → is_path_byte b ≡ false → b ≢ 47 → is_byte_of_path b ≡ false
outside_path b bad other = grind (arith, nat_tests)

-- ---- the parts of the front

-- the bytes of a front pass its test
pub while-passes : (p : ℕ → Bool) (text : List ℕ) → list_all p (take_while p text) ≡ true
while-passes p text = list_all-from_AllPass p (take_while p text) (λ k d lt.
    let len = length-prefix_len p text in
    let within : k < prefix_len p text = omega arith in
    rw (get_or-take (prefix_len p text) text k d within) (prefix_len_passes p text k d within))

-- the bytes before its first dot are among its bytes
pub stem-within : (text : List ℕ) → prefix_len is_stem_byte text ≤ prefix_len is_path_byte text
stem-within text = elim (cases_lt (prefix_len is_path_byte text) (prefix_len is_stem_byte text)) [
  | inl beyond ↦
      let bound = prefix_len-le-length is_stem_byte text in
      let stops = prefix_len_stops is_path_byte text 0 (omega arith) in
      let passes = stem_byte-path (get_or text (prefix_len is_path_byte text) 0)
      (prefix_len_passes is_stem_byte text (prefix_len is_path_byte text) 0 beyond) in
      absurd (true≢false (sym passes ∙ stops))
  | inr within ↦ within
]

-- its bytes are counted from the first dot on
pub front-len : (text : List ℕ) → prefix_len is_stem_byte text + prefix_len is_path_byte
    (drop (prefix_len is_stem_byte text) text) ≡ prefix_len is_path_byte text
front-len text =
    let m = prefix_len is_stem_byte text in
    let after = drop m text in
    let j = prefix_len is_path_byte after in
    let size = length-drop m text in
    let bound = prefix_len-le-length is_stem_byte text in
    let rest = prefix_len-le-length is_path_byte after in
    sym (prefix_len_is is_path_byte text (m + j) 0 (omega arith)
    (λ k lt. elim (cases_lt k m) [
      | inl inside ↦ stem_byte-path (get_or text k 0) (prefix_len_passes is_stem_byte text k 0 inside)
      | inr beyond ↦
          let e : m + (k - m) ≡ k = omega arith in
          let passes = prefix_len_passes is_path_byte after (k - m) 0 (omega arith) in
          rw (get_or-drop m text (k - m) 0, e) at passes
    ])
    (λ lt.
    let stops = prefix_len_stops is_path_byte after 0 (omega arith) in
    rw (get_or-drop m text j 0) at stops))

-- its stem ends at its first dot
pub front-stem : (text : List ℕ) → take (prefix_len is_stem_byte text) text ≡ stem (take_while is_path_byte text)
unfolding stem
front-stem text =
    let m = prefix_len is_stem_byte text in
    let n = prefix_len is_path_byte text in
    let within = stem-within text in
    let len = length-prefix_len is_path_byte text in
    let first : position_or_len (◌== 46) (take n text) ≡ m =
    position_or_len_is (◌== 46) (take n text) m 0 (omega arith)
    (λ k lt.
    let inside : k < n = omega arith in
    rw (get_or-take n text k 0 inside) (stem_byte-no_dot _ (prefix_len_passes is_stem_byte text k 0 lt)))
    (λ lt.
    let inside : m < n = omega arith in
    let bound = prefix_len-le-length is_path_byte text in
    rw (get_or-take n text m 0 inside) (dot-from _ (prefix_len_passes is_path_byte text m 0 inside) (prefix_len_stops is_stem_byte text 0 (omega arith)))) in
    rw first (sym (take-take m n text within))

-- ---- the elements of a text, by its front

-- the front is the whole text
pub elements-whole : (text : List ℕ) → length text ≤ prefix_len is_path_byte text
    → list_all is_element (elements text) ≡ is_element (take_while is_path_byte text)
elements-whole text end =
    let whole = take_all (prefix_len is_path_byte text) text end in
    let one = slice_split_none (◌== 47) text (λ k d lt. path_byte-no_slash _ (prefix_len_passes is_path_byte text k d (omega arith))) in
    rw (one, whole) (and-true (is_element text))

-- a slash follows the front
pub at-slash : (text : List ℕ) → prefix_len is_path_byte text < length text → get_or text (prefix_len is_path_byte text) 0 ≡ 47
    → list_all is_element (elements text) ≡ (is_element (take_while is_path_byte text) && list_all is_element
    (elements (drop (prefix_len is_path_byte text + 1) text)))
at-slash text inside slash =
    let n = prefix_len is_path_byte text in
    let first : position_or_len (◌== 47) text ≡ n =
    position_or_len_is (◌== 47) text n 0 (omega arith)
    (λ k lt. path_byte-no_slash _ (prefix_len_passes is_path_byte text k 0 lt)) (λ lt. rw slash refl) in
    let cut = slice_split_first (◌== 47) text 0 (rw first inside) in
    ap (list_all is_element) (rw first at cut)

-- another byte follows it
pub at-other : (text : List ℕ) → prefix_len is_path_byte text < length text → get_or text (prefix_len is_path_byte text) 0 ≢ 47
    → list_all is_element (elements text) ≡ false
at-other text inside other = false_from_ne_true (list_all is_element (elements text)) (λ all.
    let byte = AllPass-from_list_all is_byte_of_path text (elements-bytes text all) (prefix_len is_path_byte text) 0 inside in
    let bad = outside_path _ (prefix_len_stops is_path_byte text 0 inside) other in
    absurd (true≢false (sym byte ∙ bad)))

-- the front is no element
pub no-element : (text : List ℕ) → is_element (take_while is_path_byte text) ≡ false → list_all is_element (elements text) ≡ false
no-element text bad = elim (cases_lt (prefix_len is_path_byte text) (length text)) [
  | inl inside ↦ elim (cases_eq (get_or text (prefix_len is_path_byte text) 0) 47) [
    | inl slash ↦ at-slash text inside slash ∙ and_left _ _ bad
    | inr other ↦ at-other text inside other
  ]
  | inr end ↦ elements-whole text end ∙ bad
]

-- ---- the text after a front

-- its first byte
pub rest-first : (text rest : List ℕ) (n : ℕ) → rest ≡ drop n text → (length rest == 0) ≡ false
    → (n < length text) × (get_or rest 0 0 ≡ get_or text n 0)
rest-first text rest n e some =
    let filled : 0 < length rest = grind (arith, nat_tests) in
    let size = length-drop n text in
    let same : length rest ≡ length (drop n text) = ap length e in
    let end : n + 0 ≡ n = omega arith in
    (omega arith, rw e (rw end at (get_or-drop n text 0 0)))

-- there is none
pub rest-none : (text rest : List ℕ) (n : ℕ) → rest ≡ drop n text → (length rest == 0) ≡ true → length text ≤ n
rest-none text rest n e none =
    let empty : length rest ≡ 0 = eqb-true _ _ none in
    let size = length-drop n text in
    let same : length rest ≡ length (drop n text) = ap length e in
    omega arith

-- the text after its first byte
pub rest-after : (text rest : List ℕ) (n : ℕ) → rest ≡ drop n text → take (length rest - 1) (drop 1 rest) ≡ drop (n + 1) text
rest-after text rest n e = take_rest rest 1 ∙ ap (drop 1) e ∙ drop-drop 1 n text
