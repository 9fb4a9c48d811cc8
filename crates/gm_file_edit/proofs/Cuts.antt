-- Splitting the texts of operations keeps them valid UTF-8; paths and versions that are parsed.
use Rattle.std.specs.Borrow.{Bor}
use Rattle.std.specs.Prelude.{MatchOption, slice_index}
use Rattle.gm_file_edit.specs.Private.Sound.{split_view}
use Rattle.gm_name.proofs.NameTests.{and_both, path-tested, version-tested}
use Rattle.std.proofs.Common.{◌≡◌, ℕ, ◌-◌, ◌==◌, ◌<◌, nat_lt, true, false, List, [], ◌∷◌, length, get_or, Option, Some, None, inl, inr, refl, ◌∙◌, arith}
use Rattle.std.proofs.lemmas.Bool.{cases_Bool}
use Rattle.std.proofs.lemmas.Bool.Decides.{nat_tests}
use Rattle.std.proofs.lemmas.Str.{IsCharBoundary-after_ascii}
use Rattle.std.specs.List.{position_or_len, before_first, after_first}
use Rattle.std.specs.Str.{IsCharBoundary, IsUtf8}
use Rattle.gm_file_edit.specs.Edits.{is_bracketed, path_in, version_in}
use Rattle.gm_operation.specs.Operations.{has_byte, split_at_byte}
use Rattle.gm_name.specs.Path.{IsPath}
use Rattle.gm_version.specs.Version.{IsVersion}
use Rattle.gm_file.proofs.PartKinds.{not-tested}

-- a list contains an element if and only if the position of the first one is in range
any-position : (b : ℕ) (xs : List ℕ) → has_byte b xs ≡ nat_lt (position_or_len (λ c. c == b) xs) (length xs)
any-position b [] = refl
any-position b (x ∷ xs) = elim (cases_Bool (x == b)) [
  | inl holds ↦ rw holds (grind (arith, nat_tests))
  | inr fails ↦ let rest = any-position b xs in rw (fails, rest) (grind (arith, nat_tests))
]

pub cut-none : (b : ℕ) (text : List ℕ) → position_or_len (λ c. c == b) text ≡ length text → split_at_byte b text ≡ None
cut-none b text e = let f : has_byte b text ≡ false = any-position b text
    ∙ (let g : nat_lt (position_or_len (λ c. c == b) text) (length text) ≡ false = grind (arith, nat_tests) in g) in
    rw f

pub cut-some : (b : ℕ) (text : List ℕ) {front back : List ℕ} → position_or_len (λ c. c == b) text < length text
    → front ≡ before_first (λ c. c == b) text → back ≡ after_first (λ c. c == b) text → Some (front, back) ≡ split_at_byte b text
cut-some b text lt f g =
    let there : has_byte b text ≡ true = any-position b text
    ∙ (let h : nat_lt (position_or_len (λ c. c == b) text) (length text) ≡ true = grind (arith, nat_tests) in h) in
    rw (there, f, g)

pub cut-is : (b : ℕ) (text : List ℕ) (r : Option (Bor (List ℕ) × Bor (List ℕ)))
    → MatchOption r (position_or_len (λ c. c == b) text ≡ length text)
    (λ x. (position_or_len (λ c. c == b) text < length text) × (x.0.now ≡ before_first (λ c. c == b) text)
    × (x.1.now ≡ after_first (λ c. c == b) text))
    → split_view r ≡ split_at_byte b text
cut-is b text None e = rw (cut-none _ _ e)
cut-is b text (Some x) is = cut-some _ _ is.0 is.1 is.2

-- in a text in brackets, the end of the first byte and the start of the last are character boundaries
pub open-boundary : (text : List ℕ) → IsUtf8 text → is_bracketed text ≡ true → IsCharBoundary text 1
open-boundary text utf8 e =
    let outer = and_both _ (slice_index text (length text - 1) == 93) e in
    let inner = and_both (nat_lt 1 (length text)) (slice_index text 0 == 91) outer.0 in
    let long : 1 < length text = grind (arith, nat_tests) in
    let at : slice_index text 0 ≡ 91 = grind (arith, nat_tests) in
    let small : get_or text 0 0 < 128 = grind arith in
    IsCharBoundary-after_ascii _ 0 utf8 (omega (arith, long)) small

-- ---- paths and versions, by the facts proved in gm_name

pub path-there : {text : List ℕ} → IsPath text → path_in text ≡ Some text
path-there {text} holds = rw ((path-tested _).1 holds)

pub path-none : (text : List ℕ) → ¬ (IsPath text) → path_in text ≡ None
path-none text fails = rw (not-tested _ _ (path-tested _) fails)

pub version-there : (text : List ℕ) → IsVersion text → version_in text ≡ Some text
version-there text holds = rw ((version-tested _).1 holds)

pub version-none : (text : List ℕ) → ¬ (IsVersion text) → version_in text ≡ None
version-none text fails = rw (not-tested _ _ (version-tested _) fails)
