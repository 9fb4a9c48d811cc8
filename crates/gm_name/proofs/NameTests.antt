-- The tests `is_path`, `is_version` and `does_fit` agree with the facts `IsPath`, `IsVersion` and `Fits`.
use Rattle.std.proofs.Common.{◌≡◌, ◌≢◌, ◌↔◌, ℕ, ◌-◌, ◌==◌, ◌&&◌, ◌||◌, ◌^◌, ◌<◌, ◌≤◌, nat_lt, nat_eq, Bool, true, false, not, List, [], ◌∷◌, ◌++◌, length, get_or, take, drop, codes, Option, Some, None, Result, Ok, Err, is_some, IfSome, IfNone, refl, sym, ap, subst, ◌∙◌, inl, inr, arith, IsTrue}
pub use Rattle.std.proofs.lemmas.Bool.{and_parts as and_both, not-true as not_true}
use Rattle.std.proofs.lemmas.Bool.{and_from, cases_Bool, eq-eqb, eqb-true, false_from_ne_true, or_cases, or_left, or_right}
use Rattle.std.proofs.lemmas.Bool.Decides.{Decides-eqb, nat_tests}
use Rattle.std.proofs.lemmas.Fmt.{decimal-digits_value, decimal_injective, digits_value-decimal}
use Rattle.std.proofs.lemmas.List.{length-append, nil_from_length, take_at}
use Rattle.std.proofs.lemmas.Slice.Eq.{ends_is, starts_is}
use Rattle.std.specs.Char.{is_ascii_digit}
use Rattle.std.specs.Cmp.Lexicographic.{same_text}
use Rattle.std.specs.Fmt.{decimal}
use Rattle.std.specs.List.{ends_with, list_all, starts_with}
use Rattle.std.specs.Option.{option_map, option_map_or}
use Rattle.std.specs.Prelude.{if◌then◌else◌, option_and_then}
use Rattle.std.specs.Str.{bytes_eq}
use Rattle.std.specs.Str.Parse.{digits_value}
use Rattle.semver.proofs.Grammar.{version_parts-complete, version_parts-sound}
use Rattle.semver.specs.Parse.{Parts, version_parts}
use Rattle.semver.specs.declared.error.Error.{Error}
use Rattle.gm_name.specs.Element.{elements, is_element}
use Rattle.gm_name.specs.Fit.{Fits, FitsMajor}
use Rattle.gm_name.specs.Names.{at_least, dot_number, does_fit, ends_in_slash_version, fits_major, has_no_build, has_plain_build, is_path, is_version, major_in, number_after, number_in}
use Rattle.gm_version.specs.Number.{IsNumber, is_decimal, starts_as_no_number}
use Rattle.gm_name.specs.Path.{EndsInSlashVersion, HasMajor, IsPath, IsUnderGopkg}
use Rattle.gm_name.specs.Tail.{head, tail}
use Rattle.gm_version.specs.Version.{HasPlainBuild, IsVersion, build_of, major_of}
use Rattle.gm_name.specs.declared.major.Major.{Major}
use Rattle.gm_name.specs.declared.major.Major.TheVariants.{NoSuffix, Slash, Dot}
use Rattle.gm_name.proofs.Majors.{EndsSo, EndsSoDot, IsMark, dot_mark, dot_unstable_none, major-unique, major_elsewhere, major_under, marked, number-cut, number-unique, slash-tested, slash_mark}
use Rattle.gm_version.proofs.Numbers.{decimal-digits, digits, starts-decimal}
use Rattle.gm_name.proofs.Paths.{path-elements, path-from}

-- the computed value satisfies the property, or no value does
abbrev pub Tells : {X : Type 0} → Option X → (X → Type 0) → Type 0
Tells (Some x) P = P x
Tells {X} None P = (x : X) → ¬ (P x)

-- ---- numbers

is_decimal-decimal : (n : ℕ) → n < 2 ^ 64 → is_decimal (decimal n) ≡ true
is_decimal-decimal n small = rw (starts-decimal n small, decimal-digits n small) refl

number-by : (text : List ℕ) (a b : Bool) → a ≡ is_decimal text → b ≡ nat_lt (digits_value 10 text) (2 ^ 64)
    → Tells (if a && b then Some (digits_value 10 text) else None) (IsNumber text)
number-by text true true is below =
    let parts = and_both (not (starts_as_no_number text)) (list_all is_ascii_digit text) (sym is) in
    let start = not_true (starts_as_no_number text) parts.0 in
    let some : 0 < length text = grind (arith, nat_tests) in
    let lead : get_or text 0 0 ≡ 48 → length text ≡ 1 = λ z. grind (arith, nat_tests) in
    let small : digits_value 10 text < 2 ^ 64 = grind (arith, nat_tests) in
    (small, sym (decimal-digits_value digits text parts.1 some lead small))
number-by text true false is below = λ n number.
    let same : digits_value 10 text ≡ n = ap (digits_value 10) number.1 ∙ digits_value-decimal digits n number.0 in
    let small = number.0 in
    absurd (grind (arith, nat_tests))
number-by text false b is below = λ n number. cc (is, ap is_decimal number.1, is_decimal-decimal n number.0)

number-cases : (text : List ℕ) → Tells (number_in text) (IsNumber text)
number-cases text = number-by text (is_decimal text) (nat_lt (digits_value 10 text) (2 ^ 64)) refl refl

-- what reads the number in a text computes it
pub number-read : (text : List ℕ) (r : Option ℕ) → IfSome r (IsNumber text) → IfNone r ((n : ℕ) → ¬ (IsNumber text n)) → r ≡ number_in text
number-read text r some none = by r (number_in text) some none (number-cases text)
  where
    by : (r o : Option ℕ) → IfSome r (IsNumber text) → IfNone r ((n : ℕ) → ¬ (IsNumber text n)) → Tells o (IsNumber text) → r ≡ o
    by (Some m) (Some n) some none t = ap Some (decimal_injective m n some.0 t.0 (sym some.1 ∙ t.1))
    by (Some m) None some none t = absurd (t m some)
    by None (Some n) some none t = absurd (none n t)
    by None None some none t = refl

after-by : (text mark : List ℕ) (b : Bool) (r : Option ℕ) → b ≡ ends_with nat_eq (head is_ascii_digit text) mark → IsMark mark
    → Tells r (IsNumber (tail is_ascii_digit text)) → Tells (if b then r else None) (EndsSo text mark)
after-by text mark true (Some n) found is number =
    let m = marked is_ascii_digit text mark (sym found) in
    (number.0, (m.0, m.1 ∙ ap (m.0 ++ mark ++◌) number.1))
after-by text mark true None found is none = λ n ends. none n (ends.0, (number-cut text mark n is ends).1)
after-by text mark false r absent is number = λ n ends.
    cc (absent, (ends_is Decides-eqb (head is_ascii_digit text) mark _ refl).1 ends.1.0 (number-cut text mark n is ends).0)

after-cases : (text mark : List ℕ) → IsMark mark → Tells (number_after mark text) (EndsSo text mark)
after-cases text mark is = after-by text mark _ (number_in (tail is_ascii_digit text)) refl is (number-cases (tail is_ascii_digit text))

-- ---- `.vN` and `.vN-unstable`

pub dot-stable : (text : List ℕ) → ((stable : List ℕ) → text ≢ stable ++ codes "-unstable") → dot_number text ≡ number_after (codes ".v") text
dot-stable text apart =
    let absent : ends_with nat_eq text (codes "-unstable") ≡ false =
    false_from_ne_true _ (λ e. apart (take (length text - 9) text) ((ends_is Decides-eqb text (codes "-unstable") _ refl).0 e)) in
    rw absent refl

pub dot-unstable : (text stable : List ℕ) → text ≡ stable ++ codes "-unstable"
    → dot_number text ≡ option_and_then (at_least 1) (number_after (codes ".v") stable)
dot-unstable text stable joined =
    let found = (ends_is Decides-eqb text (codes "-unstable") _ refl).1 stable joined in
    let size = length-append stable (codes "-unstable") in
    let cut : take (length text - 9) text ≡ stable =
    ap (λ t. take (length t - 9) t) joined ∙ take_at stable (codes "-unstable") (length (stable ++ codes "-unstable") - 9) (omega arith) in
    rw (found, cut) refl

unstable-some : (text stable : List ℕ) (n : ℕ) (b : Bool) → b ≡ nat_lt n 1 → text ≡ stable ++ codes "-unstable" → EndsSo stable (codes ".v") n
    → Tells (if b then None else Some n) (EndsSoDot text)
unstable-some text stable n true is joined ends = dot_unstable_none text stable joined (λ m positive e.
    let same = number-unique stable (codes ".v") m n dot_mark e ends in
    let zero : n ≡ 0 = grind (arith, nat_tests) in
    absurd (omega arith))
unstable-some text stable n false is joined ends =
    let positive : 0 < n = grind (arith, nat_tests) in
    (ends.0, inr (positive, stable, joined, ends.1))

unstable-by : (text stable : List ℕ) (r : Option ℕ) → text ≡ stable ++ codes "-unstable"
    → Tells r (EndsSo stable (codes ".v")) → Tells (option_and_then (at_least 1) r) (EndsSoDot text)
unstable-by text stable (Some n) joined ends = unstable-some text stable n (nat_lt n 1) refl joined ends
unstable-by text stable None joined none = dot_unstable_none text stable joined (λ n _ e. none n e)

stable-by : (text : List ℕ) (r : Option ℕ) → ((stable : List ℕ) → text ≢ stable ++ codes "-unstable")
    → Tells r (EndsSo text (codes ".v")) → Tells r (EndsSoDot text)
stable-by text (Some n) apart ends = (ends.0, inl ends.1)
stable-by text None apart none = λ n dot. elim dot.1 [ inl plain ↦ none n (dot.0, plain) | inr other ↦ apart other.1 other.2 ]

dot-cases : (text : List ℕ) → Tells (dot_number text) (EndsSoDot text)
dot-cases text = elim (cases_Bool (ends_with nat_eq text (codes "-unstable"))) [
  | inl found ↦
      let stable = take (length text - 9) text in
      let joined = (ends_is Decides-eqb text (codes "-unstable") _ refl).0 found in
      subst (λ r. Tells r (EndsSoDot text)) (sym (dot-unstable text stable joined))
      (unstable-by text stable (number_after (codes ".v") stable) joined (after-cases stable (codes ".v") dot_mark))
  | inr absent ↦
      let apart : (stable : List ℕ) → text ≢ stable ++ codes "-unstable" =
      λ stable joined. cc (absent, (ends_is Decides-eqb text (codes "-unstable") _ refl).1 stable joined) in
      subst (λ r. Tells r (EndsSoDot text)) (sym (dot-stable text apart))
      (stable-by text (number_after (codes ".v") text) apart (after-cases text (codes ".v") dot_mark))
]

-- ---- the major version

dot-major : (text : List ℕ) (r : Option ℕ) → IsUnderGopkg text → Tells r (EndsSoDot text) → Tells (option_map Dot r) (HasMajor text)
dot-major text (Some n) under ends = (under, ends.0, ends.1)
dot-major text None under none = major_under text under none

slash-some : (text : List ℕ) (n : ℕ) (b : Bool) → b ≡ nat_lt n 2 → ¬ (IsUnderGopkg text) → EndsInSlashVersion text → EndsSo text (codes "/v") n
    → Tells (option_map Slash (if b then None else Some n)) (HasMajor text)
slash-some text n true is outside version ends = major_elsewhere text outside version (λ m low e.
    let same = number-unique text (codes "/v") m n slash_mark e ends in
    let below : n < 2 = grind (arith, nat_tests) in
    absurd (omega arith))
slash-some text n false is outside version ends =
    let low : 2 ≤ n = grind (arith, nat_tests) in
    (outside, low, ends.0, ends.1)

slash-major : (text : List ℕ) (r : Option ℕ) → ¬ (IsUnderGopkg text) → EndsInSlashVersion text
    → Tells r (EndsSo text (codes "/v")) → Tells (option_map Slash (option_and_then (at_least 2) r)) (HasMajor text)
slash-major text (Some n) outside version ends = slash-some text n (nat_lt n 2) refl outside version ends
slash-major text None outside version none = major_elsewhere text outside version (λ n low e. none n e)

elsewhere-by : (text : List ℕ) (b : Bool) → b ≡ ends_in_slash_version text → ¬ (IsUnderGopkg text)
    → Tells (if b then option_map Slash (option_and_then (at_least 2) (number_after (codes "/v") text)) else Some NoSuffix) (HasMajor text)
elsewhere-by text true is outside =
    slash-major text (number_after (codes "/v") text) outside ((slash-tested text).0 (sym is)) (after-cases text (codes "/v") slash_mark)
elsewhere-by text false is outside = (outside, λ v. cc (is, (slash-tested text).1 v))

major-by : (text : List ℕ) (b : Bool) → b ≡ starts_with nat_eq text (codes "gopkg.in/")
    → Tells (if b then option_map Dot (dot_number text) else
    (if ends_in_slash_version text then option_map Slash
    (option_and_then (at_least 2) (number_after (codes "/v") text)) else Some NoSuffix)) (HasMajor text)
major-by text true is =
    let under : IsUnderGopkg text = (drop 9 text, (starts_is Decides-eqb text (codes "gopkg.in/") true is).0 refl) in
    dot-major text (dot_number text) under (dot-cases text)
major-by text false is =
    let outside : ¬ (IsUnderGopkg text) = λ under. cc ((starts_is Decides-eqb text (codes "gopkg.in/") false is).1 under.0 under.1) in
    elsewhere-by text (ends_in_slash_version text) refl outside

-- the computed major version is the one that the path names
pub major-cases : (text : List ℕ) → Tells (major_in text) (HasMajor text)
major-cases text = major-by text (starts_with nat_eq text (codes "gopkg.in/")) refl

-- ---- paths

found-major : (text : List ℕ) (r : Option Major) → Tells r (HasMajor text) → is_some r ≡ true → (major : Major) × HasMajor text major
found-major text (Some major) named is = (major, named)
found-major text None none is = absurd cc

some-major : (text : List ℕ) (r : Option Major) (major : Major) → Tells r (HasMajor text) → HasMajor text major → is_some r ≡ true
some-major text (Some other) major named has = refl
some-major text None major none has = absurd (none major has)

-- what a reader of the elements and of the major version finds
pub path-read : (text : List ℕ) (major : Major) → list_all is_element (elements text) ≡ true → Some major ≡ major_in text
    → IsPath text × HasMajor text major
path-read text major all found =
    let named : HasMajor text major = rw (← found) at (major-cases text) in
    (path-from text major all named, named)

pub path-unread : (text : List ℕ) → None ≡ major_in text → ¬ (IsPath text)
path-unread text none path = absurd ((rw (← none) at (major-cases text)) path.named.0 path.named.1)

-- `is_path` decides `IsPath`
pub path-tested : (text : List ℕ) → is_path text ≡ true ↔ IsPath text
unfolding is_path
path-tested text = (
  λ is.
      let parts = and_both (list_all is_element (elements text)) (is_some (major_in text)) is in
      let named = found-major text (major_in text) (major-cases text) parts.1 in
      path-from text named.0 parts.0 named.1,
  λ path. rw (path-elements text path, some-major text (major_in text) path.named.0 (major-cases text) path.named.1) refl,
)

-- ---- versions

build-by : (parts : Parts) → has_plain_build (Ok parts) ≡ true ↔ HasPlainBuild parts
build-by parts = (
  λ e. elim (or_cases (length parts.4 == 0) (bytes_eq parts.4 (codes "incompatible")) e) [
    | inl none ↦ inl (nil_from_length parts.4 (eqb-true _ _ none))
    | inr word ↦ inr (same_text parts.4 (codes "incompatible") (sym word))
  ],
  λ plain. elim plain [
    | inl none ↦ rw none refl
    | inr word ↦ rw word refl
  ],
)

read-by : (rest : List ℕ) (r : Result Parts Error) → r ≡ version_parts rest → has_plain_build r ≡ true → IsVersion (118 ∷ rest)
read-by rest (Ok parts) read plain =
    let sound = version_parts-sound rest parts (sym read) in
    (parts, sound.1, (build-by parts).0 plain, ap (118 ∷◌) (sym sound.0))
read-by rest (Err error) read plain = absurd cc

begins-v : (text : List ℕ) → (get_or text 0 0 == 118) ≡ true → text ≡ 118 ∷ drop 1 text
begins-v [] e = absurd cc
begins-v (b ∷ rest) e = ap (◌∷ rest) (eqb-true b 118 e)

-- `is_version` decides `IsVersion`
pub version-tested : (text : List ℕ) → is_version text ≡ true ↔ IsVersion text
unfolding is_version
version-tested text = (
  λ is.
      let parts = and_both (get_or text 0 0 == 118) (has_plain_build (version_parts (drop 1 text))) is in
      let front = begins-v text parts.0 in
      subst IsVersion (sym front) (read-by (drop 1 text) (version_parts (drop 1 text)) refl parts.1),
  λ version. rw (version.3, version_parts-complete version.0 version.1) ((build-by version.0).1 version.2),
)

-- ---- fits

no-build : (version : List ℕ) → has_no_build version ≡ true ↔ (build_of version ≡ [])
no-build version = (λ e. nil_from_length (build_of version) (eqb-true _ _ e), λ none. rw none refl)

small-by : (version : List ℕ) (b : Bool) → b ≡ nat_lt (major_of version) 2
    → ((if b then has_no_build version else bytes_eq (build_of version) (codes "incompatible")) ≡ true) ↔ FitsMajor NoSuffix version
small-by version true is =
    let small : major_of version < 2 = grind (arith, nat_tests) in (
      λ e. inl (small, (no-build version).0 e),
      λ fit. elim fit [
        | inl low ↦ (no-build version).1 low.1
        | inr high ↦ absurd (omega (arith, small, high.0))
      ],
    )
small-by version false is =
    let large : 2 ≤ major_of version = grind (arith, nat_tests) in (
      λ e. inr (large, same_text (build_of version) (codes "incompatible") (sym e)),
      λ fit. elim fit [
        | inl low ↦ absurd (omega (arith, large, low.0))
        | inr high ↦ rw high.1 refl
      ],
    )

major-fit : (version : List ℕ) (major : Major) → fits_major version major ≡ true ↔ FitsMajor major version
major-fit version NoSuffix = small-by version (nat_lt (major_of version) 2) refl
major-fit version (Slash n) = (
  λ e. let p = and_both (major_of version == n) (has_no_build version) e in (eqb-true _ _ p.0, (no-build version).0 p.1),
  λ fit. and_from _ _ (eq-eqb _ _ fit.0) ((no-build version).1 fit.1),
)
major-fit version (Dot n) =
    let begins = starts_is Decides-eqb version (codes "v0.0.0-") (starts_with nat_eq version (codes "v0.0.0-")) refl in (
      λ e.
          let p = and_both ((major_of version == n) || ((n == 1) && starts_with nat_eq version (codes "v0.0.0-"))) (has_no_build version) e in
          elim (or_cases (major_of version == n) ((n == 1) && starts_with nat_eq version (codes "v0.0.0-")) p.0) [
            | inl same ↦ (inl (eqb-true _ _ same), (no-build version).0 p.1)
            | inr zeros ↦
                let q = and_both (n == 1) (starts_with nat_eq version (codes "v0.0.0-")) zeros in
                (inr (eqb-true _ _ q.0, drop 7 version, begins.0 q.1), (no-build version).0 p.1)
          ],
      λ fit. elim fit.0 [
        | inl same ↦ and_from _ _ (or_left _ _ (eq-eqb _ _ same)) ((no-build version).1 fit.1)
        | inr zeros ↦ and_from _ _ (or_right (major_of version == n) _
            (and_from _ _ (eq-eqb _ _ zeros.0) (begins.1 zeros.1 zeros.2))) ((no-build version).1 fit.1)
      ],
    )

fit-by : (path version : List ℕ) (r : Option Major) → Tells r (HasMajor path) → (option_map_or (fits_major version) r false ≡ true) ↔ Fits path version
fit-by path version (Some major) named = (
  λ e. (major, named, (major-fit version major).0 e),
  λ fit. (major-fit version major).1 (subst (λ m. FitsMajor m version) (major-unique path fit.0 major fit.1 named) fit.2),
)
fit-by path version None none = (λ e. absurd cc, λ fit. absurd (none fit.0 fit.1))

-- `does_fit` decides `Fits`
pub fit-tested : (path version : List ℕ) → does_fit path version ≡ true ↔ Fits path version
unfolding does_fit
fit-tested path version = fit-by path version (major_in path) (major-cases path)

pub same-bool : (a b : Bool) → (a ≡ true → b ≡ true) → (b ≡ true → a ≡ true) → a ≡ b
same-bool true b f g = sym (f refl)
same-bool false true f g = g refl
same-bool false false f g = refl

-- `fits` returns what the test computes
pub test-is : (path version : List ℕ) (answer : Bool) → IsTrue answer ↔ Fits path version → answer ≡ does_fit path version
test-is path version answer tells =
    same-bool answer (does_fit path version) (λ e. (fit-tested path version).1 (tells.0 e)) (λ e. tells.1 ((fit-tested path version).0 e))
