-- Texts without a line feed: paths, versions and go versions.
use Rattle.std.proofs.Common.{◌≡◌, ◌≢◌, ℕ, suc, ◌+◌, ◌==◌, ◌&&◌, not, nat_lt, Bool, true, false, List, [], ◌∷◌, length, take, drop, take_while, Option, Some, None, is_some, refl, sym, ap, ◌∙◌, arith, inl, inr}
use Rattle.std.specs.Prelude.{if◌then◌else◌, option_and_then}
use Rattle.std.specs.Char.{is_ascii_digit, is_ascii_lowercase}
use Rattle.std.specs.List.{AllByRecursion, list_all, prefix_len}
use Rattle.std.proofs.lemmas.Bool.{cases_Bool, or_cases, or_parts, true≢false}
use Rattle.std.proofs.lemmas.Bool.Decides.{nat_tests}
use Rattle.std.proofs.lemmas.List.{take-append-drop}
use Rattle.std.proofs.lemmas.List.Folds.{length-prefix_len}
use Rattle.gm_syntax_words.specs.Lines.{HasNoLineFeed}
use Rattle.gm_syntax.proofs.Stable.{plain_append}
use Rattle.gm_name.specs.Names.{is_path, is_version}
use Rattle.gm_version.specs.Number.{is_decimal}
use Rattle.gm_name.specs.Path.{IsPath}
use Rattle.gm_version.specs.Version.{IsVersion}
use Rattle.gm_name.proofs.Bytes.{path-bytes, version-bytes}
use Rattle.gm_name.proofs.NameTests.{and_both, path-tested, version-tested}
use Rattle.gm_operation.specs.Operations.{has_byte}
use Rattle.gm_file.specs.GoVersions.{after_dot, before_dot, first_number, has_dot, is_go_suffix, last_number, second_number, small_number, strict_go}
use Rattle.std.specs.Option.{option_map}
use Rattle.gm_file.specs.Values.{both}

-- ---- options that hold a value

pub map-some : {X Y : Type 0} (f : X → Y) (o : Option X) {y : Y} → option_map f o ≡ Some y → (x : X) × (o ≡ Some x) × (f x ≡ y)
map-some f None e = absurd cc
map-some f (Some x) e = (x, refl, cc)

pub then-some : {X Y : Type 0} (f : X → Option Y) (o : Option X) {y : Y} → option_and_then f o ≡ Some y → (x : X) × (o ≡ Some x) × (f x ≡ Some y)
then-some f None e = absurd cc
then-some f (Some x) e = (x, refl, e)

pub both-are : {A B C : Type 0} (f : A → B → C) (a : Option A) (b : Option B) {c : C} → both f a b ≡ Some c
    → (x : A) × (y : B) × (a ≡ Some x) × (b ≡ Some y) × (f x y ≡ c)
both-are f None b e = absurd cc
both-are f (Some x) None e = absurd cc
both-are f (Some x) (Some y) e = (x, y, refl, refl, cc)

-- a text whose bytes pass a test that a byte fails is without the byte
pub has-no : (byte : ℕ) (test : ℕ → Bool) → test byte ≡ false → (text : List ℕ) → list_all test text ≡ true → AllByRecursion (λ b. b ≢ byte) text
has-no byte test fails [] all = tt
has-no byte test fails (b ∷ text) all =
    let parts = and_both _ _ all in
    ((λ e. true≢false (sym parts.0 ∙ ap test e ∙ fails)), has-no byte test fails text parts.1)

pub path-plain : (text : List ℕ) → IsPath text → HasNoLineFeed text
path-plain text path = has-no 10 _ refl _ (path-bytes _ path)

pub path-feed : (text : List ℕ) → is_path text ≡ true → HasNoLineFeed text
path-feed text h = path-plain _ ((path-tested _).0 h)

pub version-plain : (text : List ℕ) → IsVersion text → HasNoLineFeed text
version-plain text version = has-no 10 _ refl _ (version-bytes _ version)

pub version-feed : (text : List ℕ) → is_version text ≡ true → HasNoLineFeed text
version-feed text h = version-plain _ ((version-tested _).0 h)

-- a text that doesn't contain the byte has no line feed
pub byte-feed : (text : List ℕ) → has_byte 10 text ≡ false → HasNoLineFeed text
byte-feed [] e = tt
byte-feed (b ∷ text) e =
    let parts = or_parts (b == 10) (has_byte 10 text) e in
    ((λ is. true≢false (sym (rw is) ∙ parts.0)), byte-feed text parts.1)

-- ---- go versions

pub if-some : {X : Type 0} (b : Bool) (o : Option X) {x : X} → (if b then o else None) ≡ Some x → (b ≡ true) × (o ≡ Some x)
if-some true o e = (refl, e)
if-some false o e = absurd cc

pub if-other : {X : Type 0} (b : Bool) (o : Option X) {x : X} → (if b then None else o) ≡ Some x → (b ≡ false) × (o ≡ Some x)
if-other true o e = absurd cc
if-other false o e = (refl, e)

decimal-feed : (text : List ℕ) → is_decimal text ≡ true → HasNoLineFeed text
decimal-feed text h = has-no 10 _ refl _ (and_both _ _ h).1

small-feed : (text : List ℕ) (n : ℕ) → small_number text ≡ Some n → HasNoLineFeed text
unfolding small_number
small-feed text n e =
    let test = if-some _ _ e in
    decimal-feed _ (and_both _ _ test.0).0

first-feed : (text : List ℕ) (n : ℕ) → first_number text ≡ Some n → HasNoLineFeed text
unfolding first_number
first-feed text n e = small-feed _ _ (if-other _ _ e).1

cut-feed : (n : ℕ) (text : List ℕ) → HasNoLineFeed (take n text) → HasNoLineFeed (drop n text) → HasNoLineFeed text
cut-feed n text front back = rw (take-append-drop n _) at (plain_append _ _ front back)

while-feed : (test : ℕ → Bool) → test 10 ≡ false → (text : List ℕ) → HasNoLineFeed (take_while test text)
while-feed test fails [] = tt
while-feed test fails (b ∷ text) = elim (cases_Bool (test b)) [
  | inl holds ↦ let e : 1 + prefix_len test text ≡ suc (prefix_len test text) = omega arith in
      rw (holds, e) ((λ is. true≢false (sym holds ∙ ap test is ∙ fails)), while-feed test fails text)
  | inr out ↦ rw out tt
]

empty-feed : (text : List ℕ) → length text ≡ 0 → HasNoLineFeed text
empty-feed [] e = tt
empty-feed (b ∷ text) e = absurd cc

behind-feed : (test : ℕ → Bool) → test 10 ≡ false → (text : List ℕ) → HasNoLineFeed (drop (length (take_while test text)) text) → HasNoLineFeed text
behind-feed test fails text back = cut-feed _ _ (while-feed test fails text) (rw (length-prefix_len _ _) at back)

suffix-feed : (text : List ℕ) → is_go_suffix text ≡ true → HasNoLineFeed text
unfolding is_go_suffix
suffix-feed text e =
    let letters = take_while is_ascii_lowercase text in
    let some : Bool = nat_lt 0 (length letters) && nat_lt (length letters) (length text) in
    let digits : Bool = list_all is_ascii_digit (drop (length letters) text) in
    elim (or_cases (length text == 0) (some && digits) e) [
      | inl none ↦ let zero : length text ≡ 0 = grind (arith, nat_tests) in empty-feed text zero
      | inr rest ↦ behind-feed is_ascii_lowercase refl text (has-no 10 is_ascii_digit refl (drop (length letters) text) (and_both some digits rest).1)
    ]

last-feed : (text : List ℕ) {n : ℕ} → last_number text ≡ Some n → HasNoLineFeed text
unfolding last_number
last-feed text e =
    let digits = take_while is_ascii_digit text in
    behind-feed _ refl _ (suffix-feed _ (if-some _ _ e).0)

dot-feed : (text : List ℕ) → HasNoLineFeed (before_dot text) → HasNoLineFeed (after_dot text) → HasNoLineFeed text
dot-feed [] before after = tt
dot-feed (b ∷ text) before after =
    let n = prefix_len (λ (x : ℕ). not (x == 46)) text in
    elim (cases_Bool (b == 46)) [
      | inl dot ↦
          let none : prefix_len (λ (x : ℕ). not (x == 46)) (b ∷ text) ≡ 0 = rw dot refl in
          ((λ is. true≢false (sym dot ∙ rw is)), rw none at after)
      | inr other ↦
          let more : prefix_len (λ (x : ℕ). not (x == 46)) (b ∷ text) ≡ suc n = rw other (omega arith) in
          let next : suc n + 1 ≡ suc (n + 1) = omega arith in
          let front : HasNoLineFeed (b ∷ take n text) = rw more at before in
          (front.0, dot-feed text front.1 (rw (more, next) at after))
    ]

some-in : {X : Type 0} (o : Option X) → is_some o ≡ true → (x : X) × (o ≡ Some x)
some-in None e = absurd cc
some-in (Some x) e = (x, refl)

second-feed : (text : List ℕ) (n : ℕ) → second_number text ≡ Some n → HasNoLineFeed text
unfolding second_number
second-feed text n e = elim (cases_Bool (has_dot text)) [
  | inl dot ↦
      let inner = rw dot at e in
      let test = if-some (is_some _) (small_number (before_dot text)) inner in
      let last = some-in (last_number (after_dot text)) test.0 in
      dot-feed text (small-feed (before_dot text) n test.1) (last-feed (after_dot text) last.1)
  | inr none ↦ last-feed text (rw none at e)
]

pub go-feed : (text : List ℕ) → is_some (strict_go text) ≡ true → HasNoLineFeed text
unfolding strict_go
go-feed text e =
    let read = some-in _ e in
    let parts = both-are _ _ _ read.1 in
    dot-feed _ (first-feed _ _ parts.2) (second-feed _ _ parts.3)
