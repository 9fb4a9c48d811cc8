-- The hashes that lines list, and what a table says about them.
use Rattle.std.proofs.Common.{◌≡◌, ◌≢◌, ◌-◌, ◌&&◌, ◌||◌, ℕ, Bool, true, false, not, List, [], ◌∷◌, ◌++◌, length, take, drop, map, ap, ◌∙◌, sym, refl, subst, inl, inr, arith, codes, Bor}
use Rattle.std.proofs.lemmas.Bool.{and_from, cases_lt, false_from_ne_true, not-true}
use Rattle.std.proofs.lemmas.Grind.{common_steps}
use Rattle.std.proofs.lemmas.List.{append_cancel_right, map_push}
use Rattle.std.proofs.lemmas.List.Elements.{Contains-append_left, Contains-push, Contains-push_cases}
use Rattle.std.proofs.lemmas.List.Folds.{Any-from_list_any, list_any-append, list_any_at}
use Rattle.std.proofs.lemmas.List.Sorted.{Contains-permutation, IsPermutation-sym}
use Rattle.std.proofs.lemmas.List.Sums.{passes_at_first}
use Rattle.std.proofs.lemmas.Slice.Eq.{bytes_eq-Decides}
use Rattle.std.specs.Cmp.{first_so, second_so}
use Rattle.std.specs.List.Sorted.{IsPermutation}
use Rattle.std.specs.List.{list_any, starts_with}
use Rattle.std.specs.Prelude.{◌↔◌, Contains, nat_eq, if◌then◌else◌}
use Rattle.std.specs.Str.{bytes_eq}
use Rattle.gm_name.specs.Lines.{fields, lines}
use Rattle.gm_store_sums.specs.Private.Lines.{AddsGiven, Gives, HoldsSums}
use Rattle.gm_store_sums.specs.Sums.{HasValidLines, IsSum, SaysOfHash, are_valid_fields, check_in, is_line_for, is_other_hash, lines_before_invalid}
use Rattle.gm_store_sums.specs.declared.sum_table.Sum.TheVariants.{Good, Unlisted, Differs}

abbrev pub Triple : Type 0
Triple = List ℕ × List ℕ × List ℕ

-- exactly the hashes that the fields of some lines list
abbrev pub HoldsGiven : List (List (List ℕ)) → List (List ℕ × List ℕ × List ℕ) → Type 0
HoldsGiven given sums = (path version hash : List ℕ) → Contains sums (path, version, hash)
    ↔ (Contains given (path ∷ (version ++ codes "/go.mod") ∷ hash ∷ [])
    × (starts_with nat_eq hash (codes "h1:") ≡ true))

same_triple : (p v h path version hash : List ℕ) → p ∷ (v ++ codes "/go.mod") ∷ h ∷ [] ≡ path
    ∷ (version ++ codes "/go.mod") ∷ hash ∷ [] → ◌≡◌ {A = Triple} (p, v, h) (path, version, hash)
same_triple p v h path version hash e =
    let first : p ≡ path = cc e in
    let ending : v ++ codes "/go.mod" ≡ version ++ codes "/go.mod" = cc e in
    let second : v ≡ version = append_cancel_right v version (codes "/go.mod") ending in
    let third : h ≡ hash = cc e in
    rw (first, second, third) refl

take-drop_whole : (n : ℕ) (text : List ℕ) → text ≡ take n text ++ drop n text
take-drop_whole n text = grind (arith, common_steps)

-- one more line, which lists a hash
given_more : (given : List (List (List ℕ))) (sums : List Triple) (words : List (List ℕ)) (p v h : List ℕ)
    → HoldsGiven given sums → Gives words p v h → HoldsGiven (given ++ words ∷ []) (sums ++ (p, v, h) ∷ [])
given_more given sums words p v h holds gives = λ path version hash. (
  λ has. elim (Contains-push_cases sums (p, v, h) (path, version, hash) has) [
    | inl old ↦ let both = (holds path version hash).0 old in (Contains-append_left given (words ∷ []) _ both.0, both.1)
    | inr same ↦ subst (λ (t : Triple). Contains (given ++ words ∷ []) (t.0 ∷ (t.1 ++ codes "/go.mod") ∷ t.2 ∷ [])
        × (starts_with nat_eq t.2 (codes "h1:") ≡ true)) same
        (subst (Contains (given ++ words ∷ [])) gives.0 (Contains-push given words), gives.1)
  ],
  λ has. elim (Contains-push_cases given words _ has.0) [
    | inl old ↦ Contains-append_left sums ((p, v, h) ∷ []) _ ((holds path version hash).1 (old, has.1))
    | inr same ↦ subst (Contains (sums ++ (p, v, h) ∷ [])) (same_triple p v h path version hash (sym gives.0 ∙ same))
        (Contains-push sums (p, v, h))
  ],
)

-- one more line, which lists none
given_same : (given : List (List (List ℕ))) (sums : List Triple) (words : List (List ℕ)) → HoldsGiven given sums
    → ((p v h : List ℕ) → ¬ (Gives words p v h)) → HoldsGiven (given ++ words ∷ []) sums
given_same given sums words holds none = λ path version hash. (
  λ has. let both = (holds path version hash).0 has in (Contains-append_left given (words ∷ []) _ both.0, both.1),
  λ has. elim (Contains-push_cases given words _ has.0) [
    | inl old ↦ (holds path version hash).1 (old, has.1)
    | inr same ↦ absurd (none path version hash (same, has.1))
  ],
)

-- one more line
pub line_added : (seen : List (Bor (List ℕ))) (line : Bor (List ℕ)) (sums new : List Triple) → HoldsGiven (map fields (map (λ line. line.now) seen)) sums
    → AddsGiven (fields line.now) sums new → HoldsGiven (map fields (map (λ line. line.now) (seen ++ line ∷ []))) new
line_added seen line sums new holds added = elim added [
  | inl one ↦ rw (map_push, map_push, one.4) (given_more _ sums (fields line.now) one.0 one.1 one.2 holds one.3)
  | inr none ↦ rw (map_push, map_push, none.1) (given_same _ sums (fields line.now) holds none.0)
]

pub holds_all : (text : List ℕ) (sums : List Triple) → HoldsGiven (map fields (lines text)) sums → HoldsSums sums text
holds_all text sums holds = λ path version hash. (
  λ has. let both = (holds path version hash).0 has in record { line = both.0; kind = both.1 },
  λ is. (holds path version hash).1 (is.line, is.kind),
)

-- ---- which lines are valid

abbrev pub is_invalid : List ℕ → Bool
is_invalid line = not (are_valid_fields (fields line))

-- a valid line more
pub valid_more : (seen : List (Bor (List ℕ))) (line : Bor (List ℕ))
    → list_any is_invalid (map (λ line. line.now) seen) ≡ false → true ≡ are_valid_fields (fields line.now)
    → list_any is_invalid (map (λ line. line.now) (seen ++ line ∷ [])) ≡ false
valid_more seen line none valid =
    rw (map_push, list_any-append, none, ← valid) refl

-- where no line is invalid, the first invalid line is beyond the last one
pub valid_all : (text : List ℕ) → list_any is_invalid (lines text) ≡ false → HasValidLines text
valid_all text none = elim (cases_lt (lines_before_invalid text) (length (lines text))) [
  | inl low ↦
      let never : false ≡ true = sym none ∙ list_any_at is_invalid (lines text) (lines_before_invalid text) [] low
      (passes_at_first is_invalid (lines text) [] low) in
      cc never
  | inr high ↦ high
]

-- a text without its ending
pub stripped : (text ending front : List ℕ) → bytes_eq (drop (length text - length ending) text) ending ≡ true
    → front ≡ take (length text - length ending) text → text ≡ front ++ ending
stripped text ending front same cut =
    let end : drop (length text - length ending) text ≡ ending = (bytes_eq-Decides _ ending).0 same in
    take-drop_whole (length text - length ending) text ∙ ap (λ t. t ++ drop (length text - length ending) text) (sym cut) ∙ ap (λ t. front ++ t) end

-- ---- what a table says

pub any_none : {X : Type 0} (f : X → Bool) (xs : List X) → list_any f xs ≡ false → (y : X) → Contains xs y → f y ≡ false
any_none f xs none y (k, within, is) = false_from_ne_true _ (λ e.
    let never : false ≡ true = sym none ∙ list_any_at f xs k y within (ap f is ∙ e) in
    cc never)

-- the lines for a path and a version list its hashes
pub line_for : (path version : List ℕ) (t : Triple) → is_line_for path version t ≡ true → t ≡ (path, version, t.2)
line_for path version t e =
    ap (λ a. (a, t.1, t.2)) ((bytes_eq-Decides t.0 path).0 (first_so (bytes_eq t.0 path) (bytes_eq t.1 version) e))
    ∙ ap (λ b. (path, b, t.2)) ((bytes_eq-Decides t.1 version).0 (second_so (bytes_eq t.0 path) (bytes_eq t.1 version) e))

is_for : (path version hash : List ℕ) → is_line_for path version (path, version, hash) ≡ true
is_for path version hash = and_from _ _ ((bytes_eq-Decides path path).1 refl) ((bytes_eq-Decides version version).1 refl)

pub other_apart : (path version hash : List ℕ) (t : Triple) → is_other_hash path version hash t ≡ true → t.2 ≢ hash
other_apart path version hash t e same =
    let differs = not-true (bytes_eq t.2 hash) (second_so (is_line_for path version t) (not (bytes_eq t.2 hash)) e) in
    let equal : bytes_eq t.2 hash ≡ true = (bytes_eq-Decides t.2 hash).1 same in
    let never : false ≡ true = sym differs ∙ equal in
    cc never

same_by : (equal line : Bool) (a b : List ℕ) → (equal ≡ true → a ≡ b) → line ≡ true → (line && not equal) ≡ false → a ≡ b
same_by true line a b told for none = told refl
same_by false true a b told for none = cc none
same_by false false a b told for none = cc for

same_hash : (path version hash other : List ℕ) → is_other_hash path version hash (path, version, other) ≡ false → other ≡ hash
same_hash path version hash other e = same_by (bytes_eq other hash) (is_line_for path version (path, version, other))
    other hash (bytes_eq-Decides other hash).0 (is_for path version other) e

-- lookups in a table say what the text says
says_step : (text path version hash : List ℕ) (sums : List Triple) (listed other : Bool) → HoldsSums sums text
    → list_any (is_line_for path version) sums ≡ listed → list_any (is_other_hash path version hash) sums ≡ other
    → SaysOfHash text path version hash (if not listed then Unlisted else (if other then Differs else Good))
says_step text path version hash sums false other holds e f = λ h is.
    let never : true ≡ false = sym (is_for path version h) ∙ any_none (is_line_for path version) sums e (path, version, h) ((holds path version h).1 is) in
    cc never
says_step text path version hash sums true true holds e f =
    let (k, one, within, is, differs) = Any-from_list_any (is_other_hash path version hash) sums f in
    let line = line_for path version one (first_so _ _ differs) in
    (one.2, (holds path version one.2).0 (subst (Contains sums) line (k, within, is)), other_apart path version hash one differs)
says_step text path version hash sums true false holds e f =
    let (k, one, within, is, for) = Any-from_list_any (is_line_for path version) sums e in
    let only = λ (other : List ℕ) (is : IsSum text path version other).
    same_hash path version hash other (any_none (is_other_hash path version hash) sums f (path, version, other)
    ((holds path version other).1 is)) in
    let sum = (holds path version one.2).0 (subst (Contains sums) (line_for path version one for) (k, within, is)) in
    (subst (IsSum text path version) (only one.2 sum) sum, only)

-- reordering the lines keeps the hashes
pub holds_moved : (text : List ℕ) (sums moved : List Triple) → IsPermutation sums moved → HoldsSums sums text → HoldsSums moved text
holds_moved text sums moved change holds = λ path version hash. (
  λ has. (holds path version hash).0 (Contains-permutation _ _ _ (IsPermutation-sym _ _ change) has),
  λ is. Contains-permutation _ _ _ change ((holds path version hash).1 is),
)

pub says : (text path version hash : List ℕ) (sums : List Triple) → HoldsSums sums text
    → SaysOfHash text path version hash (check_in sums path version hash)
says text path version hash sums holds = says_step text path version hash sums _ _ holds refl refl

pub any_map : {X Y : Type 0} (f : Y → Bool) (h : X → Y) (xs : List X) → list_any f (map h xs) ≡ list_any (λ x. f (h x)) xs
any_map f h [] = refl
any_map f h (x ∷ xs) = ap (λ b. f (h x) || b) (any_map f h xs)
