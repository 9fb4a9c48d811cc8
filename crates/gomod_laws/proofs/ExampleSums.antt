-- What the definitions say of small go.sums.
use Rattle.std.proofs.Common.{◌≡◌, ◌∷◌, ℕ, true, List, [], Contains, ap, arith, codes, drop, inl, inr, length, nat_eq, refl, subst, sym}
use Rattle.std.specs.List.{starts_with}
use Rattle.std.proofs.lemmas.Bool.{false≢true}
use Rattle.gm_store_sums.specs.Sums.{IsSum, SaysOfHash}
use Rattle.gm_store_sums.specs.declared.sum_table.Sum.{Sum}
use Rattle.gm_graph_select.proofs.Ascending.{member_cases, no_member}
use Rattle.gomod_texts.proofs.OneRead.{one_says}
use Rattle.gomod_run.proofs.ListLines.{heads}
use Rattle.gomod_laws.specs.ExampleSums.{SaysOnly, SumsSay, one_sum, two_sums}

-- ---- a go.sum says one thing of a hash

says_only : (text version hash : List ℕ) (sum : Sum) → SaysOfHash text (codes "a.b") version hash sum → SaysOnly text version hash sum
says_only text version hash sum is other = (
  λ says. one_says _ _ _ _ _ _ says is,
  λ same. rw same is,
)

-- ---- fields

abbrev row : List ℕ → List ℕ → List (List ℕ)
row name hash = codes "a.b" ∷ name ∷ hash ∷ []

-- the fields of a text of one line, which are followed by those of what is behind its line feed
abbrev rows : List ℕ → List ℕ → List (List (List ℕ))
rows name hash = row name hash ∷ [] ∷ []

abbrev second : List (List ℕ) → List ℕ
second (path ∷ name ∷ rest) = name
second _ = []

abbrev third : List (List ℕ) → List ℕ
third (path ∷ name ∷ hash ∷ rest) = hash
third _ = []

not_blank : {name hash : List ℕ} → [] ≡ row name hash → ⊥
not_blank e = let none : 0 ≡ 3 = ap (λ xs. length xs) e in omega (arith, none)

row_is : {name hash other_name other : List ℕ} → Contains (rows name hash) (row other_name other) → row name hash ≡ row other_name other
row_is there = elim (member_cases _ _ ([] ∷ []) there) [
  | inl same ↦ same
  | inr later ↦ elim (member_cases [] _ [] later) [
    | inl same ↦ absurd (not_blank same)
    | inr none ↦ absurd (no_member _ none)
  ]
]

-- ---- one line

listed : IsSum one_sum (codes "a.b") (codes "v1.0.0") (codes "h1:A")
listed = record { line = (0, omega arith, refl); kind = refl }

no_other : (other : List ℕ) → IsSum one_sum (codes "a.b") (codes "v1.0.0") other → other ≡ codes "h1:A"
no_other other is = sym (ap third (row_is is.line))

letters_differ : codes "h1:A" ≡ codes "h1:B" → ⊥
letters_differ e = let letter = heads _ _ _ _ (ap (drop 3) e) in omega (arith, letter)

no_later : (other : List ℕ) → IsSum one_sum (codes "a.b") (codes "v1.1.0") other → ⊥
no_later other is =
    let name : codes "v1.0.0/go.mod" ≡ codes "v1.1.0/go.mod" =
    ap second (row_is is.line) in
    let digit = heads _ _ _ _ (ap (drop 3) name) in omega (arith, digit)

-- ---- two lines, and lines that are passed over

also_listed : IsSum two_sums (codes "a.b") (codes "v1.0.0") (codes "h1:B")
also_listed = record { line = (1, omega arith, refl); kind = refl }

not_of_files : (other : List ℕ) → IsSum (codes "a.b v1.0.0 h1:A\n") (codes "a.b") (codes "v1.0.0") other → ⊥
not_of_files other is =
    let name : codes "v1.0.0" ≡ codes "v1.0.0/go.mod" =
    ap second (row_is is.line) in
    let size : 6 ≡ 13 = ap (λ text. length text) name in omega (arith, size)

not_other_kind : (other : List ℕ) → IsSum (codes "a.b v1.0.0/go.mod h2:A\n") (codes "a.b") (codes "v1.0.0") other → ⊥
not_other_kind other is =
    let hash : codes "h2:A" ≡ other = ap third (row_is is.line) in
    false≢true (subst (λ text. starts_with nat_eq text (codes "h1:") ≡ true) (sym hash) is.kind)

pub sums_say : SumsSay
sums_say = record {
  good = says_only _ _ _ _ (listed, no_other);
  differs = says_only _ _ _ _ (codes "h1:A", listed, letters_differ);
  also_differs = says_only _ _ _ _ (codes "h1:B", also_listed, λ e. letters_differ (sym e));
  unlisted = says_only _ _ _ _ no_later;
  of_files = says_only _ _ _ _ not_of_files;
  other_kind = says_only _ _ _ _ not_other_kind;
  good_class = refl;
  differs_class = refl;
  unlisted_class = refl;
}
