-- What a go.sum says, computed, and that it does.
use Rattle.std.proofs.Common.{◌≡◌, ◌∙◌, ◌++◌, ◌&&◌, ℕ, Bool, true, false, List, [], ◌∷◌, Contains, ap, arith, codes, inl, inr, lit<, map, nat_eq, refl, subst, sym}
use Rattle.std.specs.Prelude.{if◌then◌else◌}
use Rattle.std.specs.Cmp.Lexicographic.{pointwise}
use Rattle.std.specs.List.{starts_with}
use Rattle.std.proofs.lemmas.Bool.{and_parts, false≢true, leb-true}
use Rattle.page_commands.specs.GmNameLines.{fields, lines}
use Rattle.page_commands.specs.Hash.{file_hash}
use Rattle.page_commands.specs.Sums.{IsSum, SaysOfHash}
use Rattle.page_commands.specs.Types.Sum.{Differs, Good, Sum, Unlisted}
use Rattle.page_commands.specs.Worlds.Sums.{Holds, SumsAreRead, World, hash_worlds}
use Rattle.page_commands.proofs.Members.{differ, every, every_one, member_cases, member_head, member_tail, no_member, text_itself, text_same}
use Rattle.page_commands.proofs.OnLiterals.{on_literals}
use Rattle.page_commands.proofs.Rows.{all_so}

module _ (path version : List ℕ) where
  abbrev Fields : Type 0
  Fields = List (List ℕ)

  abbrev of_hash : List ℕ → Fields
  of_hash hash = path ∷ (version ++ codes "/go.mod") ∷ hash ∷ []

  abbrev is_row : List ℕ → List ℕ → List ℕ → Bool
  is_row p v h = pointwise nat_eq p path && (pointwise nat_eq v (version ++ codes "/go.mod") && starts_with nat_eq h (codes "h1:"))

  -- the hashes that the lines list
  abbrev with_row : Fields → List (List ℕ) → List (List ℕ)
  with_row (p ∷ v ∷ h ∷ []) hashes = if is_row p v h then h ∷ hashes else hashes
  with_row _ hashes = hashes

  abbrev hashes_in : List Fields → List (List ℕ)
  hashes_in [] = []
  hashes_in (row ∷ rows) = with_row row (hashes_in rows)

  in_row : (row : Fields) (hashes : List (List ℕ)) (hash : List ℕ) → Contains hashes hash → Contains (with_row row hashes) hash
  in_row [] hashes hash there = there
  in_row (p ∷ []) hashes hash there = there
  in_row (p ∷ v ∷ []) hashes hash there = there
  in_row (p ∷ v ∷ h ∷ []) hashes hash there = by_test (is_row p v h)
    where
      by_test : (b : Bool) → Contains (if b then h ∷ hashes else hashes) hash
      by_test true = member_tail h hash hashes there
      by_test false = there
  in_row (p ∷ v ∷ h ∷ x ∷ more) hashes hash there = there

  own_row : (hashes : List (List ℕ)) (hash : List ℕ) → starts_with nat_eq hash (codes "h1:") ≡ true → Contains (with_row (of_hash hash) hashes) hash
  own_row hashes hash kind = subst (λ (b : Bool). Contains (if b then hash ∷ hashes else hashes) hash) (sym tested) (member_head hash hashes)
    where
      tested : is_row path (version ++ codes "/go.mod") hash ≡ true
      tested = rw (text_itself path, text_itself (version ++ codes "/go.mod"), kind) refl

  hash_there : (rows : List Fields) (hash : List ℕ) → Contains rows (of_hash hash) → starts_with nat_eq hash (codes "h1:") ≡ true
      → Contains (hashes_in rows) hash
  hash_there [] hash there kind = absurd (no_member (of_hash hash) there)
  hash_there (row ∷ rows) hash there kind = elim (member_cases row (of_hash hash) rows there) [
    | inl same ↦ subst (λ (r : Fields). Contains (with_row r (hashes_in rows)) hash) (sym same) (own_row (hashes_in rows) hash kind)
    | inr later ↦ in_row row (hashes_in rows) hash (hash_there rows hash later kind)
  ]

  abbrev Lists : List Fields → List ℕ → Type 0
  Lists rows hash = Contains rows (of_hash hash) × (starts_with nat_eq hash (codes "h1:") ≡ true)

  later_row : (row : Fields) (rows : List Fields) (hash : List ℕ) → Lists rows hash → Lists (row ∷ rows) hash
  later_row row rows hash (there, kind) = (member_tail row (of_hash hash) rows there, kind)

  from_row : (row : Fields) (rows : List Fields) (hashes : List (List ℕ)) (hash : List ℕ) → Contains (with_row row hashes) hash
      → (Contains hashes hash → Lists rows hash) → Lists (row ∷ rows) hash
  from_row [] rows hashes hash there later = later_row [] rows hash (later there)
  from_row (p ∷ []) rows hashes hash there later = later_row (p ∷ []) rows hash (later there)
  from_row (p ∷ v ∷ []) rows hashes hash there later = later_row (p ∷ v ∷ []) rows hash (later there)
  from_row (p ∷ v ∷ h ∷ []) rows hashes hash there later = by_test (is_row p v h) refl there
    where
      own : is_row p v h ≡ true → h ≡ hash → Lists ((p ∷ v ∷ h ∷ []) ∷ rows) hash
      own is same =
          let q = and_parts (pointwise nat_eq p path) (pointwise nat_eq v (version ++ codes "/go.mod") && starts_with nat_eq h (codes "h1:")) is in
          let r = and_parts (pointwise nat_eq v (version ++ codes "/go.mod")) (starts_with nat_eq h (codes "h1:")) q.1 in
          let row_is : (p ∷ v ∷ h ∷ []) ≡ of_hash h = ap (λ (t : List ℕ). t ∷ v ∷ h ∷ []) (text_same p path q.0)
          ∙ ap (λ (t : List ℕ). path ∷ t ∷ h ∷ []) (text_same v (version ++ codes "/go.mod") r.0) in
          subst (λ (t : List ℕ). Lists ((p ∷ v ∷ h ∷ []) ∷ rows) t) same
          (subst (λ (f : Fields). Contains ((p ∷ v ∷ h ∷ []) ∷ rows) f) row_is (member_head (p ∷ v ∷ h ∷ []) rows), r.1)

      by_test : (b : Bool) → is_row p v h ≡ b → Contains (if b then h ∷ hashes else hashes) hash → Lists ((p ∷ v ∷ h ∷ []) ∷ rows) hash
      by_test false e inside = later_row (p ∷ v ∷ h ∷ []) rows hash (later inside)
      by_test true e inside = elim (member_cases h hash hashes inside) [
        | inl same ↦ own e same
        | inr rest ↦ later_row (p ∷ v ∷ h ∷ []) rows hash (later rest)
      ]
  from_row (p ∷ v ∷ h ∷ x ∷ more) rows hashes hash there later = later_row (p ∷ v ∷ h ∷ x ∷ more) rows hash (later there)

  hash_from : (rows : List Fields) (hash : List ℕ) → Contains (hashes_in rows) hash → Lists rows hash
  hash_from [] hash there = absurd (no_member hash there)
  hash_from (row ∷ rows) hash there = from_row row rows (hashes_in rows) hash there (hash_from rows hash)

  module _ (text : List ℕ) where
    abbrev hashes : List (List ℕ)
    hashes = hashes_in (map fields (lines text))

    sum_so : (hash : List ℕ) → Contains hashes hash → IsSum text path version hash
    sum_so hash there = let found = hash_from (map fields (lines text)) hash there in record { line = found.0; kind = found.1 }

    sum_back : (hash : List ℕ) → IsSum text path version hash → Contains hashes hash
    sum_back hash is = hash_there (map fields (lines text)) hash is.line is.kind

    -- what these hashes say: the first that differs, if any
    abbrev says_of : List ℕ → List (List ℕ) → Sum
    says_of hash [] = Unlisted
    says_of hash (other ∷ others) = if every (λ (h : List ℕ). pointwise nat_eq h hash) (other ∷ others) then Good else Differs

    other_in : (hash : List ℕ) (found : List (List ℕ)) → every (λ (h : List ℕ). pointwise nat_eq h hash) found ≡ false
        → (other : List ℕ) × Contains found other × (other ≡ hash → ⊥)
    other_in hash [] e = absurd (false≢true (sym e))
    other_in hash (h ∷ more) e = by_test (pointwise nat_eq h hash) refl e (other_in hash more)
      where
        by_test : (b : Bool) → pointwise nat_eq h hash ≡ b → (b && every (λ (h : List ℕ). pointwise nat_eq h hash) more) ≡ false
            → (every (λ (h : List ℕ). pointwise nat_eq h hash) more ≡ false → (other : List ℕ) × Contains more other × (other ≡ hash → ⊥))
            → (other : List ℕ) × Contains (h ∷ more) other × (other ≡ hash → ⊥)
        by_test false unlike f later = (h, member_head h more, differ h hash unlike)
        by_test true like f later = let (other, there, unlike) = later f in (other, member_tail h other more there, unlike)

    says_so : (hash : List ℕ) (found : List (List ℕ)) → hashes ≡ found → SaysOfHash text path version hash (says_of hash found)
    says_so hash [] e = λ other is. no_member other (subst (λ (hs : List (List ℕ)). Contains hs other) e (sum_back other is))
    says_so hash (first ∷ more) e = by_test (every (λ (h : List ℕ). pointwise nat_eq h hash) (first ∷ more)) refl
      where
        by_test : (b : Bool) → every (λ (h : List ℕ). pointwise nat_eq h hash) (first ∷ more) ≡ b
            → SaysOfHash text path version hash (if b then Good else Differs)
        by_test true all =
            let same : (other : List ℕ) → IsSum text path version other → other ≡ hash =
            λ other is. text_same other hash (every_one (λ (h : List ℕ). pointwise nat_eq h hash) (first ∷ more) all other
            (subst (λ (hs : List (List ℕ)). Contains hs other) e (sum_back other is))) in
            let own = sum_so first (subst (λ (hs : List (List ℕ)). Contains hs first) (sym e) (member_head first more)) in
            (subst (IsSum text path version) (same first own) own, λ other is. search (same other is))
        by_test false some =
            let (other, there, unlike) = other_in hash (first ∷ more) some in
            (other, sum_so other (subst (λ (hs : List (List ℕ)). Contains hs other) (sym e) there), λ same. unlike (search same))

abbrev IsTold : World → Type 0
IsTold w = says_of (codes "example.com/a") (codes "v1.0.0") w.sums (file_hash w.content)
    (hashes (codes "example.com/a") (codes "v1.0.0") w.sums) ≡ w.says

told_so : (w : World) → IsTold w → Holds w
told_so w is = subst (SaysOfHash w.sums (codes "example.com/a") (codes "v1.0.0") (file_hash w.content)) is
    (says_so (codes "example.com/a") (codes "v1.0.0") w.sums (file_hash w.content) _ refl)

pub sums_are_read : SumsAreRead
unfolding on_literals
sums_are_read = record {
  hashes = all_so IsTold Holds told_so hash_worlds (refl, (refl, (refl, (refl, (refl, (refl, (refl, (refl, (refl, (refl, (refl, (refl, (refl, (refl, (refl, (refl, (refl, (refl, (refl, (refl, (refl, (refl, (refl, tt)))))))))))))))))))))));
  invalid = ((lit< tt, refl), ((lit< tt, refl), ((lit< tt, refl), ((lit< tt, refl), ((lit< tt, refl), ((lit< tt, refl), tt))))));
  valid = (leb-true _ _ refl, (leb-true _ _ refl, (leb-true _ _ refl, tt)));
  none_invalid = λ is. omega (arith, is.0);
  classes = refl;
  none = refl;
  other = refl;
}
