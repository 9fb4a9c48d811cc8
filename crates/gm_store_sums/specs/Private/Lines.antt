-- Lines of a go.sum while they are read, and their order.
use Rattle.std.specs.Prelude.{ℕ, List, ◌≡◌, ◌⊎◌, nat_eq, true, false, [], ◌∷◌, ◌++◌, codes, ◌↔◌, Contains}
use Rattle.std.specs.Cmp.Lexicographic.{slice_cmp}
use Rattle.std.specs.List.Sorted.{IsPartitionPoint}
use Rattle.std.specs.Ordering.{is_le, is_lt, nat_cmp, ordering_then}
use Rattle.std.specs.declared.cmp.Ordering.{Ordering}
use Rattle.std.specs.List.{starts_with}
use Rattle.gm_store_sums.specs.declared.sum_lines.SumFields.{SumFields}
use Rattle.gm_store_sums.specs.declared.sum_lines.SumFields.TheVariants.{Blank, Three, Other}
use Rattle.gm_store_sums.specs.Order.{triple}
use Rattle.gm_store_sums.specs.declared.sum_table.SumLine.{SumLine}
use Rattle.gm_store_sums.specs.Sums.{Sums, are_valid_fields, IsSum}

-- A line is compared with a module at a version by the path, then by the text of the version.
abbrev pub key_cmp : List ℕ × List ℕ × List ℕ → List ℕ × List ℕ → Ordering
key_cmp line place = ordering_then (slice_cmp nat_cmp line.0 place.0) (slice_cmp nat_cmp line.1 place.1)

-- The lines before this place are those below a path and version.
abbrev pub IsStartOf : List SumLine → List ℕ × List ℕ → ℕ → Type 0
IsStartOf lines place = IsPartitionPoint (λ line. is_lt (key_cmp (triple line) place) ≡ true)
    (λ line. is_lt (key_cmp (triple line) place) ≡ false) lines

-- The lines before this place are those below a path and version, or for them.
abbrev pub IsEndOf : List SumLine → List ℕ × List ℕ → ℕ → Type 0
IsEndOf lines place = IsPartitionPoint (λ line. is_le (key_cmp (triple line) place) ≡ true)
    (λ line. is_le (key_cmp (triple line) place) ≡ false) lines

-- there are no fields, three fields, or another number of fields
abbrev pub AreFields : SumFields → List (List ℕ) → Type 0
AreFields Blank fields = fields ≡ []
AreFields (Three path version hash) fields = fields ≡ path.now ∷ version.now ∷ hash.now ∷ []
AreFields Other fields = (are_valid_fields fields ≡ false)
    × ((path version hash : List ℕ) → ¬ (fields ≡ path ∷ version ∷ hash ∷ []))

-- the fields list this hash for the go.mod of a module at a version
abbrev pub Gives : List (List ℕ) → List ℕ → List ℕ → List ℕ → Type 0
Gives fields path version hash = (fields ≡ path ∷ (version ++ codes "/go.mod") ∷ hash ∷ [])
    × (starts_with nat_eq hash (codes "h1:") ≡ true)

-- the new list has one more line, which the fields list, or is the old one if they list none
abbrev pub AddsGiven : List (List ℕ) → Sums → Sums → Type 0
AddsGiven fields old new =
    ((path version hash : List ℕ) × Gives fields path version hash × (new ≡ old ++ (path, version, hash) ∷ []))
    ⊎ (((path version hash : List ℕ) → ¬ (Gives fields path version hash)) × (new ≡ old))

-- the lines are those of the text that list a hash for a go.mod
abbrev pub HoldsSums : Sums → List ℕ → Type 0
HoldsSums sums text = (path version hash : List ℕ) → Contains sums (path, version, hash) ↔ IsSum text path version hash
