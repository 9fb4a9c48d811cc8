-- Buckets of a hash table: which one a number chooses, and what they hold at a number. They may be of any kind: what a
-- bucket holds at a number (`holds`), and which of so many buckets a number chooses (`choice`), are given.
use Rattle.std.specs.Prelude.{◌≡◌, ◌*◌, ◌/◌, ℕ, List, Option, Some, cond, length, nat_eq, slice_get}
use Rattle.std.specs.Option.{option_and_then}

-- which of so many buckets a number of 32 bits chooses: the number divided by 2^32, of that many
abbrev pub bucket_of : ℕ → ℕ → ℕ
bucket_of number many = number * many / 4294967296

-- what the bucket at a place of a list holds at a number
abbrev pub value_at : {B : Type 0} → (B → ℕ → Option ℕ) → List B → ℕ → ℕ → Option ℕ
value_at holds buckets at number = option_and_then (λ bucket. holds bucket number) (slice_get buckets at)

-- what buckets hold at a number: what the one that it chooses holds there
abbrev pub value_in : {B : Type 0} → (B → ℕ → Option ℕ) → (ℕ → ℕ → ℕ) → List B → ℕ → Option ℕ
value_in holds choice buckets number = value_at holds buckets (choice number (length buckets)) number

-- In a bucket, or in what has buckets, the value was put under the number, and nothing else was changed.
abbrev pub PutsIn : {B : Type 0} → (B → ℕ → Option ℕ) → B → B → ℕ → ℕ → Type 0
PutsIn holds old new number value = (n : ℕ) → holds new n ≡ cond (nat_eq number n) (Some value) (holds old n)
