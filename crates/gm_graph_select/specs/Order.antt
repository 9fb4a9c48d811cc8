-- Lists without duplicates in ascending order.
use Rattle.std.specs.Prelude.{◌≡◌, ◌↔◌, List, Contains, AllPairs}
use Rattle.std.specs.declared.cmp.Ordering.{Ordering}
use Rattle.std.specs.declared.cmp.Ordering.TheVariants.{Less, Equal}

-- Each element is less than every later one.
abbrev pub IsAscending : {T : Type 0} → (T → T → Ordering) → List T → Type 0
IsAscending cmp xs = AllPairs (λ a b. cmp a b ≡ Less) xs

-- The two lists have the same members.
abbrev pub HaveSame : {T : Type 0} → List T → List T → Type 0
HaveSame {T} xs ys = (x : T) → Contains xs x ↔ Contains ys x

-- Members of the list that compare as equal are the same.
abbrev pub TiesAreEqual : {T : Type 0} → (T → T → Ordering) → List T → Type 0
TiesAreEqual {T} cmp xs = (a b : T) → Contains xs a → Contains xs b → cmp a b ≡ Equal → a ≡ b
