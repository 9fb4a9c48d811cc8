-- Lists of which the items with a mark are removed in place, step by step.
use Rattle.std.proofs.Common.{◌≡◌, ℕ, suc, ◌+◌, ◌<◌, ◌≤◌, Bool, true, false, List, [], ◌∷◌, ◌++◌, length, take, drop, drop-cons, get_or, refl, ◌∙◌, append_assoc, arith}
use Rattle.std.specs.List.{swap}
use Rattle.std.proofs.lemmas.List.Edits.{swap_is}
use Rattle.std.proofs.lemmas.List.{drop-drop, drop-set-lt, get_or_default, take_more, take_more_set, take-set-le}
use Rattle.gm_marked_items.specs.Unmarked.{unmarked}

-- ---- items at an index

pub drop-next : {X : Type 0} (xs : List X) (n : ℕ) (x : X) → n < length xs → x ≡ get_or xs n x → drop n xs ≡ x ∷ drop (n + 1) xs
drop-next xs n x lt is =
    let e : suc n ≡ n + 1 = omega arith in
    rw (drop-cons xs n x lt, ← is, e)

pub item-here : {X : Type 0} (items : List X) (n : ℕ) → n < length items → (item : X) × (drop n items ≡ item ∷ drop (n + 1) items)
item-here [] n lt = absurd (omega (arith, lt))
item-here (item ∷ items) n lt =
    (get_or (item ∷ items) n item, drop-next _ _ _ lt (get_or_default (item ∷ items) n item (get_or (item ∷ items) n item) lt))

pub kept-here : {X : Type 0} (items : List X) (n : ℕ) → n < length items → take (n + 1) items ≡ take n items ++ take 1 (drop n items)
kept-here [] n lt = absurd (omega (arith, lt))
kept-here (item ∷ items) n lt =
    rw (drop-next _ _ _ lt (get_or_default (item ∷ items) n item (get_or (item ∷ items) n item) lt)) (take_more _ _ item lt)

pub next-rest : {X : Type 0} (xs ys : List X) (n : ℕ) → drop n xs ≡ drop n ys → drop (n + 1) xs ≡ drop (n + 1) ys
next-rest xs ys n same = rw (← drop-drop 1 _ _, same) (drop-drop 1 n ys)

-- ---- an item that moves

pub swap-front : {X : Type 0} (items : List X) (k n : ℕ) → k < n → n < length items → take (k + 1) (swap items k n) ≡ take k items ++ take 1 (drop n items)
swap-front [] k n lt in_range = absurd (omega (arith, in_range))
swap-front {X} (item ∷ rest) k n lt in_range =
    let items : List X = item ∷ rest in
    let low : k < length items = omega (arith, lt, in_range) in
    let there : X = get_or items n item in
    let first : take 1 (drop n items) ≡ there ∷ [] = rw (drop-next _ _ _ in_range (get_or_default items n item there in_range)) in
    rw (first, ← swap_is items k n item low in_range) (take-set-le (k + 1) _ _ _ (omega (arith, lt)) ∙ take_more_set _ _ _ low)

pub swap-rest : {X : Type 0} (items : List X) (k n : ℕ) → k < n → n < length items → drop (n + 1) (swap items k n) ≡ drop (n + 1) items
swap-rest [] k n lt in_range = absurd (omega (arith, in_range))
swap-rest {X} (item ∷ rest) k n lt in_range =
    let items : List X = item ∷ rest in
    let there : X = get_or items n item in
    rw (← swap_is items k n item (omega (arith, lt, in_range)) in_range)
    (drop-set-lt (n + 1) _ _ _ (omega arith) ∙ drop-set-lt (n + 1) _ _ _ (omega (arith, lt)))

-- ---- the loop that keeps items

-- Loop invariant: the items from an index on are still those of the whole, and with those that are kept so far they
-- leave what the whole leaves.
pub record IsKeptTo {X : Type 0} (marks : List Bool) (whole : List X) (n count : ℕ) (items : List X) : Type 0 where
  pub len : length items ≡ length whole
  pub bound : count ≤ n
  pub rest : drop n items ≡ drop n whole
  pub left : take count items ++ unmarked (drop n marks) (drop n whole) ≡ unmarked marks whole

-- an item that stays is kept, and one that goes is passed over
left-more : {X : Type 0} (mark : Bool) (front new : List X) (item : X) (marks : List Bool) (rest : List X)
    → (mark ≡ true → new ≡ front) → (mark ≡ false → new ≡ front ++ item ∷ [])
    → new ++ unmarked marks rest ≡ front ++ unmarked (mark ∷ marks) (item ∷ rest)
left-more true front new item marks rest gone stays = rw (gone refl)
left-more false front new item marks rest gone stays = rw (stays refl) (append_assoc front _ _)

pub keep-more : {X : Type 0} {marks : List Bool} {whole : List X} (n : ℕ) {count : ℕ} (next : ℕ) {items : List X}
    (new : List X) {mark : Bool}
    → n < length marks → length marks ≡ length whole → mark ≡ get_or marks n mark → length new ≡ length items
    → next ≤ n + 1 → drop (n + 1) new ≡ drop (n + 1) items
    → (mark ≡ true → take next new ≡ take count items) → (mark ≡ false
    → take next new ≡ take count items ++ take 1 (drop n items)) → IsKeptTo marks whole n count items
    → IsKeptTo marks whole (n + 1) next new
keep-more {marks} {whole} n {count} next {items} new {mark} lt even is len bound same gone stays so =
    let here = item-here whole n (omega (arith, lt, even)) in
    let one : take 1 (drop n items) ≡ here.0 ∷ [] = rw (so.rest, here.1) in
    record {
      len = len ∙ so.len;
      bound = bound;
      rest = same ∙ next-rest items whole n so.rest;
      left =
          left-more _ _ _ _ _ _ gone (λ e. rw one at (stays e)) ∙ rw (drop-next _ _ _ lt is, here.1) at so.left;
    }
