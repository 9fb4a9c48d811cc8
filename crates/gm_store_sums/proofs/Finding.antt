-- Where the lines for a path and a version are in a table, and what they say about a hash.
use Rattle.std.proofs.Common.{◌≡◌, ◌<◌, ◌≤◌, ◌+◌, ◌-◌, ℕ, Bool, true, false, not, List, [], length, map, ap, ◌∙◌, sym, refl, arith, slice_index_or, inl, inr}
use mathlib.Core.Path.{ap₂}
use Rattle.std.proofs.lemmas.Bool.{and_from, cases_lt, false_from_ne_true}
use Rattle.std.proofs.lemmas.Cmp.{nat_list_cmp_total, on_total, then_total, tied_itself}
use Rattle.std.proofs.lemmas.List.{get_or_default}
use Rattle.std.proofs.lemmas.List.Folds.{Any-from_list_any, list_any-from_Any}
use Rattle.std.proofs.lemmas.List.Sorted.{sorted_far, ranks_by, searchable_from_sorted}
use Rattle.std.proofs.lemmas.Slice.Eq.{bytes_eq-Decides}
use Rattle.std.specs.Cmp.{IsTotalOrder, first_so, second_so}
use Rattle.std.specs.Cmp.Lexicographic.{slice_cmp}
use Rattle.std.specs.List.{list_any}
use Rattle.std.specs.List.Sorted.{IsNonDecreasingBy, IsPartitionPoint, IsPartitionedBy, IsSortedBy}
use Rattle.std.specs.Ordering.{is_le, is_lt, nat_cmp, ordering_index, ordering_reverse, ordering_then}
use Rattle.std.specs.Prelude.{Contains}
use Rattle.std.specs.Str.{bytes_eq}
use Rattle.std.specs.declared.cmp.Ordering.{Ordering}
use Rattle.std.specs.declared.cmp.Ordering.TheVariants.{Less, Equal, Greater}
use Rattle.gm_store_sums.specs.Order.{AreInOrder, line_cmp, triple}
use Rattle.gm_store_sums.specs.Private.Lines.{IsEndOf, IsStartOf, key_cmp}
use Rattle.gm_store_sums.specs.Sums.{check_in, is_line_for, is_other_hash}
use Rattle.gm_store_sums.specs.declared.sum_table.Sum.TheVariants.{Good, Unlisted, Differs}
use Rattle.gm_store_sums.specs.declared.sum_table.SumLine.{SumLine}
use Rattle.gm_store_sums.proofs.Summing.{Triple, any_map, line_for, other_apart}
use Rattle.gm_name.proofs.Fitting.{then_first}
use Rattle.gm_name.proofs.Texts.{slice_cmp-same}

abbrev Place : Type 0
Place = List ℕ × List ℕ

-- ---- the orders

pub key_total : IsTotalOrder (λ (x y : Place). ordering_then (slice_cmp nat_cmp x.0 y.0) (slice_cmp nat_cmp x.1 y.1))
key_total = then_total (on_total (λ (x : Place). x.0) nat_list_cmp_total) (on_total (λ (x : Place). x.1) nat_list_cmp_total)

pub line_total : IsTotalOrder line_cmp
line_total = then_total (on_total (λ (x : Triple). x.0) nat_list_cmp_total)
    (then_total (on_total (λ (x : Triple). x.1) nat_list_cmp_total) (on_total (λ (x : Triple). x.2) nat_list_cmp_total))

shorter : (a b c : Ordering) → is_lt (ordering_then a (ordering_then b c)) ≡ false → is_lt (ordering_then a b) ≡ false
shorter Less b c e = e
shorter Greater b c e = refl
shorter Equal Less c e = e
shorter Equal Greater c e = refl
shorter Equal Equal c e = refl

place_of : SumLine → Place
place_of line = (line.path.now, line.version.now)

-- lines in ascending order are in the order of their paths and versions
shorter_lines : (x y : SumLine) → is_lt (line_cmp (triple x) (triple y)) ≡ false
    → is_lt (ordering_then (slice_cmp nat_cmp x.path.now y.path.now) (slice_cmp nat_cmp x.version.now y.version.now))
    ≡ false
shorter_lines x y e = shorter (slice_cmp nat_cmp x.path.now y.path.now) (slice_cmp nat_cmp x.version.now y.version.now)
    (slice_cmp nat_cmp x.hash.now y.hash.now) e

by_key : (lines : List SumLine) → AreInOrder lines → IsSortedBy
    (λ x y. is_lt (ordering_then (slice_cmp nat_cmp x.path.now y.path.now)
    (slice_cmp nat_cmp x.version.now y.version.now))) lines
by_key lines order = λ k d low high. shorter_lines (slice_index_or lines (k + 1) d) (slice_index_or lines k d) (order k d low high)

rising : (lines : List SumLine) (path version : List ℕ) → AreInOrder lines
    → IsNonDecreasingBy (λ line. ordering_index (key_cmp (triple line) (path, version))) lines
rising lines path version order = searchable_from_sorted key_total (λ line. (line.path.now, line.version.now)) lines (path, version) (by_key lines order)

less_down : (a b : Ordering) → ordering_index a ≤ ordering_index b → is_lt b ≡ true → is_lt a ≡ true
less_down Less b le e = refl
less_down Equal Less le e = absurd (omega arith)
less_down Greater Less le e = absurd (omega arith)
less_down Equal Equal le e = e
less_down Equal Greater le e = cc e
less_down Greater Equal le e = cc e
less_down Greater Greater le e = e

up_to_down : (a b : Ordering) → ordering_index a ≤ ordering_index b → is_le b ≡ true → is_le a ≡ true
up_to_down Less b le e = refl
up_to_down Equal b le e = refl
up_to_down Greater Less le e = absurd (omega arith)
up_to_down Greater Equal le e = absurd (omega arith)
up_to_down Greater Greater le e = e

pub parted_before : (lines : List SumLine) (path version : List ℕ) → AreInOrder lines
    → IsPartitionedBy (λ line. is_lt (key_cmp (triple line) (path, version))) lines
parted_before lines path version order = λ i j d le within. less_down _ _ (rising lines path version order i j d le within)

pub parted_up_to : (lines : List SumLine) (path version : List ℕ) → AreInOrder lines
    → IsPartitionedBy (λ line. is_le (key_cmp (triple line) (path, version))) lines
parted_up_to lines path version order = λ i j d le within. up_to_down _ _ (rising lines path version order i j d le within)

-- ---- which lines are for a path and version

then_second : (a b : Ordering) → ordering_then a b ≡ Equal → b ≡ Equal
then_second a b e = ap (λ o. ordering_then o b) (sym (then_first a b e)) ∙ e

between : (o : Ordering) → is_lt o ≡ false → is_le o ≡ true → o ≡ Equal
between Less e f = cc e
between Equal e f = refl
between Greater e f = cc f

-- a line that is neither below nor above a path and version is for them
is_at : (path version : List ℕ) (t : Triple) → is_lt (key_cmp t (path, version)) ≡ false
    → is_le (key_cmp t (path, version)) ≡ true → is_line_for path version t ≡ true
is_at path version t low high =
    let even = between (key_cmp t (path, version)) low high in
    and_from _ _ ((bytes_eq-Decides t.0 path).1 (slice_cmp-same t.0 path (then_first _ (slice_cmp nat_cmp t.1 version) even)))
    ((bytes_eq-Decides t.1 version).1 (slice_cmp-same t.1 version (then_second (slice_cmp nat_cmp t.0 path) _ even)))

even_at : (path version : List ℕ) (t : Triple) → is_line_for path version t ≡ true → key_cmp t (path, version) ≡ Equal
even_at path version t e =
    let p : t.0 ≡ path = (bytes_eq-Decides t.0 path).0 (first_so (bytes_eq t.0 path) (bytes_eq t.1 version) e) in
    let v : t.1 ≡ version = (bytes_eq-Decides t.1 version).0 (second_so (bytes_eq t.0 path) (bytes_eq t.1 version) e) in
    ap (λ a. key_cmp (a, t.1, t.2) (path, version)) p ∙ ap (λ b. key_cmp (path, b, t.2) (path, version)) v ∙ tied_itself key_total (path, version)

-- ---- what is found

Equal-from_neither : (o p : Ordering) → o ≡ ordering_reverse p → is_lt o ≡ false → is_lt p ≡ false → o ≡ Equal
Equal-from_neither Less p e low high = cc low
Equal-from_neither Equal p e low high = refl
Equal-from_neither Greater Less e low high = cc high
Equal-from_neither Greater Equal e low high = cc e
Equal-from_neither Greater Greater e low high = cc e

less_is_le : (o : Ordering) → is_lt o ≡ true → is_le o ≡ true
less_is_le Less e = refl
less_is_le Equal e = refl
less_is_le Greater e = cc e

-- the lines are parted where one that fails the test stands, or the list ends, and all before it pass
parted_at : {X : Type 0} (test : X → Bool) (xs : List X) (end : ℕ) → IsPartitionedBy test xs
    → ((k : ℕ) (d : X) → 0 ≤ k → k < end → test (slice_index_or xs k d) ≡ true)
    → ((d : X) → end < length xs → test (slice_index_or xs end d) ≡ false) → IsPartitionPoint (λ x. test x ≡ true) (λ x. test x ≡ false) xs end
parted_at test xs end parted before fails = (
  before,
  λ k d high within. false_from_ne_true _ (λ e.
      let never : false ≡ true = sym (fails d (omega arith)) ∙ parted end k d high within e in
      cc never),
)

-- a line that is not below a path and version, and not for them, is above them
key_above : (path version : List ℕ) (t : Triple) → is_lt (key_cmp t (path, version)) ≡ false
    → is_line_for path version t ≡ false → is_le (key_cmp t (path, version)) ≡ false
key_above path version t low other = false_from_ne_true _ (λ e.
    let never : false ≡ true = sym other ∙ is_at path version t low e in
    cc never)

-- where the lines for a path and version end: in front of the first line that is not below them, or after it
pub ends_at : (lines : List SumLine) (path version : List ℕ) (start : ℕ) → AreInOrder lines
    → IsStartOf lines (path, version) start
    → ((d : SumLine) → start < length lines → false ≡ is_line_for path version (triple (slice_index_or lines start d)))
    → IsEndOf lines (path, version) start
ends_at lines path version start order before other =
    parted_at (λ line. is_le (key_cmp (triple line) (path, version))) lines start
    (parted_up_to lines path version order) (λ k d low high. less_is_le _ (before.0 k d low high))
    (λ d within. key_above path version (triple (slice_index_or lines start d)) (before.1 start d (omega arith) within) (sym (other d within)))

pub ends_after : (lines : List SumLine) (path version : List ℕ) (start : ℕ) → AreInOrder lines
    → IsStartOf lines (path, version) start → start < length lines
    → ((d : SumLine) → true ≡ is_line_for path version (triple (slice_index_or lines start d)))
    → ((d : SumLine) → start + 1 < length lines → false ≡ is_line_for path version (triple (slice_index_or lines (start + 1) d)))
    → IsEndOf lines (path, version) (start + 1)
ends_after lines path version start order before some here other =
    parted_at (λ line. is_le (key_cmp (triple line) (path, version))) lines (start + 1) (parted_up_to lines path version order)
    (λ k d low high. parted_up_to lines path version order k start d (omega arith) some
    (ap is_le (even_at path version (triple (slice_index_or lines start d)) (sym (here d)))))
    (λ d within. key_above path version (triple (slice_index_or lines (start + 1) d)) (before.1 (start + 1) d (omega arith) within) (sym (other d within)))

-- the line that the code reads at a place: past the end, one of empty texts
abbrev pub line_at : List SumLine → ℕ → SumLine
line_at lines k = slice_index_or lines k (record {
  path = record { ref_ptr = (0, 0); now = [] };
  version = record { ref_ptr = (0, 0); now = [] };
  hash = record { ref_ptr = (0, 0); now = [] };
})

pub reads_itself : (lines : List SumLine) (k : ℕ) → k < length lines → slice_index_or lines k (line_at lines k) ≡ line_at lines k
reads_itself lines k within = get_or_default lines k _ _ within

module _ (lines : List SumLine) (path version hash : List ℕ) (start end : ℕ) (before : IsStartOf lines (path, version) start)
    (up_to : IsEndOf lines (path, version) end) (within : end ≤ length lines) where
  not_below : (y : SumLine) (k : ℕ) → slice_index_or lines k y ≡ y → is_line_for path version (triple y) ≡ true → k < start → ⊥
  not_below y k is for low =
      let below : is_lt (key_cmp (triple y) (path, version)) ≡ true =
      ap (λ line. is_lt (key_cmp (triple line) (path, version))) (sym is) ∙ before.0 k y (omega arith) low in
      let never : false ≡ true = ap is_lt (sym (even_at path version (triple y) for)) ∙ below in
      cc never

  not_above : (y : SumLine) (k : ℕ) → slice_index_or lines k y ≡ y → is_line_for path version (triple y) ≡ true → k < length lines → end ≤ k → ⊥
  not_above y k is for in_list high =
      let key_above : is_le (key_cmp (triple y) (path, version)) ≡ false =
      ap (λ line. is_le (key_cmp (triple line) (path, version))) (sym is) ∙ up_to.1 k y high in_list in
      let never : true ≡ false = ap is_le (sym (even_at path version (triple y) for)) ∙ key_above in
      cc never

  pub found_at : (y : SumLine) → Contains lines y → is_line_for path version (triple y) ≡ true
      → (k : ℕ) × (start ≤ k) × (k < end) × (slice_index_or lines k y ≡ y)
  found_at y (k, in_list, is) for = elim (cases_lt k start) [
    | inl low ↦ absurd (not_below y k is for low)
    | inr low ↦ elim (cases_lt k end) [
      | inl high ↦ (k, low, high, is)
      | inr high ↦ absurd (not_above y k is for in_list high)
    ]
  ]

  -- the lines from start to end are for the path and version
  pub line_in_range : (y : SumLine) (k : ℕ) → slice_index_or lines k y ≡ y → start ≤ k → k < end → is_line_for path version (triple y) ≡ true
  line_in_range y k is low high =
      is_at path version (triple y)
      (ap (λ line. is_lt (key_cmp (triple line) (path, version))) (sym is) ∙ before.1 k y low (omega arith))
      (ap (λ line. is_le (key_cmp (triple line) (path, version))) (sym is) ∙ up_to.0 k y (omega arith) high)

  pub unlisted : end ≤ start → Unlisted ≡ check_in (map triple lines) path version hash
  unlisted same =
      let nothing : list_any (is_line_for path version) (map triple lines) ≡ false =
      any_map (is_line_for path version) triple lines ∙ false_from_ne_true _ (λ e.
      let (at, y, low_enough, is, for) = Any-from_list_any (λ line. is_line_for path version (triple line)) lines e in
      let (k, low, high, there) = found_at y (at, low_enough, is) for in
      omega arith) in
      rw nothing refl

  listed : (y : SumLine) → slice_index_or lines start y ≡ y → start < end → list_any (is_line_for path version) (map triple lines) ≡ true
  listed y is some = any_map (is_line_for path version) triple lines
      ∙ list_any-from_Any _ lines (start, y, omega arith, is, line_in_range y start is (omega arith) some)

  -- a line for the path and version with another hash
  pub differs : (first y : SumLine) (k : ℕ) → slice_index_or lines start first ≡ first → slice_index_or lines k y ≡ y
      → start ≤ k → k < end → bytes_eq y.hash.now hash ≡ false
      → Differs ≡ check_in (map triple lines) path version hash
  differs first y k is_first is low high other =
      let found : list_any (is_other_hash path version hash) (map triple lines) ≡ true =
      any_map (is_other_hash path version hash) triple lines
      ∙ list_any-from_Any _ lines (k, y, omega arith, is, and_from _ _ (line_in_range y k is low high) (ap not other)) in
      rw (listed first is_first (omega arith), found) refl

  whole : (y : SumLine) → is_line_for path version (triple y) ≡ true → bytes_eq y.hash.now hash ≡ true → triple y ≡ (path, version, hash)
  whole y for same = line_for path version (triple y) for ∙ ap (λ h. (path, version, h)) ((bytes_eq-Decides y.hash.now hash).0 same)

  -- between two lines with this hash there is no other
  pub good : (first last : SumLine) → AreInOrder lines → start < end → slice_index_or lines start first ≡ first
      → slice_index_or lines (end - 1) last ≡ last → bytes_eq first.hash.now hash ≡ true
      → bytes_eq last.hash.now hash ≡ true → Good ≡ check_in (map triple lines) path version hash
  good first last order some is_first is_last same_first same_last =
      let first_is : triple first ≡ (path, version, hash) = whole first (line_in_range first start is_first (omega arith) some) same_first in
      let last_is : triple last ≡ (path, version, hash) = whole last (line_in_range last (end - 1) is_last (omega arith) (omega arith)) same_last in
      let none : list_any (is_other_hash path version hash) (map triple lines) ≡ false =
      any_map (is_other_hash path version hash) triple lines ∙ false_from_ne_true _ (λ e.
      let (at, y, below, is, differs) = Any-from_list_any (λ line. is_other_hash path version hash (triple line)) lines e in
      let (k, low, high, there) = found_at y (at, below, is) (first_so _ _ differs) in
      let at_first : slice_index_or lines start y ≡ first = get_or_default lines start y first (omega arith) ∙ is_first in
      let at_last : slice_index_or lines (end - 1) y ≡ last = get_or_default lines (end - 1) y last (omega arith) ∙ is_last in
      let is_below : SumLine → SumLine → Bool = λ a b. is_lt (line_cmp (triple a) (triple b)) in
      let far = sorted_far is_below (ranks_by line_total triple) lines order in
      let up : is_below y first ≡ false = ap₂ is_below (sym there) (sym at_first) ∙ far start k y low (omega arith) in
      let down : is_below last y ≡ false =
      ap₂ is_below (sym at_last) (sym there) ∙ far k (end - 1) y (omega arith) (omega arith) in
      let even : line_cmp (triple y) (path, version, hash) ≡ Equal =
      Equal-from_neither _ _ (line_total.antisymm (triple y) (path, version, hash))
      (ap (λ t. is_lt (line_cmp (triple y) t)) (sym first_is) ∙ up) (ap (λ t. is_lt (line_cmp t (triple y))) (sym last_is) ∙ down) in
      let hash_even = then_second _ (slice_cmp nat_cmp y.hash.now hash) (then_second (slice_cmp nat_cmp y.path.now path) _ even) in
      other_apart path version hash (triple y) differs (slice_cmp-same y.hash.now hash hash_even)) in
      rw (listed first is_first some, none) refl
