-- The steps of a sweep over intervals.
use Rattle.std.proofs.Common.{◌≡◌, ◌∙◌, ◌+◌, ◌<◌, ◌&&◌, ◌||◌, zero, suc, ℕ, Bool, true, false, List, [], ◌∷◌, ◌++◌, take, drop, length, slice_index_or, Option, Some, Contains, ap, ap₂, sym, refl, arith, add-one, append-nil}
use Rattle.std.proofs.Math.Seq.{take-suc, drop-cons}
use Rattle.std.proofs.lemmas.Bool.{and_from}
use Rattle.std.proofs.lemmas.List.Elements.{filter-append}
use Rattle.std.proofs.lemmas.List.Folds.{list_all_more, list_any-append}
use Rattle.std.specs.List.Sorted.{IsStrictlySortedBy}
use Rattle.std.specs.List.{AllByRecursion, list_all, list_any}
use Rattle.std.specs.declared.cmp.Ordering.TheVariants.{Less}
use Rattle.gm_version.specs.Version.{version_cmp}
use Rattle.gm_file.specs.Directives.{VersionInterval}
use Rattle.gm_file.specs.Shown.{holds_version, is_retracted, is_at_most, shown_of}
use Rattle.gm_file.specs.Private.Swept.{AreAllSwept, AreSorted, AreSwept, Ascend, is_reached}
use Rattle.gm_file.proofs.Ascending.{upto_less, upto_trans}
use Rattle.gm_name.proofs.Logic.{or-false}

taken_more : (ps : List VersionInterval) (n : ℕ) (d : VersionInterval) → n < length ps → take (n + 1) ps ≡ take n ps ++ slice_index_or ps n d ∷ []
taken_more ps n d within = rw (add-one _) (take-suc ps _ _ within)

-- after one more interval, which begins at the version or before
pub swept_more : (ps : List VersionInterval) (v : List ℕ) (n : ℕ) (reach : Option (List ℕ)) (p : VersionInterval)
    (high : List ℕ) → AreSwept ps v n reach → n < length ps
    → p ≡ slice_index_or ps n p → is_at_most p.0 v ≡ true → ((w : List ℕ) → is_at_most w high ≡ (is_reached w reach || is_at_most w p.1))
    → AreSwept ps v (n + 1) (Some high)
swept_more ps v n reach p high swept within item begins far = record {
  within = omega arith;
  begun = list_all_more _ _ _ _ within ∙ and_from _ _ swept.begun (rw item at begins);
  reached = λ w. far w ∙ ap₂ (λ (x y : Bool). x || y) (swept.reached w) (ap (λ (q : VersionInterval). is_at_most w q.1) item ∙ sym (or-false _))
      ∙ sym (list_any-append (λ (ends : VersionInterval). is_at_most w ends.1) (take n ps) (slice_index_or ps n p ∷ []))
      ∙ ap (list_any (λ (ends : VersionInterval). is_at_most w ends.1)) (sym (taken_more _ _ p within));
}

all_later : (v w : List ℕ) → is_at_most v w ≡ true → (qs : List VersionInterval) → list_all (λ (ends : VersionInterval). is_at_most ends.0 v) qs ≡ true
    → list_all (λ (ends : VersionInterval). is_at_most ends.0 w) qs ≡ true
all_later v w order [] begun = refl
all_later v w order (q ∷ qs) begun =
    let parts = split _ _ begun in
    and_from _ _ (upto_trans q.0 v w parts.0 order) (all_later v w order qs parts.1)
  where
    split : (a b : Bool) → (a && b) ≡ true → (a ≡ true) × (b ≡ true)
    split true true e = (e, e)
    split true false e = cc e
    split false b e = cc e

-- the state remains valid for a later version
pub swept_later : {ps : List VersionInterval} {v w : List ℕ} {n : ℕ} {reach : Option (List ℕ)} → AreSwept ps v n reach
    → version_cmp v w ≡ Less → AreSwept ps w n reach
swept_later {ps} {v} {w} {n} swept less = record {
  within = swept.within;
  begun = all_later v w (upto_less v w less) (take n ps) swept.begun;
  reached = swept.reached;
}

-- if all intervals begin at the version or before, one contains the version exactly if one ends at it or later
held_begun : (v : List ℕ) (qs : List VersionInterval) → list_all (λ (ends : VersionInterval). is_at_most ends.0 v) qs ≡ true
    → list_any (holds_version v) qs ≡ list_any (λ (ends : VersionInterval). is_at_most v ends.1) qs
held_begun v [] begun = refl
held_begun v (q ∷ qs) begun = first _ _ _ (list_any (holds_version v) qs)
    (list_any (λ (ends : VersionInterval). is_at_most v ends.1) qs) begun (held_begun v qs)
  where
    first : (low high all some reached : Bool) → (low && all) ≡ true → (all ≡ true → some ≡ reached) → ((low && high) || some) ≡ (high || reached)
    first true high true some reached e same = rw (same refl)
    first true high false some reached e same = cc e
    first false high all some reached e same = cc e

-- if the first interval begins after the version, all do, and none contains it
late_all : (v low : List ℕ) → is_at_most low v ≡ false → (qs : List VersionInterval)
    → AllByRecursion (λ (other : VersionInterval). is_at_most low other.0 ≡ true) qs
    → list_any (holds_version v) qs ≡ false
late_all v low late [] above = refl
late_all v low late (q ∷ qs) above = first (is_at_most q.0 v) (is_at_most v q.1) _ (late_all v low late qs above.1)
    (λ begins. let e : true ≡ false = sym (upto_trans low q.0 v above.0 begins) ∙ late in cc)
  where
    first : (low high some : Bool) → some ≡ false → (low ≡ true → ⊥) → ((low && high) || some) ≡ false
    first true high some e not_begun = absurd (not_begun refl)
    first false high some e not_begun = e

late_rest : (v : List ℕ) (qs : List VersionInterval) → Ascend qs
    → ((d : VersionInterval) → 0 < length qs → is_at_most (slice_index_or qs 0 d).0 v ≡ false)
    → list_any (holds_version v) qs ≡ false
late_rest v [] ascend late = refl
late_rest v (q ∷ qs) ascend late = first _ _ _ (late q (omega arith)) (late_all v q.0 (late q (omega arith)) _ ascend.0)
  where
    first : (low high some : Bool) → low ≡ false → some ≡ false → ((low && high) || some) ≡ false
    first true high some e f = cc e
    first false high some e f = f

ascend_drop : (ps : List VersionInterval) (n : ℕ) → Ascend ps → Ascend (drop n ps)
ascend_drop ps zero ascend = ascend
ascend_drop [] (suc n) ascend = tt
ascend_drop (p ∷ ps) (suc n) ascend = ascend_drop ps n ascend.1

late_drop : (v : List ℕ) (ps : List VersionInterval) (n : ℕ) → ((d : VersionInterval) → n < length ps → is_at_most (slice_index_or ps n d).0 v ≡ false)
    → (d : VersionInterval) → 0 < length (drop n ps) → is_at_most (slice_index_or (drop n ps) 0 d).0 v ≡ false
late_drop v ps zero late d within = late d within
late_drop v [] (suc n) late d within = absurd (omega arith)
late_drop v (p ∷ ps) (suc n) late d within = late_drop v ps n (λ e inside. late e (omega arith)) d within

any_take_drop : (v : List ℕ) (ps : List VersionInterval) (n : ℕ)
    → list_any (holds_version v) ps ≡ (list_any (holds_version v) (take n ps) || list_any (holds_version v) (drop n ps))
any_take_drop v ps zero = refl
any_take_drop v [] (suc n) = refl
any_take_drop v (p ∷ ps) (suc n) = rw (any_take_drop v ps n) (grouped (holds_version v p) _ _)
  where
    grouped : (a b c : Bool) → (a || (b || c)) ≡ ((a || b) || c)
    grouped true b c = refl
    grouped false b c = refl

-- an interval contains the version exactly if the highest end is not below it
pub held_is : {ps : List VersionInterval} {v : List ℕ} {n : ℕ} {reach : Option (List ℕ)} → Ascend ps
    → AreAllSwept ps v n reach → is_retracted ps v ≡ is_reached v reach
held_is {ps} {v} {n} ascend all =
    any_take_drop v ps n ∙ ap₂ (λ (x y : Bool). x || y) (held_begun v (take n ps) all.swept.begun ∙ sym (all.swept.reached v))
    (late_rest v _ (ascend_drop _ _ ascend) (late_drop v _ _ all.ended)) ∙ or-false _

-- ---- the loop over the versions

drop_here : (vs : List (List ℕ)) (i : ℕ) (v : List ℕ) → i < length vs → v ≡ slice_index_or vs i v → drop i vs ≡ v ∷ drop (i + 1) vs
drop_here vs i v within item = drop-cons vs _ _ within ∙ ap₂ (λ (x : List ℕ) (xs : List (List ℕ)). x ∷ xs) (sym item) (rw (← (add-one _)))

-- the state is valid for each version that remains
abbrev pub ReadyFor : List VersionInterval → List (List ℕ) → ℕ → Option (List ℕ) → Type 0
ReadyFor ps left n reach = (w : List ℕ) → Contains left w → AreSwept ps w n reach

pub ready_here : (ps : List VersionInterval) (vs : List (List ℕ)) (i : ℕ) (v : List ℕ) (n : ℕ) (reach : Option (List ℕ)) → i < length vs
    → v ≡ slice_index_or vs i v → ReadyFor ps (drop i vs) n reach → AreSwept ps v n reach
ready_here ps vs i v n reach within item ready = ready _ (rw (drop_here _ _ _ within item) (0, omega arith, refl))

above_all : (v w : List ℕ) (left : List (List ℕ)) → AllByRecursion (λ (y : List ℕ). version_cmp v y ≡ Less) left → Contains left w → version_cmp v w ≡ Less
above_all v w [] above inside = let none : inside.0 < 0 = inside.1 in absurd (omega arith)
above_all v w (x ∷ left) above (zero, within, is) = rw is at above.0
above_all v w (x ∷ left) above (suc k, within, is) = above_all v w left above.1 (k, omega arith, is)

pub sorted_rest : (vs : List (List ℕ)) (i : ℕ) (v : List ℕ) → i < length vs → v ≡ slice_index_or vs i v
    → IsStrictlySortedBy version_cmp (drop i vs) → IsStrictlySortedBy version_cmp (drop (i + 1) vs)
unfolding IsStrictlySortedBy
sorted_rest vs i v within item sorted =
    let here : IsStrictlySortedBy version_cmp (v ∷ drop (i + 1) vs) = rw (drop_here _ _ _ within item) at sorted in
    here.1

pub ready_rest : (ps : List VersionInterval) (vs : List (List ℕ)) (i : ℕ) (v : List ℕ) (n : ℕ) (reach : Option (List ℕ)) → i < length vs
    → v ≡ slice_index_or vs i v → IsStrictlySortedBy version_cmp (drop i vs) → AreSwept ps v n reach → ReadyFor ps (drop (i + 1) vs) n reach
unfolding IsStrictlySortedBy
ready_rest ps vs i v n reach within item sorted swept =
    let here : IsStrictlySortedBy version_cmp (v ∷ drop (i + 1) vs) = rw (drop_here _ _ _ within item) at sorted in
    λ w inside. swept_later swept (above_all v _ _ here.0 inside)

taken : (vs : List (List ℕ)) (i : ℕ) (v : List ℕ) → i < length vs → v ≡ slice_index_or vs i v → take (i + 1) vs ≡ take i vs ++ v ∷ []
taken vs i v within item = rw (add-one _) (take-suc vs _ _ within ∙ ap (λ (x : List ℕ). take i vs ++ x ∷ []) (sym item))

-- the version is shown if it is above the highest end, and left out otherwise
module _ (ps intervals : List VersionInterval) (sorted : AreSorted ps intervals) (vs : List (List ℕ)) (i : ℕ)
    (v : List ℕ) (within : i < length vs) (item : v ≡ slice_index_or vs i v) (n : ℕ) (reach : Option (List ℕ))
    (all : AreAllSwept ps v n reach) (reached : Bool) (is : reached ≡ is_reached v reach) where
  held_here : is_retracted intervals v ≡ reached
  held_here = sym (sorted.same v) ∙ held_is sorted.ascend all ∙ sym is

  pub shown_more : reached ≡ false → shown_of intervals (take (i + 1) vs) ≡ shown_of intervals (take i vs) ++ v ∷ []
  shown_more not_reached = rw (taken _ _ _ within item) (filter-append _ (take i vs) (v ∷ []) ∙ rw (held_here ∙ not_reached))

  pub shown_same : reached ≡ true → shown_of intervals (take (i + 1) vs) ≡ shown_of intervals (take i vs)
  shown_same was_reached = rw (taken _ _ _ within item) (filter-append _ (take i vs) (v ∷ []) ∙ rw (held_here ∙ was_reached) (append-nil _))
