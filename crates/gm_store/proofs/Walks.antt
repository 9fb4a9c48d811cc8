-- The state of a walk through folders.
use Rattle.std.proofs.Common.{◌≡◌, ◌+◌, ◌-◌, ◌≤◌, ◌<◌, ◌^◌, ◌⊎◌, inl, inr, min, ℕ, false, true, zero, suc, List, [], ◌∷◌, ◌++◌, length, Option, Some, None, ap, ◌∙◌, sym, refl, subst, arith, IsSome, length-append}
use Rattle.std.specs.Prelude.{IfNone, slice_get}
use Rattle.std.specs.Option.{option_map}
use Rattle.gm_store_parts.specs.declared.files.Answer.{Answer}
use Rattle.std.specs.List.{count_by}
use Rattle.std.proofs.lemmas.Bool.{cases_lt}
use Rattle.std.proofs.lemmas.List.Sums.{sum_by-append}
use Rattle.gm_store_parts.specs.declared.fallback.proxy_list.Mark.{Mark}
use Rattle.gm_store_parts.specs.declared.fallback.proxy_list.Mark.TheVariants.{Comma, Bar}
use Rattle.gm_store_parts.specs.declared.fallback.step.Next.{Next}
use Rattle.gm_store_parts.specs.declared.fallback.step.Next.TheVariants.{Take, Go}
use Rattle.gm_store_parts.specs.Asked.{Reply, reply_of}
use Rattle.gm_store_parts.specs.Steps.{AreCounted, Counts, HasCounted, MayStop, Seen, absent, counted_up, failed, found, has_failed, outcome_of, step_of, too_long}

-- the request fell back from the first `at` folders; `passed` has the results there, which are counted
pub record HasPassed (may_find : ℕ → Seen → Type 0) (marks : List Mark) (at : ℕ) (old new : Counts) : Type 0 where
  pub passed : List Seen
  pub many : length passed ≡ at
  pub within : at ≤ length marks
  pub seen : (k : ℕ) (look : Seen) → slice_get passed k ≡ Some look → may_find k look
  pub goes : (k : ℕ) (look : Seen) → slice_get passed k ≡ Some look → step_of look (slice_get marks k) ≡ Go
  pub counted : AreCounted passed old new

counted-more : (old a b : ℕ) → counted_up (counted_up old a) b ≡ counted_up old (a + b)
counted-more old a b = omega arith

-- a property of the elements of a list with one more element
get_more : (xs : List Seen) (y : Seen) (P : ℕ → Seen → Type 0) → ((k : ℕ) (x : Seen) → slice_get xs k ≡ Some x → P k x)
    → P (length xs) y → (k : ℕ) (x : Seen) → slice_get (xs ++ y ∷ []) k ≡ Some x → P k x
get_more [] y P old here zero x e = let same : y ≡ x = cc e in subst (P 0) same here
get_more [] y P old here (suc k) x e = cc e
get_more (z ∷ xs) y P old here zero x e = old zero x e
get_more (z ∷ xs) y P old here (suc k) x e = get_more xs y (λ k x. P (suc k) x) (λ k x. old (suc k) x) here k x e

-- `step` falls back only if a mark follows
pub go_marked : (look : Seen) (mark : Option Mark) → step_of look mark ≡ Go → IsSome mark
go_marked look (Some mark) e = refl
go_marked (found content) None e = cc e
go_marked too_long None e = cc e
go_marked absent None e = cc e
go_marked failed None e = cc e

get_within : (marks : List Mark) (k : ℕ) → IsSome (slice_get marks k) → k < length marks
get_within [] k e = cc e
get_within (m ∷ ms) zero e = omega arith
get_within (m ∷ ms) (suc k) e = let rest = get_within ms k e in omega arith

-- some lookups are counted, and then more
counted_both : (xs ys : List Seen) (old mid new : Counts) → AreCounted xs old mid → AreCounted ys mid new → AreCounted (xs ++ ys) old new
counted_both xs ys old mid new one two = (
  two.0 ∙ ap (λ n. counted_up n (length ys)) one.0 ∙ counted-more old.lookups _ _ ∙ ap (counted_up old.lookups) (sym (length-append xs ys)),
  two.1 ∙ ap (λ n. counted_up n (count_by has_failed ys)) one.1 ∙ counted-more old.failures _ _ ∙ ap (counted_up old.failures) (sym (sum_by-append _ xs ys)),
)

-- the request falls back from one more folder
pub HasPassed-one_more : (may_find : ℕ → Seen → Type 0) (marks : List Mark) (at : ℕ) (old new newer : Counts)
    (look : Seen) → HasPassed may_find marks at old new
    → may_find at look → Go ≡ step_of look (slice_get marks at) → AreCounted (look ∷ []) new newer → HasPassed may_find marks (at + 1) old newer
HasPassed-one_more may_find marks at old new newer look so_far seen goes grown = record {
  passed = so_far.passed ++ look ∷ [];
  many = length-append so_far.passed (look ∷ []) ∙ ap (λ n. n + 1) so_far.many;
  within = let marked = get_within marks at (go_marked look (slice_get marks at) (sym goes)) in omega arith;
  seen = get_more so_far.passed look may_find so_far.seen (subst (λ k. may_find k look) (sym so_far.many) seen);
  goes = get_more so_far.passed look (λ k look. step_of look (slice_get marks k) ≡ Go) so_far.goes
      (ap (λ k. step_of look (slice_get marks k)) so_far.many ∙ sym goes);
  counted = counted_both so_far.passed (look ∷ []) old new newer so_far.counted grown;
}

-- the walk stops
pub walk_ends : (may_find : ℕ → Seen → Type 0) (marks : List Mark) (at : ℕ) (old new newer : Counts) (look : Seen)
    (next : Next) (outcome : Option Reply) → HasPassed may_find marks at old new
    → may_find at look → next ≡ step_of look (slice_get marks at) → (next ≡ Go → ⊥) → outcome ≡ outcome_of look next → AreCounted (look ∷ []) new newer
    → (failures : ℕ) × MayStop may_find marks outcome failures × (newer.failures ≡ counted_up old.failures failures)
walk_ends may_find marks at old new newer look next outcome so_far seen stops ends answers grown =
    let here : step_of look (slice_get marks (length so_far.passed)) ≡ next = ap (λ k. step_of look (slice_get marks k)) so_far.many ∙ sym stops in (
      count_by has_failed (so_far.passed ++ look ∷ []),
      (
        so_far.passed ++ look ∷ [],
        get_more so_far.passed look may_find so_far.seen (subst (λ k. may_find k look) (sym so_far.many) seen),
        record {
          passed = so_far.passed;
          last = look;
          rest = [];
          in_order = refl;
          goes = so_far.goes;
          stops = λ e. ends (sym here ∙ e);
          answers = answers ∙ ap (outcome_of look) (sym here);
          counted = refl;
        },
      ),
      (counted_both so_far.passed (look ∷ []) old new newer so_far.counted grown).1,
    )

outcome_there : (look : Seen) (mark : Option Mark) (answer : Option Reply) → (step_of look mark ≡ Go → ⊥)
    → (has_failed look ≡ false → answer ≡ outcome_of look Take) → (has_failed look ≡ true → answer ≡ None) → answer ≡ outcome_of look (step_of look mark)
outcome_there (found content) mark answer ends taken lost = taken refl
outcome_there too_long mark answer ends taken lost = taken refl
outcome_there absent (Some mark) answer ends taken lost = absurd (ends refl)
outcome_there absent None answer ends taken lost = taken refl
outcome_there failed (Some Bar) answer ends taken lost = absurd (ends refl)
outcome_there failed (Some Comma) answer ends taken lost = lost refl
outcome_there failed None answer ends taken lost = lost refl

-- without an answer, the device failed
pub unanswered : (answer : Option Answer) (look : Seen) (P : Type 0)
    → (has_failed look ≡ false → option_map reply_of answer ≡ outcome_of look Take) → (has_failed look ≡ true → P)
    → IfNone answer P
unanswered (Some answer) look P taken lost = tt
unanswered None (found content) P taken lost = cc (taken refl)
unanswered None too_long P taken lost = cc (taken refl)
unanswered None absent P taken lost = cc (taken refl)
unanswered None failed P taken lost = lost refl

-- the answer to a request is that of the result at which the walk ends, or none if the device failed there
pub walk_outcome : (look : Seen) (mark : Option Mark) (next : Next) (answer : Option Reply) → next ≡ step_of look mark → (next ≡ Go → ⊥)
    → (has_failed look ≡ false → answer ≡ outcome_of look Take) → (has_failed look ≡ true → answer ≡ None) → answer ≡ outcome_of look next
walk_outcome look mark next answer is ends taken lost = outcome_there look mark answer (λ e. ends (is ∙ e)) taken lost ∙ ap (outcome_of look) (sym is)

pub none_passed : (may_find : ℕ → Seen → Type 0) (marks : List Mark) (old : Counts) → old.lookups < 2 ^ 64
    → old.failures < 2 ^ 64 → HasPassed may_find marks 0 old old
none_passed may_find marks old few small = record {
  passed = [];
  many = refl;
  within = omega arith;
  seen = λ k look e. cc e;
  goes = λ k look e. cc e;
  counted = (omega arith, omega arith);
}

min-above : (m old new n : ℕ) → new ≡ min (min (old + n) m + 1) m → old ≤ m → (old < new) ⊎ (old ≡ m)
min-above m old new n e h = elim (cases_lt old m) [ inl less ↦ inl (omega arith) | inr more ↦ inr (omega arith) ]

-- a failure of the device at which the walk stops is counted
pub fail_counts : (look : Seen) (old new newer : Counts) (at : ℕ) {may_find : ℕ → Seen → Type 0} {marks : List Mark} → HasPassed may_find marks at old new
    → has_failed look ≡ true → AreCounted (look ∷ []) new newer → old.failures < 2 ^ 64 → (old.failures < newer.failures) ⊎ (old.failures ≡ 2 ^ 64 - 1)
fail_counts failed old new newer at so_far fails grown small =
    min-above (2 ^ 64 - 1) old.failures newer.failures (count_by has_failed so_far.passed)
    (grown.1 ∙ ap (λ n. min (n + 1) (2 ^ 64 - 1)) so_far.counted.1) (omega arith)
fail_counts (found content) old new newer at so_far fails grown small = cc fails
fail_counts too_long old new newer at so_far fails grown small = cc fails
fail_counts absent old new newer at so_far fails grown small = cc fails

-- ---- what was counted

-- memory ran out in a lookup
pub passed_counts : {may_find : ℕ → Seen → Type 0} {marks : List Mark} {at : ℕ} {old new : Counts}
    → HasPassed may_find marks at old new → HasCounted may_find marks old new
passed_counts so_far = (
  so_far.passed,
  record {
    possible = so_far.seen;
    fell_back = λ k look e more. so_far.goes k look e;
  },
  so_far.counted,
)

-- an element before the last one
get_before : (p : List Seen) (x : Seen) (k : ℕ) (look : Seen) → slice_get (p ++ x ∷ []) k ≡ Some look → k + 1 < length (p ++ x ∷ []) → slice_get p k ≡ Some look
get_before [] x k look e more = let less : k + 1 < 1 = more in absurd (omega arith)
get_before (a ∷ p) x zero look e more = e
get_before (a ∷ p) x (suc k) look e more = let less : suc k + 1 < suc (length (p ++ x ∷ [])) = more in get_before p x k look e (omega arith)

-- the walk stopped
pub stop_counts : (may_find : ℕ → Seen → Type 0) (marks : List Mark) (at : ℕ) (old new newer : Counts) (look : Seen)
    → HasPassed may_find marks at old new → may_find at look
    → AreCounted (look ∷ []) new newer → HasCounted may_find marks old newer
stop_counts may_find marks at old new newer look so_far seen grown = (
  so_far.passed ++ look ∷ [],
  record {
    possible = get_more so_far.passed look may_find so_far.seen (subst (λ k. may_find k look) (sym so_far.many) seen);
    fell_back = λ k back e more. so_far.goes k back (get_before so_far.passed look k back e more);
  },
  counted_both so_far.passed (look ∷ []) old new newer so_far.counted grown,
)
