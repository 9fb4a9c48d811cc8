-- A lookup in several folders stops at exactly one of them, so it has one outcome.
use Rattle.std.proofs.Common.{◌≡◌, ◌≢◌, ℕ, zero, suc, List, [], ◌∷◌, ◌++◌, length, Option, Some, None, ap, ◌∙◌, sym, refl, arith}
use Rattle.std.specs.List.{count_by}
use Rattle.std.specs.Prelude.{slice_get}
use Rattle.gm_store_parts.specs.declared.fallback.proxy_list.Mark.{Mark}
use Rattle.gm_store_parts.specs.declared.fallback.step.Next.{Next}
use Rattle.gm_store_parts.specs.declared.fallback.step.Next.TheVariants.{Take, Go, Fail}
use Rattle.gm_store_parts.specs.Asked.{Reply}
use Rattle.gm_store_parts.specs.Openings.{Opening}
use Rattle.gm_store_parts.specs.Steps.{Seen, StopsAt, absent, failed, found, has_failed, outcome_of, step_of, too_long}
use Rattle.gm_store.specs.DiskAnswers.{DeviceFailsByAFile}
use Rattle.gm_store.specs.FolderLookups.{lookup_results}
use Rattle.gm_store.specs.Stops.{OutcomeExists, OutcomeIsUnique, OutcomeFollowsContents}

-- ---- it stops at one folder at most

same_stop : (p q : List Seen) (x y : Seen) (r s : List Seen) (mark : ℕ → Option Mark) → p ++ x ∷ r ≡ q ++ y ∷ s
    → ((k : ℕ) (look : Seen) → slice_get p k ≡ Some look → step_of look (mark k) ≡ Go)
    → ((k : ℕ) (look : Seen) → slice_get q k ≡ Some look → step_of look (mark k) ≡ Go)
    → (step_of x (mark (length p)) ≢ Go) → (step_of y (mark (length q)) ≢ Go) → (p ≡ q) × (x ≡ y)
same_stop [] [] x y r s mark e goes goes' stops stops' = (refl, cc e)
same_stop [] (b ∷ q) x y r s mark e goes goes' stops stops' =
    let same : x ≡ b = cc e in
    absurd (stops (ap (λ look. step_of look (mark 0)) same ∙ goes' 0 b refl))
same_stop (a ∷ p) [] x y r s mark e goes goes' stops stops' =
    let same : a ≡ y = cc e in
    absurd (stops' (ap (λ look. step_of look (mark 0)) (sym same) ∙ goes 0 a refl))
same_stop (a ∷ p) (b ∷ q) x y r s mark e goes goes' stops stops' =
    let first : a ≡ b = cc e in
    let others : p ++ x ∷ r ≡ q ++ y ∷ s = cc e in
    let rest = same_stop p q x y r s (λ k. mark (suc k)) others (λ k. goes (suc k)) (λ k. goes' (suc k)) stops stops' in
    (ap (λ c. c ∷ p) first ∙ ap (λ c. b ∷ c) rest.0, rest.1)

pub one_stop : OutcomeIsUnique
one_stop looks marks one other failures others a b =
    let same = same_stop a.passed b.passed a.last b.last a.rest b.rest (slice_get marks) (sym a.in_order ∙ b.in_order) a.goes b.goes a.stops b.stops in (
      a.answers ∙ ap (λ p. outcome_of a.last (step_of a.last (slice_get marks (length p)))) same.0
          ∙ ap (λ x. outcome_of x (step_of x (slice_get marks (length b.passed)))) same.1 ∙ sym b.answers,
      a.counted ∙ ap (λ p. count_by has_failed (p ++ a.last ∷ [])) same.0 ∙ ap (λ x. count_by has_failed (b.passed ++ x ∷ [])) same.1 ∙ sym b.counted,
    )

-- ---- over folders in memory the outcome is that of the results in all folders

begins : (p : List Seen) (x : Seen) (r looks : List Seen)
    → ((k : ℕ) (look : Seen) → slice_get (p ++ x ∷ r) k ≡ Some look → slice_get looks k ≡ Some look)
    → (rest : List Seen) × (looks ≡ p ++ x ∷ rest)
begins [] x r [] h = absurd (cc (h 0 x refl))
begins [] x r (y ∷ looks) h = let same : y ≡ x = cc (h 0 x refl) in (looks, ap (λ c. c ∷ looks) same)
begins (a ∷ p) x r [] h = absurd (cc (h 0 a refl))
begins (a ∷ p) x r (y ∷ looks) h =
    let same : y ≡ a = cc (h 0 a refl) in
    let later = begins p x r looks (λ k look e. h (suc k) look e) in
    (later.0, ap (λ c. c ∷ looks) same ∙ ap (λ c. a ∷ c) later.1)

pub held_stop : OutcomeFollowsContents
held_stop folders name marks outcome failures (looks, seen, stop) =
    let whole = begins stop.passed stop.last stop.rest (lookup_results folders name)
    (λ k look e. seen k look (ap (λ looks. slice_get looks k) stop.in_order ∙ e)) in
    record {
      passed = stop.passed;
      last = stop.last;
      rest = whole.0;
      in_order = whole.1;
      goes = stop.goes;
      stops = stop.stops;
      answers = stop.answers;
      counted = stop.counted;
    }

-- ---- it stops if a folder follows each mark

stop_here : (look : Seen) (looks : List Seen) (marks : List Mark) → (step_of look (slice_get marks 0) ≢ Go)
    → (outcome : Option Reply) × (failures : ℕ) × StopsAt (look ∷ looks) marks outcome failures
stop_here look looks marks stops = (
  outcome_of look (step_of look (slice_get marks 0)),
  count_by has_failed (look ∷ []),
  record {
    passed = [];
    last = look;
    rest = looks;
    in_order = refl;
    goes = λ k seen e. cc e;
    stops = stops;
    answers = refl;
    counted = refl;
  },
)

pub unmarked : (look : Seen) → step_of look None ≢ Go
unmarked (found content) e = cc e
unmarked too_long e = cc e
unmarked absent e = cc e
unmarked failed e = cc e

passes : (look : Seen) (looks : List Seen) (mark : Mark) (marks : List Mark) → step_of look (Some mark) ≡ Go → (k : ℕ) (seen : Seen) (passed : List Seen)
    → ((k : ℕ) (seen : Seen) → slice_get passed k ≡ Some seen → step_of seen (slice_get marks k) ≡ Go)
    → slice_get (look ∷ passed) k ≡ Some seen → step_of seen (slice_get (mark ∷ marks) k) ≡ Go
passes look looks mark marks goes zero seen passed rest e = let same : look ≡ seen = cc e in ap (λ c. step_of c (Some mark)) (sym same) ∙ goes
passes look looks mark marks goes (suc k) seen passed rest e = rest k seen e

stop_later : (look : Seen) (looks : List Seen) (mark : Mark) (marks : List Mark) (next : Next) → step_of look (Some mark) ≡ next
    → (outcome : Option Reply) × (failures : ℕ) × StopsAt looks marks outcome failures
    → (outcome : Option Reply) × (failures : ℕ) × StopsAt (look ∷ looks) (mark ∷ marks) outcome failures
stop_later look looks mark marks Take is later = stop_here look looks (mark ∷ marks) (λ e. cc (sym is ∙ e))
stop_later look looks mark marks Fail is later = stop_here look looks (mark ∷ marks) (λ e. cc (sym is ∙ e))
stop_later look looks mark marks Go is (outcome, failures, stop) = (
  outcome,
  count_by has_failed (look ∷ (stop.passed ++ stop.last ∷ [])),
  record {
    passed = look ∷ stop.passed;
    last = stop.last;
    rest = stop.rest;
    in_order = ap (λ c. look ∷ c) stop.in_order;
    goes = λ k seen e. passes look looks mark marks is k seen stop.passed stop.goes e;
    stops = stop.stops;
    answers = stop.answers;
    counted = refl;
  },
)

pub some_stop : OutcomeExists
some_stop [] marks within = absurd (omega arith)
some_stop (look ∷ looks) [] within = stop_here look looks [] (unmarked look)
some_stop (look ∷ looks) (mark ∷ marks) within = stop_later look looks mark marks (step_of look (Some mark)) refl (some_stop looks marks (omega arith))

-- ---- it stops without an answer only at a failure

fails_last : (seen : Seen) (mark : Option Mark) → None ≡ outcome_of seen (step_of seen mark) → (step_of seen mark ≢ Go) → seen ≡ failed
fails_last (found content) mark none stops = cc none
fails_last too_long mark none stops = cc none
fails_last absent None none stops = cc none
fails_last absent (Some mark) none stops = absurd (stops refl)
fails_last failed mark none stops = refl

last_look : (passed : List Seen) (last : Seen) (rest : List Seen) → slice_get (passed ++ last ∷ rest) (length passed) ≡ Some last
last_look [] last rest = refl
last_look (look ∷ passed) last rest = last_look passed last rest

pub fails_by_a_file : (may_open : List ℕ → Opening → Type 0) → DeviceFailsByAFile may_open
fails_by_a_file may_open main proxies marks name (failures, (looks, possible, stop)) = (
  length stop.passed,
  possible (length stop.passed) failed
      (ap (λ looks. slice_get looks (length stop.passed)) stop.in_order ∙ last_look stop.passed stop.last stop.rest
      ∙ ap Some (fails_last stop.last _ stop.answers stop.stops)),
)
