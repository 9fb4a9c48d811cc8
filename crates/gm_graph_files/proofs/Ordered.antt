-- Files whose own lists are in order.
use Rattle.std.proofs.Common.{◌≤◌, ◌++◌, ◌∷◌, [], ℕ, List, None, Option, Some, arith, map}
use Rattle.std.proofs.lemmas.List.{map-append}
use Rattle.gm_graph_files.specs.declared.summary.Kept.{Kept}
use Rattle.gm_graph_files.specs.declared.summary.ListSpan.{ListSpan}
use Rattle.gm_graph_files.specs.Summaries.{own_span}
use Rattle.gm_graph_files.specs.KeptFiles.{AreListsInOrder, AreSpansInOrder}

-- where the own list of each file is
abbrev pub own_spans : List Kept → List (Option ListSpan)
own_spans files = map own_span files

pub order_longer : (from : ℕ) (spans : List (Option ListSpan)) (to more : ℕ) → to ≤ more → AreSpansInOrder from spans to
    → AreSpansInOrder from spans more
order_longer from [] to more grows are = omega (arith, grows, are)
order_longer from (Some span ∷ spans) to more grows are = (are.0, are.1, order_longer span.end spans to more grows are.2)
order_longer from (None ∷ spans) to more grows are = order_longer from spans to more grows are

pub order_from : (lower from : ℕ) (spans : List (Option ListSpan)) (to : ℕ) → lower ≤ from → AreSpansInOrder from spans to
    → AreSpansInOrder lower spans to
order_from lower from [] to under are = omega (arith, under, are)
order_from lower from (Some span ∷ spans) to under are = (omega (arith, under, are.0), are.1, are.2)
order_from lower from (None ∷ spans) to under are = order_from lower from spans to under are

-- one span more
spans_push : (from : ℕ) (spans : List (Option ListSpan)) (mid : ℕ) (own : Option ListSpan) (to : ℕ) → AreSpansInOrder from spans mid
    → AreSpansInOrder mid (own ∷ []) to → AreSpansInOrder from (spans ++ own ∷ []) to
spans_push from [] mid own to are last = order_from from mid (own ∷ []) to are last
spans_push from (Some span ∷ spans) mid own to are last = (are.0, are.1, spans_push span.end spans mid own to are.2 last)
spans_push from (None ∷ spans) mid own to are last = spans_push from spans mid own to are last

-- one file more
pub order_push : (from : ℕ) (files : List Kept) (mid : ℕ) (one : Kept) (to : ℕ) → AreListsInOrder from files mid
    → AreListsInOrder mid (one ∷ []) to → AreListsInOrder from (files ++ one ∷ []) to
order_push from files mid one to are last =
    rw map-append (spans_push from (own_spans files) mid (own_span one) to are last)
