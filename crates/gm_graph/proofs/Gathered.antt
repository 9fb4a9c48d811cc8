-- What was found, as sources and as the spans of lists.
use Rattle.std.proofs.Common.{◌≡◌, ◌∙◌, ◌≤◌, ◌<◌, ◌+◌, ◌-◌, ◌++◌, ◌∷◌, [], ℕ, zero, suc, false, List, Option, None, Some, All, Contains, append_assoc, arith, drop, get_or, length, refl, sym, add-zero, zero-add}
use Rattle.std.specs.Prelude.{slice_get}
use Rattle.std.specs.List.{AllByRecursion, IsDistinct, between}
use Rattle.std.proofs.Math.Seq.{drop-cons}
use Rattle.std.proofs.lemmas.List.Elements.{All-drop, All-map, All-take, Contains-get_or}
use Rattle.std.proofs.lemmas.Map.Keys.{apart_from_distinct}
use Rattle.std.proofs.lemmas.Option.{same_Some}
use Rattle.gm_name.specs.ModuleVersion.{ModuleVersion, module_at, pair_eq, pair_ties}
use Rattle.gm_name_table.specs.Listed.{AreModuleNumbers}
use Rattle.gm_graph_cache.specs.declared.cache.parts.CacheParts.{CacheParts}
use Rattle.gm_graph.specs.Private.Findings.{place_at}
use Rattle.gm_graph.specs.Private.Gathering.{AreFilePlaces, source_at, sources_from, gathered_sources, span_after, spans_from, spans_of, steps_by}
use Rattle.gm_graph_select.specs.declared.adjacency.Source.{Source}
use Rattle.gm_graph_select.specs.declared.number_lists.Span.{Span}
use Rattle.gm_graph_select.specs.Adjacency.{IsBelow, StepEdges, by_step, left_by, list_at, same_step}
use Rattle.gm_graph_select.specs.Spans.{AreSpansApart, lists_at, part_at}
use Rattle.gm_graph_select.specs.declared.step.Step.TheVariants.{Main, Of}
use Rattle.gm_graph_select.specs.StepOrder.{step_eq}
use Rattle.gm_graph_files.proofs.Ordered.{own_spans}
use Rattle.gm_graph_files.specs.KeptFiles.{AreSpansInOrder}
use Rattle.gm_graph_files.specs.declared.summary.ListSpan.{ListSpan}
use Rattle.gm_graph_files.specs.declared.summary.Kept.{Kept}

-- ---- the sources

-- the source that the vertex with a number is, whose file is at a place
abbrev pub file_source : ℕ → ℕ → Source
file_source number place = record { from = Some number; list = place + 1 }

there_from : (number : ℕ) (places : List (Option ℕ)) (k place at : ℕ) → place_at places k ≡ Some place → at ≡ number + k
    → Contains (sources_from number places) (file_source at place)
there_from number [] k place at e is = absurd (cc e)
there_from number (None ∷ places) zero place at e is = absurd (cc e)
there_from number (Some other ∷ places) zero place at e is =
    let same : at ≡ number = omega (arith, is) in rw (same, ← same_Some other place e) (0, omega arith, refl)
there_from number (None ∷ places) (suc k) place at e is = there_from (suc number) places k place at e (omega (arith, is))
there_from number (Some other ∷ places) (suc k) place at e is =
    let there = there_from (suc number) places k place at e (omega (arith, is)) in
    (suc there.0, omega (arith, there.1), there.2)

-- Each vertex that has a file is a source.
pub source_there : (places : List (Option ℕ)) (k place : ℕ) → place_at places k ≡ Some place
    → Contains (gathered_sources places) (file_source k place)
source_there places k place e =
    let there = there_from 0 places k place k e (omega arith) in (suc there.0, omega (arith, there.1), there.2)

source_from : (number : ℕ) (places : List (Option ℕ)) (one : Source) → Contains (sources_from number places) one
    → (k : ℕ) × (place : ℕ) × (place_at places k ≡ Some place) × (one ≡ file_source (number + k) place)
source_from number [] one h = absurd (omega (arith, h.1))
source_from number (None ∷ places) one h =
    let (k, place, e, is) = source_from (suc number) places one h in
    let same : suc number + k ≡ number + suc k = omega arith in
    (suc k, place, e, rw⁻¹ same is)
source_from number (Some other ∷ places) one (zero, below, at) = (0, other, refl, rw add-zero (sym at))
source_from number (Some other ∷ places) one (suc i, below, at) =
    let (k, place, e, is) = source_from (suc number) places one (i, omega (arith, below), at) in
    let same : suc number + k ≡ number + suc k = omega arith in
    (suc k, place, e, rw⁻¹ same is)

-- the source that the main module is
abbrev pub main_source : Source
main_source = record { from = None; list = 0 }

-- What the main module has, and each vertex that has a file, each source has.
pub each_source : (P : Source → Type 0) (places : List (Option ℕ)) → P main_source
    → ((k place : ℕ) → place_at places k ≡ Some place → P (file_source k place)) → (one : Source) → Contains (gathered_sources places) one → P one
each_source P places main each one (zero, below, is) = rw⁻¹ is main
each_source P places main each one (suc i, below, at) =
    let (k, place, e, is) = source_from 0 places one (i, omega (arith, below), at) in rw (is, zero-add) (each k place e)

-- ---- no step is twice a source

module _ (modules : List ModuleVersion) (distinct : IsDistinct pair_eq modules) (lists : List (List ℕ)) where
  differ : (lower number : ℕ) → lower < number → number < length modules
      → step_eq (Of (module_at modules lower)) (Of (module_at modules number)) ≡ false
  differ lower number lt below = sym (pair_ties (module_at modules lower) (module_at modules number))
      ∙ apart_from_distinct pair_eq modules lower number ([], []) distinct lt below

  later_differ : (lower number : ℕ) (places : List (Option ℕ)) → lower < number
      → ((k place : ℕ) → place_at places k ≡ Some place → number + k < length modules)
      → AllByRecursion (λ (s : StepEdges). step_eq (Of (module_at modules lower)) (left_by modules s) ≡ false)
      (by_step lists (sources_from number places))
  later_differ lower number [] lt below = tt
  later_differ lower number (None ∷ places) lt below =
      later_differ lower (suc number) places (omega (arith, lt)) (λ k place e. omega (arith, below (suc k) place e))
  later_differ lower number (Some other ∷ places) lt below = (
    differ lower number lt (omega (arith, below 0 other refl)),
    later_differ lower (suc number) places (omega (arith, lt)) (λ k place e. omega (arith, below (suc k) place e)),
  )

  main_differs : (number : ℕ) (places : List (Option ℕ))
      → AllByRecursion (λ (s : StepEdges). step_eq Main (left_by modules s) ≡ false) (by_step lists (sources_from number places))
  main_differs number [] = tt
  main_differs number (None ∷ places) = main_differs (suc number) places
  main_differs number (Some other ∷ places) = (refl, main_differs (suc number) places)

  once_from : (number : ℕ) (places : List (Option ℕ))
      → ((k place : ℕ) → place_at places k ≡ Some place → number + k < length modules)
      → IsDistinct (same_step modules) (by_step lists (sources_from number places))
  unfolding IsDistinct
  once_from number [] below = tt
  once_from number (None ∷ places) below = once_from (suc number) places (λ k place e. omega (arith, below (suc k) place e))
  once_from number (Some other ∷ places) below = (
    later_differ number (suc number) places (omega arith) (λ k place e. omega (arith, below (suc k) place e)),
    once_from (suc number) places (λ k place e. omega (arith, below (suc k) place e)),
  )

  pub sources_once : (places : List (Option ℕ)) → ((k place : ℕ) → place_at places k ≡ Some place → k < length modules)
      → IsDistinct (same_step modules) (by_step lists (gathered_sources places))
  unfolding IsDistinct
  sources_once places below = (main_differs 0 places, once_from 0 places (λ k place e. omega (arith, below k place e)))

-- ---- the spans

pub order_ends : (from : ℕ) (spans : List (Option ListSpan)) (to : ℕ) → AreSpansInOrder from spans to → from ≤ to
order_ends from [] to are = are
order_ends from (Some span ∷ spans) to are = omega (arith, are.0, are.1, order_ends span.end spans to are.2)
order_ends from (None ∷ spans) to are = order_ends from spans to are

-- the first span, and those after it
pub order_first : (from : ℕ) (own : Option ListSpan) (spans : List (Option ListSpan)) (to : ℕ)
    → AreSpansInOrder from (own ∷ spans) to → AreSpansInOrder from (own ∷ []) to
order_first from (Some span) spans to are = (are.0, are.1, order_ends span.end spans to are.2)
order_first from None spans to are = order_ends from spans to are

pub order_rest : (from : ℕ) (own : Option ListSpan) (spans : List (Option ListSpan)) (to : ℕ)
    → AreSpansInOrder from (own ∷ spans) to → AreSpansInOrder (span_after from own).end spans to
order_rest from (Some span) spans to are = are.2
order_rest from None spans to are = are

pub spans_apart : (from : ℕ) (owns : List (Option ListSpan)) (to : ℕ) → AreSpansInOrder from owns to → AreSpansApart from (spans_from from owns) to
spans_apart from [] to are = are
spans_apart from (Some own ∷ owns) to are = (are.0, are.1, spans_apart own.end owns to are.2)
spans_apart from (None ∷ owns) to are = (omega arith, omega arith, spans_apart from owns to are)

-- The files from a place on are the one there, and those after it.
pub from_place : (files : List Kept) (k : ℕ) (one : Kept) → k < length files → one ≡ get_or files k one
    → drop k files ≡ one ∷ drop (k + 1) files
from_place files k one below is =
    let next : k + 1 ≡ suc k = omega arith in rw next (drop-cons files k one below ∙ rw (← is))

-- one source more
pub source_more : (number k : ℕ) (places : List (Option ℕ)) (old : List Source) {new whole : List Source} → k < length places
    → new ≡ old ++ source_at number (get_or places k None) → old ++ sources_from number (drop k places) ≡ whole
    → new ++ sources_from (number + 1) (drop (k + 1) places) ≡ whole
source_more number k places old below pushed held =
    let next : number + 1 ≡ suc number = omega arith in
    let after : k + 1 ≡ suc k = omega arith in
    rw (pushed, next, after) (append_assoc old _ _ ∙ (rw (drop-cons places k None below) at held))

-- one span more
pub span_more : (end : ℕ) (own : Option ListSpan) (rest : List (Option ListSpan)) (old : List Span) {span : Span} {new whole : List Span}
    → span ≡ span_after end own → new ≡ old ++ span ∷ [] → old ++ spans_from end (own ∷ rest) ≡ whole → new ++ spans_from span.end rest ≡ whole
span_more end own rest old is pushed held = rw (pushed, is) (append_assoc old _ _ ∙ held)

-- The list of a file that has its own has the numbers of its requirements.
pub own_list : (numbers : List ℕ) (from : ℕ) (owns : List (Option ListSpan)) (k : ℕ) (own : ListSpan) → slice_get owns k ≡ Some (Some own)
    → list_at (lists_at numbers (spans_from from owns)) k ≡ between own.start own.end numbers
own_list numbers from [] k own there = absurd (cc there)
own_list numbers from (first ∷ owns) zero own there = rw (same_Some first (Some own) there)
own_list numbers from (first ∷ owns) (suc k) own there = own_list numbers (span_after from first).end owns k own there

-- ---- a graph of these parts

-- its lists: that of the main file is the first, and those of the files follow
abbrev pub lists_by : CacheParts → List (List ℕ)
lists_by parts = lists_at parts.numbers.items (spans_of parts.first parts.files.items)

module _ (parts : CacheParts) where
  pub lists_apart : AreSpansApart 0 (spans_of parts.first parts.files.items) (length parts.numbers.items)
  lists_apart = (omega arith, omega arith, spans_apart parts.first (own_spans parts.files.items) (length parts.numbers.items) parts.in_order)

  part_below : (span : Span) → AreModuleNumbers parts.modules.items (part_at parts.numbers.items span)
  part_below span = All-take (λ (n : ℕ). n < length parts.modules.items) (span.end - span.start) _
      (All-drop (λ (n : ℕ). n < length parts.modules.items) span.start parts.numbers.items parts.below)

  pub lists_below : All (AreModuleNumbers parts.modules.items) (lists_by parts)
  lists_below =
      let spans = spans_of parts.first parts.files.items in
      All-map (AreModuleNumbers parts.modules.items) (part_at parts.numbers.items) spans (λ k d inside. part_below (get_or spans k d))

  module _ (places : List (Option ℕ)) (are : AreFilePlaces parts places) where
    pub steps_once : IsDistinct (same_step parts.modules.items) (steps_by parts places)
    steps_once = sources_once parts.modules.items parts.distinct (lists_by parts) places (λ k place e. (are k place e).0)

    pub sources_below : All (λ (one : Source). IsBelow (length parts.modules.items) one.from) (gathered_sources places)
    sources_below k d below =
        each_source (λ one. IsBelow (length parts.modules.items) one.from) places tt (λ n place e. (are n place e).0) _
        (Contains-get_or (gathered_sources places) k d below)
