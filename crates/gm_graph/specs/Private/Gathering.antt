-- The graph and the faults that what was found makes: by the numbers of modules, and by the places of files.
use Rattle.std.specs.Prelude.{◌≡◌, ◌<◌, ◌+◌, ◌++◌, ◌∷◌, [], ℕ, suc, AllPairs, Contains, List, None, Option, Some, length, map}
use Rattle.std.specs.declared.cmp.Ordering.TheVariants.{Less}
use Rattle.gm_name.specs.ModuleVersion.{ModuleVersion, module_at, pair_cmp}
use Rattle.gm_graph_files.specs.declared.class.Class.{Class}
use Rattle.gm_graph_cache.specs.declared.cache.parts.CacheParts.{CacheParts}
use Rattle.gm_graph_files.specs.declared.summary.Kept.{Kept}
use Rattle.gm_graph_files.specs.declared.summary.ListSpan.{ListSpan}
use Rattle.gm_graph.specs.declared.fault.Fault.{Fault}
use Rattle.gm_graph.specs.declared.findings.NumberedFault.{NumberedFault}
use Rattle.gm_graph.specs.Private.Findings.{numbered, place_at}
use Rattle.gm_graph_files.specs.Summaries.{own_span}
use Rattle.gm_graph_select.specs.declared.adjacency.Source.{Source}
use Rattle.gm_graph_select.specs.declared.number_lists.Span.{Span}
use Rattle.gm_graph_select.specs.Adjacency.{StepEdges, by_step}
use Rattle.gm_graph_select.specs.Spans.{lists_at}

-- ---- the sources: the main module, and each vertex that has a file

-- the source that the vertex with a number is, if the file at this place has its list: the main file has the first one
abbrev pub source_at : ℕ → Option ℕ → List Source
source_at number None = []
source_at number (Some place) = record { from = Some number; list = place + 1 } ∷ []

-- the sources that the vertices from a number on are
abbrev pub sources_from : ℕ → List (Option ℕ) → List Source
sources_from number [] = []
sources_from number (place ∷ places) = source_at number place ++ sources_from (suc number) places

-- the sources: the main module, and each vertex that has a file, by the places of the vertices' files
abbrev pub gathered_sources : List (Option ℕ) → List Source
gathered_sources places = record { from = None; list = 0 } ∷ sources_from 0 places

-- ---- the lists: that of the main file, and the own list of each file

-- where the own list of a file is: empty behind the one before if it has none
abbrev pub span_after : ℕ → Option ListSpan → Span
span_after from None = record { start = from; end = from }
span_after from (Some own) = record { start = own.start; end = own.end }

-- where the lists of files are, if these are where their own lists are
abbrev pub spans_from : ℕ → List (Option ListSpan) → List Span
spans_from from [] = []
spans_from from (own ∷ others) = let span = span_after from own in span ∷ spans_from span.end others

-- where all lists are: that of the main file, whose requirements are so many, and the own list of each file
abbrev pub spans_of : ℕ → List Kept → List Span
spans_of first files = record { start = 0; end = first } ∷ spans_from first (map own_span files)

-- the edges that leave each source
abbrev pub steps_by : CacheParts → List (Option ℕ) → List StepEdges
steps_by parts places =
    by_step (lists_at parts.numbers.items (spans_of parts.first parts.files.items)) (gathered_sources places)

-- The numbers at which there is a place are those of modules, and the places are those of files.
abbrev pub AreFilePlaces : CacheParts → List (Option ℕ) → Type 0
AreFilePlaces parts places = (number place : ℕ) → place_at places number ≡ Some place
    → (number < length parts.modules.items) × (place < length parts.files.items)

-- ---- the faults

-- a vertex and its fault
abbrev pub fault : ModuleVersion → Class → Fault
fault x class = record { vertex = x; class = class }

-- One of the faults is this one of this vertex.
abbrev pub HasFaultOf : List ModuleVersion → List NumberedFault → ModuleVersion → Class → Type 0
HasFaultOf modules faults x class =
    (number : ℕ) × Contains faults (numbered number class) × (module_at modules number ≡ x)

-- Each vertex that has a fault has one in the list, in strictly ascending order of the vertices.
pub record AreFaultsOf (modules : List ModuleVersion) (faults : List NumberedFault) (list : List Fault) : Type 0 where
  pub ascending : AllPairs (λ (a b : Fault). pair_cmp a.vertex b.vertex ≡ Less) list
  pub only : (one : Fault) → Contains list one → HasFaultOf modules faults one.vertex one.class
  pub each : (number : ℕ) (class : Class) → Contains faults (numbered number class)
      → (other : Class) × Contains list (fault (module_at modules number) other)
