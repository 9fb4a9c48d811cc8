-- Where the requirements of files that are kept are, in the list of modules.
use Rattle.std.specs.Prelude.{◌≡◌, ◌≤◌, ◌∷◌, [], ⊤, ℕ, List, Option, Some, None, Result, Ok, Err, length, map, slice_get, take, unwrap_or}
use Rattle.std.specs.Option.{option_and_then}
use Rattle.gm_name.specs.ModuleVersion.{ModuleVersion}
use Rattle.gm_name_table.specs.Listed.{Appends, NumberedList}
use Rattle.gm_file.specs.Fields.{Dependency}
use Rattle.gm_file.specs.Listed.{with_requirements}
use Rattle.gm_graph_files.specs.declared.class.Class.{Class}
use Rattle.gm_graph_files.specs.declared.reading.ListedReading.{ListedReading}
use Rattle.gm_graph_files.specs.declared.reading.ListedReading.TheVariants as listed
use Rattle.gm_graph_files.specs.declared.summary.Kept.{Kept}
use Rattle.gm_graph_files.specs.declared.summary.Kept.TheVariants.{Valid, Faulty}
use Rattle.gm_graph_files.specs.declared.summary.KeptList.{KeptList}
use Rattle.gm_graph_files.specs.declared.summary.ListSpan.{ListSpan}
use Rattle.gm_graph_files.specs.Summaries.{listed_span, own_span, own_span_at}

-- A span is within the list.
pub record IsWithinList (modules : List ModuleVersion) (span : ListSpan) : Type 0 where
  pub order : span.start ≤ span.end
  pub within : span.end ≤ length modules

-- what an answer says, as a reading, with the requirements that it put into the list of modules
abbrev pub listed_reading : List ModuleVersion → ListedReading → Result Dependency Class
listed_reading requirements (listed.Valid file) = Ok (with_requirements file requirements)
listed_reading requirements (listed.Faulty class) = Err class

-- Nothing went to the list of modules if the file has a fault.
abbrev pub AppendsNoneIfFaulty : NumberedList → NumberedList → ListedReading → Type 0
AppendsNoneIfFaulty old new (listed.Valid file) = ⊤
AppendsNoneIfFaulty old new (listed.Faulty class) = Appends old new []

-- ---- places in the list of modules

-- the span of no modules
abbrev pub nowhere : ListSpan
nowhere = record { start = 0; end = 0 }

-- Modules were put to the end of the list, and each that had a number has it still.
abbrev pub Grows : NumberedList → NumberedList → Type 0
Grows old new = (more : List ModuleVersion) × Appends old new more

-- the front of a list, up to a place
abbrev pub front_of : ℕ → NumberedList → NumberedList
front_of start list = record { modules = list.modules; numbers = take start list.numbers }

-- ---- what is kept of a file

-- where the requirements of a file are: nowhere if it has a fault or nothing is kept of it
abbrev pub span_found : Option Kept → ListSpan
span_found kept = unwrap_or (option_and_then listed_span kept) nowhere

-- The spans lie between these two places, and each begins at or after the end of the one before.
abbrev pub AreSpansInOrder : ℕ → List (Option ListSpan) → ℕ → Type 0
AreSpansInOrder from [] to = from ≤ to
AreSpansInOrder from (Some span ∷ spans) to =
    (from ≤ span.start) × (span.start ≤ span.end) × AreSpansInOrder span.end spans to
AreSpansInOrder from (None ∷ spans) to = AreSpansInOrder from spans to

-- The own lists of files are in order.
abbrev pub AreListsInOrder : ℕ → List Kept → ℕ → Type 0
AreListsInOrder from files to = AreSpansInOrder from (map own_span files) to

-- A list is in the list of modules, and one that is shared is that of one of these files.
abbrev pub IsListIn : List ModuleVersion → List Kept → KeptList → Type 0
IsListIn modules files list = IsWithinList modules list.span
    × ((place : ℕ) → list.same_as ≡ Some place → own_span_at files place ≡ Some list.span)

-- The requirements of a file, unless it has a fault, are so.
abbrev pub IsKeptIn : List ModuleVersion → List Kept → Kept → Type 0
IsKeptIn modules files (Valid summary) = IsListIn modules files summary.list
IsKeptIn modules files (Faulty class) = ⊤

-- Those of each of these files are so.
abbrev pub AreKeptIn : List ModuleVersion → List Kept → Type 0
AreKeptIn modules files = (place : ℕ) (one : Kept) → slice_get files place ≡ Some one → IsKeptIn modules files one

-- the place of the earlier file whose list it shares, if it shares one
abbrev pub same_list : Kept → Option ℕ
same_list (Valid summary) = summary.list.same_as
same_list (Faulty class) = None
