-- What is kept of the files that were read.
use Rattle.std.specs.Prelude.{ℕ, List, ⊤, None, Option, Result, Ok, Err, Some, slice_get}
use Rattle.std.specs.Option.{option_and_then}
use Rattle.gm_name.specs.ModuleVersion.{ModuleVersion}
use Rattle.gm_name_table.specs.Listed.{part}
use Rattle.gm_file.specs.Fields.{Dependency}
use Rattle.gm_file.specs.Listed.{with_requirements}
use Rattle.gm_file.specs.Main.{Main, without_excluded}
use Rattle.gm_store_parts.specs.Asked.{Reply}
use Rattle.gm_graph_files.specs.Reading.{AreRetractedBy}
use Rattle.gm_graph_files.specs.declared.summary.ListSpan.{ListSpan}
use Rattle.gm_graph_files.specs.declared.summary.Kept.TheVariants.{Valid, Faulty}
use Rattle.gm_graph_files.specs.declared.summary.Kept.{Kept}
use Rattle.gm_graph_files.specs.declared.reading.FileReading.TheVariants as read
use Rattle.gm_graph_files.specs.declared.reading.FileReading.{FileReading}
use Rattle.gm_graph_files.specs.declared.class.Class.{Class}

-- what an answer says, as a reading
abbrev pub reading_of : FileReading → Result Dependency Class
reading_of (read.Valid file) = Ok file.dependency
reading_of (read.Faulty class) = Err class

-- a valid file has the retractions of the reply that it is read from
abbrev pub RetractsBy : Reply → FileReading → Type 0
RetractsBy reply (read.Valid file) = AreRetractedBy reply file.retracts
RetractsBy reply (read.Faulty class) = ⊤

-- ---- places in the list of modules

-- the modules of a span of the list
abbrev pub at_span : List ModuleVersion → ListSpan → List ModuleVersion
at_span modules span = part span.start span.end modules

-- ---- what is kept of a file

-- where the requirements of a file are, without the excluded ones: nowhere if it has a fault
abbrev pub listed_span : Kept → Option ListSpan
listed_span (Valid summary) = Some summary.list.span
listed_span (Faulty class) = None

-- where they are, unless they are in the list of the earlier file at a place
abbrev pub span_unless : Option ℕ → ListSpan → Option ListSpan
span_unless None span = Some span
span_unless (Some place) span = None

-- where the own list of a file is: a file that shares the list of an earlier one has none
abbrev pub own_span : Kept → Option ListSpan
own_span (Valid summary) = span_unless summary.list.same_as summary.list.span
own_span (Faulty class) = None

-- where the own list of the file at a place is
abbrev pub own_span_at : List Kept → ℕ → Option ListSpan
own_span_at files place = option_and_then own_span (slice_get files place)

-- a reading without the requirements that the main file excludes
abbrev pub kept_reading : Main → Result Dependency Class → Result Dependency Class
kept_reading main (Ok file) = Ok (record {
  declared = file.declared;
  go = file.go;
  requirements = without_excluded main file.requirements;
})
kept_reading main (Err class) = Err class

-- what is kept of a file, as a reading
abbrev pub summary_reading : List ModuleVersion → Kept → Result Dependency Class
summary_reading modules (Valid summary) = Ok (with_requirements summary.file (at_span modules summary.list.span))
summary_reading modules (Faulty class) = Err class
