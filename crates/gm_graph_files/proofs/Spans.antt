-- Spans of a list of modules that grew at its end.
use Rattle.std.proofs.Common.{◌≡◌, ◌≤◌, ◌-◌, List, Option, Some, None, arith, ap, drop, length, length-append, refl}
use Rattle.std.proofs.lemmas.List.{drop-append-le, length-drop, take-append-le}
use Rattle.std.specs.Option.{option_map}
use Rattle.gm_name.specs.ModuleVersion.{ModuleVersion}
use Rattle.gm_name_table.specs.Listed.{BeginsWith, part}
use Rattle.gm_graph_files.specs.declared.summary.Kept.{Kept}
use Rattle.gm_graph_files.specs.declared.summary.Kept.TheVariants.{Valid, Faulty}
use Rattle.gm_graph_files.specs.declared.summary.ListSpan.{ListSpan}
use Rattle.gm_graph_files.specs.Summaries.{at_span, summary_reading}
use Rattle.gm_graph_files.specs.KeptFiles.{IsKeptIn, IsWithinList, span_found}

longer : {T : Type 0} (old new : List T) → BeginsWith old new → length old ≤ length new
longer old new begins = omega (arith, ap length begins.1, length-append old begins.0)

pub within_still : (old new : List ModuleVersion) (span : ListSpan) → BeginsWith old new → IsWithinList old span → IsWithinList new span
within_still old new span begins is = record { order = is.order; within = omega (arith, is.within, longer old new begins) }

-- A span within the old list has the same in the new one.
pub part_still : {T : Type 0} (old new : List T) (span : ListSpan) → BeginsWith old new → span.start ≤ span.end → span.end ≤ length old
    → part span.start span.end new ≡ part span.start span.end old
part_still old new span begins order within =
    rw (begins.1, drop-append-le span.start old begins.0 (omega (arith, order, within)))
    (take-append-le (span.end - span.start) (drop span.start old) begins.0 (omega (arith, order, within, length-drop span.start old)))

pub span_still : (old new : List ModuleVersion) (span : ListSpan) → BeginsWith old new → IsWithinList old span → at_span new span ≡ at_span old span
span_still old new span begins is = part_still old new span begins is.order is.within

-- What a file in the list says stays the same.
pub readings_still : (old new : List ModuleVersion) (files : List Kept) (o : Option Kept) → BeginsWith old new
    → ((one : Kept) → o ≡ Some one → IsKeptIn old files one) → option_map (summary_reading new) o ≡ option_map (summary_reading old) o
readings_still old new files None begins is = refl
readings_still old new files (Some (Faulty class)) begins is = refl
readings_still old new files (Some (Valid summary)) begins is = rw (span_still old new summary.list.span begins (is (Valid summary) refl).0) refl

-- Where the requirements of an entry are, if there is one, is within the list.
pub span_within : (modules : List ModuleVersion) (files : List Kept) (o : Option Kept)
    → ((one : Kept) → o ≡ Some one → IsKeptIn modules files one) → IsWithinList modules (span_found o)
span_within modules files None is = record { order = omega arith; within = omega arith }
span_within modules files (Some (Faulty class)) is = record { order = omega arith; within = omega arith }
span_within modules files (Some (Valid summary)) is = (is (Valid summary) refl).0
