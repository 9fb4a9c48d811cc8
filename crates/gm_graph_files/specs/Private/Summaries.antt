-- What only the reading and keeping of files say of places in the list of modules.
use Rattle.std.specs.Prelude.{◌≡◌, ◌∷◌, [], ℕ, List, Option, Some, None, slice_get, unwrap_or}
use Rattle.std.specs.Option.{option_and_then}
use Rattle.std.proofs.Math.Bridge.{le_prop}
use Rattle.std.proofs.Props.{props}
use Rattle.gm_name.specs.ModuleVersion.{ModuleVersion}
use Rattle.gm_name_table.specs.Listed.{NumberedList, part}
use Rattle.gm_file.specs.Listed.{Head}
use Rattle.gm_graph_files.specs.declared.summary.Kept.{Kept}
use Rattle.gm_graph_files.specs.declared.summary.Kept.TheVariants.{Valid, Faulty}
use Rattle.gm_graph_files.specs.declared.summary.KeptList.{KeptList}
use Rattle.gm_graph_files.specs.declared.summary.ListSpan.{ListSpan}
use Rattle.gm_graph_files.specs.declared.summary.Summary.{Summary}
use Rattle.gm_graph_files.specs.KeptFiles.{AreSpansInOrder, IsKeptIn, IsWithinList, same_list}

-- These two are facts: each has one proof at most.
pub kept_is_fact : (modules : List ModuleVersion) (files : List Kept) (one : Kept) → IsProp (IsKeptIn modules files one)
kept_is_fact modules files (Valid summary) = hlevel props
kept_is_fact modules files (Faulty class) = hlevel props

pub order_is_fact : (from : ℕ) (spans : List (Option ListSpan)) (to : ℕ) → IsProp (AreSpansInOrder from spans to)
order_is_fact from [] to = le_prop
order_is_fact from (Some span ∷ spans) to = λ a b. λ i.
    (le_prop a.0 b.0 i, le_prop a.1 b.1 i, order_is_fact span.end spans to a.2 b.2 i)
order_is_fact from (None ∷ spans) to = order_is_fact from spans to

-- what is kept of a file with this list, which says this beside its requirements
abbrev pub kept_with : Head → KeptList → Kept
kept_with file list = Valid (record { file = file; list = list })

-- The requirements of each file are in the list of modules.
abbrev pub AreWithinList : List ModuleVersion → List Kept → Type 0
AreWithinList modules files = (place : ℕ) (summary : Summary) → slice_get files place ≡ Some (Valid summary)
    → IsWithinList modules summary.list.span

-- This is the own list of one of the files, and has the modules with these numbers.
pub record IsSameList (list : NumberedList) (files : List Kept) (numbers : List ℕ) (same : KeptList) : Type 0 where
  pub file : Head
  pub place : ℕ
  pub shared : same.same_as ≡ Some place
  pub there : slice_get files place ≡ Some (kept_with file (record { span = same.span; same_as = None }))
  pub has : part same.span.start same.span.end list.numbers ≡ numbers

-- the place of the file that has the list of the file at a place
abbrev pub list_place : List Kept → ℕ → ℕ
list_place files place = unwrap_or (option_and_then same_list (slice_get files place)) place
