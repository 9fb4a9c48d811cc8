-- What a cache holds, and the modules behind what it lends.
use Rattle.std.specs.Prelude.{◌≡◌, ◌≤◌, ℕ, List, Option, length, take}
use Rattle.gm_name_table.specs.Listed.{NumberedList, modules_of}
use Rattle.gm_file.specs.Main.{Main, without_excluded}
use Rattle.gm_store_parts.specs.Asked.{Name, Reply}
use Rattle.gm_store_sums.specs.Sums.{Sums}
use Rattle.gm_graph_cache.specs.declared.cache.file_table.FileTable.{FileTable}
use Rattle.gm_graph_cache.specs.Held.{HoldsAnswers}
use Rattle.gm_graph_cache.specs.Private.FileTable.{NotesFiles}
use Rattle.gm_graph_files.specs.KeptFiles.{AreKeptIn, AreListsInOrder}
use Rattle.gm_graph_cache.specs.Sayings.{run_of}

-- What a cache holds is consistent: some answers say it, the requirements of the main file without the excluded ones
-- are the first modules of the list, places are noted for modules that have numbers, and each place that is noted is
-- that of the file. The own lists of files are in order, and the requirements of each file are in the list.
pub record IsConsistent (main : Main) (sums : Option Sums) (first : ℕ) (list : NumberedList) (files : FileTable)
    : Type 0 where
  pub holds_some : ∥ ((pairs : List (Name × Reply)) × HoldsAnswers (run_of main sums pairs) list files) ∥₁
  pub first_within : first ≤ length list.numbers
  pub first_are : take first (modules_of list) ≡ without_excluded main main.requirements
  pub places_within : length files.places.items ≤ length list.modules
  pub notes : NotesFiles main list.modules files
  pub in_order : AreListsInOrder first files.files.items (length list.numbers)
  pub listed : AreKeptIn (modules_of list) files.files.items
