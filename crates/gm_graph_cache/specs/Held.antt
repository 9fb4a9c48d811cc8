-- What is held of files, by the parts of a cache.
use Rattle.std.specs.Prelude.{◌≡◌, Option, Some, None, Result}
use Rattle.std.specs.Option.{option_map}
use Rattle.gm_name_table.specs.Listed.{NumberedList, modules_of}
use Rattle.gm_file.specs.Fields.{Dependency}
use Rattle.gm_file.specs.Main.{Main}
use Rattle.gm_store_parts.specs.Asked.{Name, Reply}
use Rattle.gm_store_sums.specs.Sums.{Sums}
use Rattle.gm_graph_files.specs.declared.class.Class.{Class}
use Rattle.gm_graph_cache.specs.declared.cache.file_table.FileTable.{FileTable}
use Rattle.gm_graph_cache.specs.FileTable.{kept_at}
use Rattle.gm_graph_files.specs.Reading.{IsFileReading}
use Rattle.gm_graph_cache.specs.Sayings.{Run}
use Rattle.gm_graph_files.specs.Summaries.{kept_reading, summary_reading}

-- This is what a reply to a name says, without the requirements that the main file excludes.
pub record IsKeptReading (main : Main) (sums : Option Sums) (name : Name) (reply : Reply)
    (held : Result Dependency Class) : Type 0 where
  pub said : Result Dependency Class
  pub reads : IsFileReading sums name reply said
  pub without : held ≡ kept_reading main said

-- what is held of the file of a name: its contents or its fault
abbrev pub held_under : NumberedList → FileTable → Name → Option (Result Dependency Class)
held_under list files name = option_map (summary_reading (modules_of list)) (kept_at files name)

-- Of each name that a run answers, what the answer says is held, without the requirements that the main file excludes,
-- and of other names nothing.
pub record HoldsAnswers (run : Run) (list : NumberedList) (files : FileTable) : Type 0 where
  pub kept : (name : Name) (reply : Reply) → run.answers name ≡ Some reply
      → (held : Result Dependency Class) × (held_under list files name ≡ Some held)
      × IsKeptReading run.main run.sums name reply held
  pub only : (name : Name) → run.answers name ≡ None → held_under list files name ≡ None
