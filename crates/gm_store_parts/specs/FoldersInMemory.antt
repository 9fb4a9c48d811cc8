-- Folders in memory: the files of one folder, and the results of lookups in it.
use Rattle.std.specs.Prelude.{Option, Some, None}
use Rattle.std.specs.Map.{lookup}
use Rattle.gm_store_parts.specs.declared.memory_folder.Held.{Held}
use Rattle.gm_store_parts.specs.declared.memory_folder.Held.TheVariants.{Content, Broken}
use Rattle.gm_store_parts.specs.declared.memory_folder.MemoryFolder.{MemoryFolder}
use Rattle.gm_store_parts.specs.Asked.{Name, name_of, same_name}
use Rattle.gm_store_parts.specs.Found.{result_for_bytes}
use Rattle.gm_store_parts.specs.Steps.{Seen, absent, failed}

-- the file under a name, if there is one
abbrev pub file_at : MemoryFolder → Name → Option Held
file_at shelf name = lookup (λ file. same_name name (name_of file)) shelf.held.entries

-- the result of looking up this file, or none
abbrev pub result_for_file : Option Held → Seen
result_for_file None = absent
result_for_file (Some Broken) = failed
result_for_file (Some (Content bytes)) = result_for_bytes bytes.items

-- the result of looking up a name
abbrev pub result_at : MemoryFolder → Name → Seen
result_at shelf name = result_for_file (file_at shelf name)
