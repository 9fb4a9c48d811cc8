-- What is kept of the files that were read, by their names.
use Rattle.std.specs.Prelude.{ℕ, Option, slice_get}
use Rattle.std.specs.Option.{option_and_then}
use Rattle.gm_store_parts.specs.Asked.{Name}
use Rattle.gm_graph_cache.specs.declared.cache.file_table.FileTable.{FileTable}
use Rattle.gm_graph_files.specs.declared.summary.Kept.{Kept}
use Rattle.gm_graph_cache.specs.FileNames.{place_among, places_named}

-- the place of the file of a name
abbrev pub place_of : FileTable → Name → Option ℕ
place_of files name = place_among (places_named files.names) name

-- what is kept of the file of a name
abbrev pub kept_at : FileTable → Name → Option Kept
kept_at files name = option_and_then (slice_get files.files.items) (place_of files name)
