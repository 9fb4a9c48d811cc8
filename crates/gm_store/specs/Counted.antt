-- Views of folders whose lookups are counted.
use Rattle.gm_store_parts.specs.Steps.{Counts}
use Rattle.gm_store.specs.declared.folders.counted.CountedFolders.{CountedFolders}

-- the folders
abbrev pub inner_folders : {F : Type 0} → CountedFolders F → F
inner_folders folders = folders.folders

-- how often they were looked into, and how often that failed
abbrev pub counts_in : {F : Type 0} → CountedFolders F → Counts
counts_in folders = record { lookups = folders.lookups; failures = folders.failures }
