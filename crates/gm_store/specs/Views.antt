-- Views of a fallback store: its folders and marks, its requests with their answers, its refusals, and its counts.
use Rattle.std.specs.Prelude.{ℕ, List}
use Rattle.gm_store_parts.specs.declared.fallback.proxy_list.Mark.{Mark}
use Rattle.gm_store_parts.specs.declared.files.keeping.Keeps.{Ghosts as Kept}
use Rattle.gm_store_parts.specs.Asked.{Name, Reply}
use Rattle.gm_store_parts.specs.History.{refusals_in}
use Rattle.gm_store_parts.specs.States.{StoreState}
use Rattle.gm_store_parts.specs.Steps.{Counts}
use Rattle.gm_store.specs.declared.fallback.store.FallbackStore.{FallbackStore}
use Rattle.gm_store.specs.declared.folders.FolderList.{Ghosts}
use Rattle.gm_store.specs.Counted.{counts_in, inner_folders}

-- the folders that requests are looked up in
abbrev pub folders_under : {F K : Type 0} {g : Ghosts F} {h : Kept K} → FallbackStore F K g h → F
folders_under store = inner_folders store.folders

-- the marks between the proxy folders
abbrev pub marks_between : {F K : Type 0} {g : Ghosts F} {h : Kept K} → FallbackStore F K g h → List Mark
marks_between store = store.marks.items

-- the requested names with their answers, in order
abbrev pub asked_by : {F K : Type 0} {g : Ghosts F} {h : Kept K} → FallbackStore F K g h → List (Name × Reply)
asked_by {h = h} store = h.kept store.asked

-- the names whose requests were refused because the device failed, in order
abbrev pub refused_by : {F K : Type 0} {g : Ghosts F} {h : Kept K} → FallbackStore F K g h → List Name
refused_by store = refusals_in store.refusals

-- how often folders were looked into, and how often the device failed in that
abbrev pub counts_of : {F K : Type 0} {g : Ghosts F} {h : Kept K} → FallbackStore F K g h → Counts
counts_of store = counts_in store.folders

abbrev pub lookups_of : {F K : Type 0} {g : Ghosts F} {h : Kept K} → FallbackStore F K g h → ℕ
lookups_of store = (counts_of store).lookups

abbrev pub faults_of : {F K : Type 0} {g : Ghosts F} {h : Kept K} → FallbackStore F K g h → ℕ
faults_of store = (counts_of store).failures

-- what is known of it
abbrev pub fallback_state : {F K : Type 0} {g : Ghosts F} {h : Kept K} → FallbackStore F K g h → StoreState
fallback_state store = record { asked = asked_by store; refused = refused_by store; faults = faults_of store }
