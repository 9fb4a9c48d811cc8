-- Which folders and marks a name is looked up with, what may come of a request for it, and the results of all
-- lookups over folders in memory.
use Rattle.std.specs.Prelude.{ℕ, List, [], ◌∷◌, map, Option}
use Rattle.gm_store_parts.specs.declared.fallback.proxy_list.Mark.{Mark}
use Rattle.gm_store_parts.specs.Asked.{Name, Reply, mod_file, folder_file, list_file}
use Rattle.gm_store_parts.specs.FoldersInMemory.{result_at}
use Rattle.gm_store_parts.specs.Steps.{MayStop, Seen}
use Rattle.gm_store.specs.declared.folders.in_memory.FoldersInMemory.{FoldersInMemory}

-- the results of looking up a name in every folder: a module's file in each proxy folder in turn, the go.mod of a
-- local folder only in the folder beside the main file
abbrev pub lookup_results : FoldersInMemory → Name → List Seen
lookup_results folders (mod_file path version) =
    map (λ shelf. result_at shelf (mod_file path version)) folders.proxies.items
lookup_results folders (list_file path) =
    map (λ shelf. result_at shelf (list_file path)) folders.proxies.items
lookup_results folders (folder_file text) = result_at folders.beside (folder_file text) ∷ []

-- the marks that apply to a name: none for the go.mod of a local folder, which is looked up in one place
abbrev pub marks_for : Name → List Mark → List Mark
marks_for (mod_file path version) marks = marks
marks_for (list_file path) marks = marks
marks_for (folder_file text) marks = []

-- This may come of requesting a name from folders: the answer of the folder at which the request stops, or none if the
-- device fails there. `may_find` says what each folder may find, and the marks stand between the proxy folders.
abbrev pub MayAnswerFrom : (ℕ → Name → Seen → Type 0) → List Mark → Name → Option Reply → Type 0
MayAnswerFrom may_find marks name outcome = (failures : ℕ)
    × MayStop (λ k seen. may_find k name seen) (marks_for name marks) outcome failures

-- the number of folders that a name may be looked up in, given the number of proxy folders
abbrev pub count_for : ℕ → Name → ℕ
count_for proxies (mod_file path version) = proxies
count_for proxies (list_file path) = proxies
count_for proxies (folder_file text) = 1
