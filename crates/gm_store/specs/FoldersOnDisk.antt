-- Views of the folders of a file system that a fallback store looks into.
use Rattle.std.specs.Prelude.{ℕ, List, map}
use Rattle.std.specs.String.{string_bytes}
use Rattle.gm_store.specs.declared.folders.on_disk.FoldersOnDisk.{FoldersOnDisk}

-- the file system that they are in
abbrev pub system_of : {S File : Type 0} → FoldersOnDisk S File → S
system_of places = places.system

-- the folder of the main file
abbrev pub main_folder : {S File : Type 0} → FoldersOnDisk S File → List ℕ
main_folder places = string_bytes places.main

-- the proxy folders, in order
abbrev pub proxy_folders : {S File : Type 0} → FoldersOnDisk S File → List (List ℕ)
proxy_folders places = map string_bytes places.proxies.items
