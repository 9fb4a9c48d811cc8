-- What may come of a request to a store over folders of a file system.
use Rattle.std.specs.Prelude.{ℕ, List, Option, None}
use Rattle.gm_store_parts.specs.declared.fallback.proxy_list.Mark.{Mark}
use Rattle.gm_store_parts.specs.Asked.{Name, Reply}
use Rattle.gm_store_parts.specs.Openings.{MayLookUp, Opening}
use Rattle.gm_store_parts.specs.Steps.{failed}
use Rattle.gm_store.specs.FolderLookups.{MayAnswerFrom}
use Rattle.gm_store.specs.Placed.{lookup_path_text}

-- The answer to a name is that of the file at the name's path in the folder at which the fallback stops, or none if
-- opening or reading it fails there. `may_open` says what may come of opening the file at a path; `main` is the main
-- file's folder, and the marks stand between the proxy folders.
abbrev pub MayAnswer : (List ℕ → Opening → Type 0) → List ℕ → List (List ℕ) → List Mark → Name → Option Reply → Type 0
MayAnswer may_open main proxies marks name outcome =
    MayAnswerFrom (λ k name seen. MayLookUp (may_open (lookup_path_text main proxies k name)) seen) marks name outcome

-- If the device may fail at a name, then opening or reading the file at the name's path in one of the folders may.
abbrev pub DeviceFailsByAFile : (List ℕ → Opening → Type 0) → Type 0
DeviceFailsByAFile may_open = (main : List ℕ) (proxies : List (List ℕ)) (marks : List Mark) (name : Name)
    → MayAnswer may_open main proxies marks name None
    → (folder : ℕ) × MayLookUp (may_open (lookup_path_text main proxies folder name)) failed
