-- Paths of a module's files below a proxy folder: Go Modules Reference, GOPROXY protocol,
-- `$module/@v/$version.mod` and `$module/@v/list`, with path and version escaped.
use Rattle.std.specs.Prelude.{◌≡◌, ℕ, ◌==◌, ◌&&◌, not, nat_lt, Bool, true, List, ◌++◌, length, codes, ◌<◌, Contains, slice_index, ◌-◌, if◌then◌else◌}
use Rattle.std.specs.List.{list_all, slice_split}
use Rattle.std.specs.Str.{bytes_eq}
use Rattle.std.specs.Char.{is_ascii_uppercase}
use Rattle.gm_version.specs.Escape.{escaped_text}
use Rattle.gm_name.specs.Path.{IsPath}
use Rattle.gm_version.specs.Version.{IsVersion}
use Rattle.gm_store_parts.specs.Asked.{Name, mod_file, folder_file, list_file}

-- the separator of path elements
abbrev pub is_slash : ℕ → Bool
is_slash b = b == 47

-- whether a text ends in a slash
abbrev pub ends_in_slash : List ℕ → Bool
ends_in_slash text = nat_lt 0 (length text) && is_slash (slice_index text (length text - 1))

-- a path below a folder, with a slash in between unless the folder's text ends in one
abbrev pub below : List ℕ → List ℕ → List ℕ
below folder text = folder ++ (if ends_in_slash folder then text else codes "/" ++ text)

-- the path of a file: of a module's file below a proxy folder, of a local folder's go.mod as `replace` names the
-- folder
abbrev pub relative_text : Name → List ℕ
relative_text (mod_file path version) = escaped_text path ++ codes "/@v/" ++ escaped_text version ++ codes ".mod"
relative_text (list_file path) = escaped_text path ++ codes "/@v/list"
relative_text (folder_file text) = below text (codes "go.mod")

-- a path element that leads downwards: not empty, and neither `.` nor `..`
abbrev pub is_plain_element : List ℕ → Bool
is_plain_element piece = nat_lt 0 (length piece)
    && not (bytes_eq piece (codes ".")) && not (bytes_eq piece (codes ".."))

-- names of module files: a valid path, and for a .mod file a canonical version
abbrev pub IsModuleFile : Name → Type 0
IsModuleFile (mod_file path version) = IsPath path × IsVersion version
IsModuleFile (list_file path) = IsPath path
IsModuleFile (folder_file text) = ⊥

-- a path that stays below the folder it is relative to: each element is plain, so it doesn't begin with a slash
-- either
abbrev pub LeadsBelow : List ℕ → Type 0
LeadsBelow text = list_all is_plain_element (slice_split is_slash text) ≡ true

-- the path of a module's file stays below the proxy folder; that of a local folder may lead anywhere
abbrev pub StaysBelow : Name → List ℕ → Type 0
StaysBelow (mod_file path version) text = LeadsBelow text
StaysBelow (list_file path) text = LeadsBelow text
StaysBelow (folder_file folder) text = Unit {0}

-- different module files have different paths
abbrev pub PathsDiffer : Type 0
PathsDiffer = (m n : Name) → IsModuleFile m → IsModuleFile n → relative_text m ≡ relative_text n → m ≡ n

-- these paths have no upper-case letter, so they differ on file systems that ignore case as well
abbrev pub PathsAreLowercase : Type 0
PathsAreLowercase = (name : Name) → IsModuleFile name
    → list_all (λ b. not (is_ascii_uppercase b)) (relative_text name) ≡ true

-- The folder that a file is in, taken from its name: the text before the last slash, or `/` if that text is empty.
-- A name without a slash is that of a file in the folder `.`.
pub data IsFolderOf (file folder : List ℕ) : Type 0 where
  here : ¬ (Contains file 47) → folder ≡ codes "." → IsFolderOf file folder
  at_root : (name : List ℕ) → file ≡ codes "/" ++ name → ¬ (Contains name 47) → folder ≡ codes "/"
      → IsFolderOf file folder
  below_folder : (name : List ℕ) → 0 < length folder → file ≡ folder ++ codes "/" ++ name → ¬ (Contains name 47)
      → IsFolderOf file folder
