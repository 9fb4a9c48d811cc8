-- A copy from crates/gm_store_parts/specs/Asked.antt, which tools/check/headline.py writes.
use Rattle.std.specs.Prelude.{ℕ, Bool, false, ◌&&◌, if◌then◌else◌, List, [], ◌∷◌, Option, Some, None}
use Rattle.std.specs.Str.{bytes_eq}

-- the name of a file: the .mod file of a path and version, the go.mod of a folder, or the list file of a path
pub data Name : Type 0 where
  mod_file : List ℕ → List ℕ → Name
  folder_file : List ℕ → Name
  list_file : List ℕ → Name

-- an answer: the file's bytes, no such file, or a file that is too long
pub data Reply : Type 0 where
  bytes : List ℕ → Reply
  absent : Reply
  too_long : Reply

-- whether two names are the same: the same kind of file, with equal texts
abbrev pub same_name : Name → Name → Bool
same_name (mod_file p v) (mod_file q w) = bytes_eq p q && bytes_eq v w
same_name (folder_file t) (folder_file u) = bytes_eq t u
same_name (list_file p) (list_file q) = bytes_eq p q
same_name _ _ = false

-- the answer to a name, if it was requested
abbrev pub answer_in : List (Name × Reply) → Name → Option Reply
answer_in [] name = None
answer_in (pair ∷ pairs) name = if same_name name pair.0 then Some pair.1 else answer_in pairs name
