-- Requests to a store and its answers, as lists of bytes. `FileName` and `Answer` of src are read through these
-- views.
use Rattle.std.specs.Prelude.{ℕ, ◌≡◌, ◌≤◌, Bool, false, ◌&&◌, if◌then◌else◌, nat_le, List, [], ◌∷◌, ◌++◌, length, map, Option, Some, None}
use Rattle.std.specs.Str.{bytes_eq}
use Rattle.std.specs.String.{string_bytes}
use Rattle.gm_store_parts.specs.declared.files.FileName.{FileName}
use Rattle.gm_store_parts.specs.declared.files.FileName.TheVariants.{Mod, Folder, List as Listing}
use Rattle.gm_store_parts.specs.declared.files.Answer.{Answer}
use Rattle.gm_store_parts.specs.declared.files.Answer.TheVariants.{Bytes, Absent, TooLong}

-- the name of a file: the .mod file of a path and version, the go.mod of a folder, or the list file of a path
pub data Name : Type 0 where
  mod_file : List ℕ → List ℕ → Name
  folder_file : List ℕ → Name
  list_file : List ℕ → Name

-- an answer: the file's bytes, no such file, or a file that is too long
pub data Reply : Type 0 where
  bytes : List ℕ → Reply
  absent : Reply
  too_long : Reply

-- the bytes of an answer: none if there is no such file, or if it is too long
abbrev pub bytes_in : Reply → List ℕ
bytes_in (bytes content) = content
bytes_in absent = []
bytes_in too_long = []

-- an answer has at most 16 MiB of bytes
abbrev pub IsWithinLimit : Reply → Type 0
IsWithinLimit reply = length (bytes_in reply) ≤ 16777216

-- the view of a name
abbrev pub name_of : FileName → Name
name_of (Mod path version) = mod_file path version
name_of (Folder text) = folder_file (string_bytes text)
name_of (Listing path) = list_file path

-- the view of an answer
abbrev pub reply_of : Answer → Reply
reply_of (Bytes content) = bytes content.items
reply_of Absent = absent
reply_of TooLong = too_long

-- whether two names are the same: the same kind of file, with equal texts
abbrev pub same_name : Name → Name → Bool
same_name (mod_file p v) (mod_file q w) = bytes_eq p q && bytes_eq v w
same_name (folder_file t) (folder_file u) = bytes_eq t u
same_name (list_file p) (list_file q) = bytes_eq p q
same_name _ _ = false

-- the answer to a name, if it was requested
abbrev pub answer_in : List (Name × Reply) → Name → Option Reply
answer_in [] name = None
answer_in (pair ∷ pairs) name = if same_name name pair.0 then Some pair.1 else answer_in pairs name

-- the requested names, in order
abbrev pub names_in : List (Name × Reply) → List Name
names_in = map (λ pair. pair.0)

-- the answers, in order
abbrev pub replies_in : List (Name × Reply) → List Reply
replies_in = map (λ pair. pair.1)

-- the answer to the last request, if there is one, is this one
abbrev pub IsLast : List (Name × Reply) → Reply → Type 0
IsLast pairs reply = (before : List (Name × Reply)) (last : Name × Reply) → pairs ≡ before ++ last ∷ [] → reply ≡ last.1

-- the answer of a store that holds these bytes under a name, or holds no such file
abbrev pub reply_for : ℕ → Option (List ℕ) → Reply
reply_for limit None = absent
reply_for limit (Some content) = if nat_le (length content) limit then bytes content else too_long
