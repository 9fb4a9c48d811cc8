-- The folders on the right sides of replaces.
use Rattle.std.specs.Prelude.{List, Option, Some, ⊤}
use Rattle.std.specs.List.{AllByRecursion}
use Rattle.std.specs.Str.{IsUtf8}
use Rattle.gm_file.specs.Directives.{Replacing, Right, Folder}

-- a folder is UTF-8
abbrev pub IsUtf8Right : Option Right → Type 0
IsUtf8Right (Some (Folder text)) = IsUtf8 text
IsUtf8Right right = ⊤

-- each folder is UTF-8
abbrev pub AreUtf8Folders : List Replacing → Type 0
AreUtf8Folders = AllByRecursion (λ replace. IsUtf8Right (Some replace.1))
