-- More files and what they say. All paths but one begin with `example.com/`; a file without a go directive has go 1.16.
use Rattle.std.specs.Prelude.{◌++◌, ℕ, zero, suc, if◌then◌else◌, List, [], ◌∷◌, Some, None, Result, Ok, Err, codes}
use Rattle.std.specs.Fmt.{decimal}
use Rattle.std.specs.List.{flat_map}
use Rattle.std.specs.Str.{bytes_eq}
use Rattle.page.specs.Directives.{Folder, Left, Module, Replacing}
use Rattle.page.specs.Fields.{Dependency}
use Rattle.page.specs.Files.TableFiles.{table_files, table_mains}
use Rattle.page.specs.Main.{Main}
use Rattle.page.specs.ModuleVersion.{ModuleVersion}
use Rattle.page.specs.Types.{BadVersion, Misreading, NoModule, TooMany, Unknown, WrongArguments}

-- ---- modules

-- the left side of a replace: each version of a path, or one
abbrev pub every_of : List ℕ → Left
every_of path = record { path = path; version = None }

abbrev pub one_of : List ℕ → List ℕ → Left
one_of path version = record { path = path; version = Some version }

abbrev pub path_of : List ℕ → List ℕ
path_of name = codes "example.com/" ++ name

abbrev pub at : List ℕ → List ℕ → ModuleVersion
at name version = (path_of name, version)

abbrev pub first_of : List ℕ → ModuleVersion
first_of name = at name (codes "v1.0.0")

-- a module that no proxy has
abbrev pub local_zero : ModuleVersion
local_zero = (codes "local", codes "v0.0.0")

-- ---- texts

-- `module example.com/NAME`
abbrev pub module_line : List ℕ → List ℕ
module_line name = codes "module example.com/" ++ name ++ codes "\n"

-- `require example.com/NAME VERSION`
abbrev pub require_line : List ℕ → List ℕ → List ℕ
require_line name version = codes "require example.com/" ++ name ++ codes " " ++ version ++ codes "\n"

-- a file that requires one module
abbrev pub requiring : List ℕ → List ℕ → List ℕ → List ℕ
requiring name other version = module_line name ++ require_line other version

-- The same, with a go directive.
abbrev pub going : List ℕ → List ℕ → List ℕ → List ℕ → List ℕ
going name go other version = module_line name ++ codes "go " ++ go ++ codes "\n" ++ require_line other version

-- ---- main files

abbrev pub main_with : ℕ × ℕ → List ModuleVersion → List Replacing → Main
main_with go requirements replaces = record {
  path = codes "example.com/m";
  go = go;
  requirements = requirements;
  excludes = [];
  replaces = replaces;
}

-- It requires nothing.
abbrev pub alone_text : List ℕ
alone_text = codes "module example.com/m\n\ngo 1.21\n"

abbrev pub alone_file : Main
alone_file = main_with (1, 21) [] []

-- It is not pruned, and requires a and b.
abbrev pub both_text : List ℕ
both_text = codes "module example.com/m\ngo 1.16\nrequire example.com/a v1.0.0\nrequire example.com/b v1.0.0\n"

abbrev pub both_file : Main
both_file = main_with (1, 16) (first_of (codes "a") ∷ first_of (codes "b") ∷ []) []

-- It is pruned, and requires a.
abbrev pub one_text : List ℕ
one_text = codes "module example.com/m\ngo 1.17\nrequire example.com/a v1.0.0\n"

abbrev pub one_file : Main
one_file = main_with (1, 17) (first_of (codes "a") ∷ []) []

-- It is pruned, and requires a and b.
abbrev pub two_text : List ℕ
two_text = codes "module example.com/m\ngo 1.17\nrequire example.com/a v1.0.0\nrequire example.com/b v1.0.0\n"

abbrev pub two_file : Main
two_file = main_with (1, 17) (first_of (codes "a") ∷ first_of (codes "b") ∷ []) []

-- It excludes two versions of c.
abbrev pub excluding_text : List ℕ
excluding_text = codes "module example.com/m\ngo 1.16\nrequire example.com/a v1.0.0\nexclude example.com/c v1.1.0\n"
    ++ codes "exclude example.com/c v1.2.0\n"

abbrev pub excluding_file : Main
excluding_file = record (main_with (1, 16) (first_of (codes "a") ∷ []) []) {
  excludes = at (codes "c") (codes "v1.1.0") ∷ at (codes "c") (codes "v1.2.0") ∷ [];
}

-- It requires a and z.
abbrev pub ends_text : List ℕ
ends_text = codes "module example.com/m\ngo 1.16\nrequire example.com/a v1.0.0\nrequire example.com/z v1.0.0\n"

abbrev pub ends_file : Main
ends_file = main_with (1, 16) (first_of (codes "a") ∷ first_of (codes "z") ∷ []) []

-- It requires a module that no proxy has.
abbrev pub unfetchable_text : List ℕ
unfetchable_text = codes "module example.com/m\nrequire local v0.0.0\n"

abbrev pub unfetchable_file : Main
unfetchable_file = main_with (1, 16) (local_zero ∷ []) []

-- It replaces that by a folder.
abbrev pub replacing_text : List ℕ
replacing_text = unfetchable_text ++ codes "replace local => ../local\n"

abbrev pub replacing_file : Main
replacing_file = main_with (1, 16) (local_zero ∷ []) ((every_of (codes "local"), Folder (codes "../local")) ∷ [])

-- It requires a fork, too, which replaces each version of a.
abbrev pub forking_text : List ℕ
forking_text = codes "module example.com/m\ngo 1.16\nrequire example.com/a v1.0.0\nrequire example.com/fork v1.1.0\n"
    ++ codes "replace example.com/a => example.com/fork v1.1.0\n"

abbrev pub forking_file : Main
forking_file = main_with (1, 16) (first_of (codes "a") ∷ at (codes "fork") (codes "v1.1.0") ∷ [])
    ((every_of (codes "example.com/a"), Module (codes "example.com/fork") (codes "v1.1.0")) ∷ [])

-- It requires a, a later version of b, and c.
abbrev pub three_text : List ℕ
three_text = codes "module example.com/m\ngo 1.16\nrequire example.com/a v1.0.0\nrequire example.com/b v1.1.0\n"
    ++ codes "require example.com/c v1.0.0\n"

abbrev pub three_file : Main
three_file = main_with (1, 16)
    (first_of (codes "a") ∷ at (codes "b") (codes "v1.1.0") ∷ first_of (codes "c") ∷ []) []

-- It has go 1.22, and requires a, b and c.
abbrev pub later_text : List ℕ
later_text = codes "module example.com/m\ngo 1.22\nrequire example.com/a v1.0.0\nrequire example.com/b v1.0.0\n"
    ++ codes "require example.com/c v1.0.0\n"

abbrev pub later_file : Main
later_file = main_with (1, 22) (first_of (codes "a") ∷ first_of (codes "b") ∷ first_of (codes "c") ∷ []) []

-- It replaces two paths by a fork, and a version of each by a folder: in one order and in the other.
abbrev pub folders_text : List ℕ
folders_text = both_text ++ codes "replace example.com/a => example.com/fork v1.1.0\n"
    ++ codes "replace example.com/a v1.0.0 => ../a\nreplace example.com/b v1.0.0 => ../b\n"
    ++ codes "replace example.com/b => example.com/fork v1.1.0\n"

abbrev pub folders_file : Main
folders_file = main_with (1, 16) (first_of (codes "a") ∷ first_of (codes "b") ∷ [])
    ((every_of (codes "example.com/a"), Module (codes "example.com/fork") (codes "v1.1.0"))
    ∷ (one_of (codes "example.com/a") (codes "v1.0.0"), Folder (codes "../a"))
    ∷ (one_of (codes "example.com/b") (codes "v1.0.0"), Folder (codes "../b"))
    ∷ (every_of (codes "example.com/b"), Module (codes "example.com/fork") (codes "v1.1.0")) ∷ [])

-- It requires v1.9.0 of a, and b.
abbrev pub nine_text : List ℕ
nine_text = codes "module example.com/m\ngo 1.16\nrequire example.com/a v1.9.0\nrequire example.com/b v1.0.0\n"

abbrev pub nine_file : Main
nine_file = main_with (1, 16) (at (codes "a") (codes "v1.9.0") ∷ first_of (codes "b") ∷ []) []

-- It requires modules whose paths begin with a dash and with a capital letter, and have a digit and a dash.
abbrev pub hosts_text : List ℕ
hosts_text = codes "module example.com/m\nrequire -a.org v1.0.0\nrequire A.org v1.0.0\nrequire a-1.org v1.0.0\n"

abbrev pub hosts_file : Main
hosts_file = main_with (1, 16)
    ((codes "-a.org", codes "v1.0.0") ∷ (codes "A.org", codes "v1.0.0") ∷ (codes "a-1.org", codes "v1.0.0") ∷ []) []

-- An unknown directive stands on its twelfth line.
abbrev pub unknown_text : List ℕ
unknown_text = codes "module example.com/m\n\n\n\n\n\n\n\n\n\n\nfoo\n"

-- the number of module versions that may be opened
abbrev pub most_opened : ℕ
most_opened = 65536

-- versions v0.0.N of a, one for each N below a number
unfoldable pub versions_below : ℕ → List ModuleVersion
versions_below zero = []
versions_below (suc n) = at (codes "a") (codes "v0.0." ++ decimal n) ∷ versions_below n

-- a line for each
unfoldable pub lines_below : ℕ → List ℕ
lines_below n =
    flat_map (λ (x : ModuleVersion). codes "require " ++ x.0 ++ codes " " ++ x.1 ++ codes "\n") (versions_below n)

-- It requires one module more.
abbrev pub many_text : List ℕ
many_text = codes "module example.com/m // It requires many versions.\n" ++ lines_below (suc most_opened)

abbrev pub many_file : Main
many_file = main_with (1, 16) (versions_below (suc most_opened)) []

-- What replaces them has a path that no proxy has.
abbrev pub corp_file : Main
corp_file = record many_file {
  replaces = (every_of (codes "example.com/a"), Module (codes "corp") (codes "v1.0.0")) ∷ [];
}

-- It requires as many as may be opened.
abbrev pub full_file : Main
full_file = main_with (1, 16) (versions_below most_opened) []

-- a text with what it says
abbrev pub MainMeaning : Type 0
MainMeaning = List ℕ × Main

abbrev pub valid_mains : List MainMeaning
valid_mains =
    (alone_text, alone_file) ∷ (both_text, both_file) ∷ (one_text, one_file) ∷ (two_text, two_file)
    ∷ (excluding_text, excluding_file) ∷ (ends_text, ends_file) ∷ (unfetchable_text, unfetchable_file)
    ∷ (replacing_text, replacing_file) ∷ (forking_text, forking_file) ∷ (three_text, three_file)
    ∷ (later_text, later_file) ∷ (folders_text, folders_file) ∷ (nine_text, nine_file) ∷ (hosts_text, hosts_file)
    ∷ table_mains

abbrev pub main_among : List MainMeaning → List ℕ → Result Main (ℕ × Misreading)
main_among [] content = if bytes_eq content many_text then Ok many_file else Err (1, Unknown)
main_among (one ∷ others) content = if bytes_eq content one.0 then Ok one.1 else main_among others content

-- what the bytes of a main file say; no bytes say nothing
abbrev pub main_of_rows : List ℕ → Result Main (ℕ × Misreading)
main_of_rows content =
    if bytes_eq content [] then Err (0, NoModule)
    else (if bytes_eq content unknown_text then Err (12, Unknown) else main_among valid_mains content)

-- ---- files of other modules

abbrev pub file_with : List ℕ → ℕ × ℕ → List ModuleVersion → Dependency
file_with name go requirements = record { declared = Some (path_of name); go = go; requirements = requirements }

-- It requires nothing.
abbrev pub bare_file : List ℕ → Dependency
bare_file name = file_with name (1, 16) []

-- It has no bytes, and so declares no path.
abbrev pub empty_file : Dependency
empty_file = record { declared = None; go = (1, 16); requirements = [] }

-- A `require` without a version stands on its third line.
abbrev pub malformed_text : List ℕ
malformed_text = codes "module example.com/b\n\nrequire example.com/c\n"

-- A `require` with an invalid version stands on its twelfth line.
abbrev pub late_text : List ℕ
late_text = codes "module example.com/a\n\n\n\n\n\n\n\n\n\n\nrequire example.com/c 1.0\n"

-- a stand-in for more bytes than a file may have
abbrev pub huge_text : List ℕ
huge_text = codes "module example.com/huge\n"

-- It is pruned, and requires one module more than may be opened.
abbrev pub wide_text : List ℕ
wide_text = codes "module example.com/a // It requires many versions.\ngo 1.17\n" ++ lines_below (suc most_opened)

abbrev pub wide_file : Dependency
wide_file = file_with (codes "a") (1, 17) (versions_below (suc most_opened))

-- it requires one module
abbrev pub file_requiring : List ℕ → ℕ × ℕ → List ℕ → List ℕ → Dependency
file_requiring name go other version = file_with name go (at other version ∷ [])

-- a text with what it says
abbrev pub TextMeaning : Type 0
TextMeaning = List ℕ × Dependency

abbrev pub bare : List ℕ → TextMeaning
bare name = (module_line name, bare_file name)

-- a file without a go directive
abbrev pub requires : List ℕ → List ℕ → List ℕ → TextMeaning
requires name other version = (requiring name other version, file_requiring name (1, 16) other version)

-- a file of go 1.16 or of go 1.17, which requires the first version of another module
abbrev pub old : List ℕ → List ℕ → TextMeaning
old name other =
    (going name (codes "1.16") other (codes "v1.0.0"), file_requiring name (1, 16) other (codes "v1.0.0"))

abbrev pub new : List ℕ → List ℕ → TextMeaning
new name other =
    (going name (codes "1.17") other (codes "v1.0.0"), file_requiring name (1, 17) other (codes "v1.0.0"))

-- the files of a and b, which are pruned, and require two versions each of c, d, e, f and g
abbrev pub lesser_text : List ℕ
lesser_text = module_line (codes "a") ++ codes "go 1.17\n" ++ require_line (codes "c") (codes "v1.0.9")
    ++ require_line (codes "d") (codes "v0.9.0") ++ require_line (codes "e") (codes "v1.0.0-9")
    ++ require_line (codes "f") (codes "v1.0.0-10") ++ require_line (codes "g") (codes "v1.0.0")

abbrev pub lesser_file : Dependency
lesser_file = file_with (codes "a") (1, 17)
    (at (codes "c") (codes "v1.0.9") ∷ at (codes "d") (codes "v0.9.0") ∷ at (codes "e") (codes "v1.0.0-9")
    ∷ at (codes "f") (codes "v1.0.0-10") ∷ first_of (codes "g") ∷ [])

abbrev pub greater_text : List ℕ
greater_text = module_line (codes "b") ++ codes "go 1.17\n" ++ require_line (codes "c") (codes "v1.0.10")
    ++ require_line (codes "d") (codes "v1.0.0") ++ require_line (codes "e") (codes "v1.0.0-10")
    ++ require_line (codes "f") (codes "v1.0.0") ++ require_line (codes "g") (codes "v1.1.0-9")

abbrev pub greater_file : Dependency
greater_file = file_with (codes "b") (1, 17)
    (at (codes "c") (codes "v1.0.10") ∷ first_of (codes "d") ∷ at (codes "e") (codes "v1.0.0-10")
    ∷ first_of (codes "f") ∷ at (codes "g") (codes "v1.1.0-9") ∷ [])

-- a file of a go version, which requires the first version of d
abbrev pub of_go : List ℕ → List ℕ → ℕ × ℕ → TextMeaning
of_go name go numbers =
    (going name go (codes "d") (codes "v1.0.0"), file_requiring name numbers (codes "d") (codes "v1.0.0"))

abbrev pub valid_files : List TextMeaning
valid_files =
    ([], empty_file)
    ∷ bare (codes "a") ∷ bare (codes "b") ∷ bare (codes "c") ∷ bare (codes "d") ∷ bare (codes "k")
    ∷ bare (codes "z") ∷ bare (codes "fork")
    ∷ requires (codes "a") (codes "c") (codes "v1.9.0") ∷ requires (codes "b") (codes "c") (codes "v1.10.0")
    ∷ requires (codes "a") (codes "c") (codes "v1.2.0") ∷ requires (codes "a") (codes "b") (codes "v1.0.0")
    ∷ (
      going (codes "b") (codes "1.15") (codes "a") (codes "v1.0.0"),
      file_requiring (codes "b") (1, 15) (codes "a") (codes "v1.0.0"),
    )
    ∷ requires (codes "a") (codes "m") (codes "v0.9.0")
    ∷ requires (codes "m") (codes "k") (codes "v1.0.0")
    ∷ old (codes "a") (codes "c") ∷ new (codes "a") (codes "c") ∷ new (codes "c") (codes "d")
    ∷ requires (codes "b") (codes "a") (codes "v1.10.0")
    ∷ of_go (codes "a") (codes "1.18") (1, 18) ∷ of_go (codes "b") (codes "1.22") (1, 22)
    ∷ of_go (codes "c") (codes "2.0") (2, 0) ∷ (lesser_text, lesser_file) ∷ (greater_text, greater_file) ∷ table_files

abbrev pub meaning_among : List TextMeaning → List ℕ → Result Dependency (ℕ × Misreading)
meaning_among [] content = if bytes_eq content wide_text then Ok wide_file else Err (1, Unknown)
meaning_among (one ∷ others) content = if bytes_eq content one.0 then Ok one.1 else meaning_among others content

-- what the bytes of another module's file say
abbrev pub said_of_rows : List ℕ → Result Dependency (ℕ × Misreading)
said_of_rows content =
    if bytes_eq content malformed_text then Err (3, WrongArguments)
    else (if bytes_eq content late_text then Err (12, BadVersion)
    else (if bytes_eq content huge_text then Err (0, TooMany) else meaning_among valid_files content))
