-- The table of worlds: what a main file says, the other files with what they say, and how `list` ends. All bytes are
-- those of real files, which are written here from what they say.
use Rattle.std.specs.Prelude.{◌++◌, ℕ, List, [], ◌∷◌, map, Option, Some, None, Result, Ok, Err, codes}
use Rattle.std.specs.Fmt.{decimal}
use Rattle.std.specs.List.{flat_map}
use Rattle.page.specs.Asked.{Name, folder_file, mod_file}
use Rattle.page.specs.Directives.{Folder, Module, Replacing, Right}
use Rattle.page.specs.Fields.{Dependency}
use Rattle.page.specs.Main.{Main}
use Rattle.page.specs.ModuleVersion.{ModuleVersion}

-- ---- a world, one line each

-- a file that was asked for, and what it says, or that it is not there
abbrev pub Held : Type 0
Held = Name × Option Dependency

-- what is printed, or what is reported with status 1
pub record World : Type 0 where
  pub main : Main
  pub held : List Held
  pub ends : Result (List ℕ) (List ℕ)

abbrev pub world : Main → List Held → Result (List ℕ) (List ℕ) → World
world main held ends = record { main = main; held = held; ends = ends }

-- ---- modules

abbrev pub mv : List ℕ → List ℕ → ModuleVersion
mv path version = (path, version)

abbrev pub first : List ℕ → ModuleVersion
first path = (path, codes "v1.0.0")

abbrev pub a : ModuleVersion
a = first (codes "a.org")

abbrev pub b : ModuleVersion
b = first (codes "b.org")

abbrev pub c : ModuleVersion
c = first (codes "c.org")

abbrev pub d : ModuleVersion
d = first (codes "d.org")

-- a version of c.org
abbrev pub c_at : List ℕ → ModuleVersion
c_at version = (codes "c.org", version)

-- ---- what files say

-- The main file of m has go 1.17; these are its requirements, excludes and replaces.
abbrev pub main_of : List ModuleVersion → List ModuleVersion → List Replacing → Main
main_of requirements excludes replaces = record {
  path = codes "m";
  go = (1, 17);
  requirements = requirements;
  excludes = excludes;
  replaces = replaces;
}

abbrev pub needs : List ModuleVersion → Main
needs requirements = main_of requirements [] []

-- a replace of each version of a path, and of one
abbrev pub path_by : List ℕ → Right → Replacing
path_by path right = (record { path = path; version = None }, right)

abbrev pub one_by : ModuleVersion → Right → Replacing
one_by x right = (record { path = x.0; version = Some x.1 }, right)

abbrev pub by_module : ModuleVersion → Right
by_module x = Module x.0 x.1

-- another file: the path that it declares, its go version, and its requirements
abbrev pub dep : Option (List ℕ) → ℕ × ℕ → List ModuleVersion → Dependency
dep declared go requirements = record { declared = declared; go = go; requirements = requirements }

abbrev pub held_as : ModuleVersion → Dependency → Held
held_as x file = (mod_file x.0 x.1, Some file)

-- the file of a module, which declares its path
abbrev pub own : ModuleVersion → ℕ × ℕ → List ModuleVersion → Held
own x go requirements = held_as x (dep (Some x.0) go requirements)

-- it requires nothing
abbrev pub plain : ModuleVersion → Held
plain x = own x (1, 16) []

-- it is not there
abbrev pub gone : ModuleVersion → Held
gone x = (mod_file x.0 x.1, None)

abbrev pub folder : List ℕ → ℕ × ℕ → List ModuleVersion → Held
folder text go requirements = (folder_file text, Some (dep None go requirements))

-- ---- their bytes

abbrev pub go_line : ℕ × ℕ → List ℕ
go_line go = codes "go " ++ decimal go.0 ++ codes "." ++ decimal go.1 ++ codes "\n"

abbrev pub pair_lines : List ℕ → List ModuleVersion → List ℕ
pair_lines verb = flat_map (λ (x : ModuleVersion). verb ++ x.0 ++ codes " " ++ x.1 ++ codes "\n")

abbrev pub version_part : Option (List ℕ) → List ℕ
version_part None = []
version_part (Some version) = codes " " ++ version

abbrev pub right_part : Right → List ℕ
right_part (Folder text) = text
right_part (Module path version) = path ++ codes " " ++ version

abbrev pub replace_lines : List Replacing → List ℕ
replace_lines = flat_map (λ (r : Replacing).
    codes "replace " ++ r.0.path ++ version_part r.0.version ++ codes " => " ++ right_part r.1 ++ codes "\n")

abbrev pub main_bytes : Main → List ℕ
main_bytes main = codes "module " ++ main.path ++ codes "\n" ++ go_line main.go
    ++ pair_lines (codes "require ") main.requirements ++ pair_lines (codes "exclude ") main.excludes
    ++ replace_lines main.replaces

abbrev pub module_part : Option (List ℕ) → List ℕ
module_part None = []
module_part (Some path) = codes "module " ++ path ++ codes "\n"

abbrev pub file_bytes : Dependency → List ℕ
file_bytes file = module_part file.declared ++ go_line file.go ++ pair_lines (codes "require ") file.requirements

-- ---- go versions

abbrev pub go_worlds : List World
go_worlds =
    -- go 1.9 is below 1.17
    world (needs (a ∷ [])) (own a (1, 9) (b ∷ []) ∷ plain b ∷ []) (Ok (codes "m\na.org v1.0.0\nb.org v1.0.0\n"))
    -- and go 1.19 to 3.0 are not
    ∷ world (needs (a ∷ [])) (own a (1, 19) (b ∷ []) ∷ []) (Ok (codes "m\na.org v1.0.0\nb.org v1.0.0\n"))
    ∷ world (needs (a ∷ [])) (own a (1, 20) (b ∷ []) ∷ []) (Ok (codes "m\na.org v1.0.0\nb.org v1.0.0\n"))
    ∷ world (needs (a ∷ [])) (own a (2, 1) (b ∷ []) ∷ []) (Ok (codes "m\na.org v1.0.0\nb.org v1.0.0\n"))
    ∷ world (needs (a ∷ [])) (own a (3, 0) (b ∷ []) ∷ []) (Ok (codes "m\na.org v1.0.0\nb.org v1.0.0\n"))
    ∷ world (needs (a ∷ [])) (own a (1, 100) (b ∷ []) ∷ []) (Ok (codes "m\na.org v1.0.0\nb.org v1.0.0\n"))
    -- a folder's file at the top is pruned like any other; it may declare the main module's path
    ∷ world (main_of (a ∷ []) [] (path_by a.0 (Folder (codes "./a")) ∷ []))
    ((folder_file (codes "./a"), Some (dep (Some (codes "m")) (1, 17) (b ∷ []))) ∷ [])
    (Ok (codes "m\na.org v1.0.0 => ./a\nb.org v1.0.0\n"))
    -- what is opened deeply is so at any depth: a version below that at the top, and what a pruned file at the top
    -- requires
    ∷ world (needs (a ∷ b ∷ c_at (codes "v1.2.0") ∷ []))
    (own a (1, 16) (d ∷ []) ∷ own d (1, 16) (c ∷ b ∷ []) ∷ own b (1, 17) (first (codes "e.org") ∷ [])
    ∷ plain (first (codes "e.org")) ∷ plain c ∷ plain (c_at (codes "v1.2.0")) ∷ [])
    (Ok (codes "m\na.org v1.0.0\nb.org v1.0.0\nc.org v1.2.0\nd.org v1.0.0\ne.org v1.0.0\n"))
    -- the main module's own path is opened at the top
    ∷ world (main_of (first (codes "m") ∷ []) [] (path_by (codes "m") (Folder (codes "./own")) ∷ []))
    (folder (codes "./own") (1, 16) (d ∷ []) ∷ plain d ∷ []) (Ok (codes "m\nd.org v1.0.0\n"))
    ∷ []

-- ---- orders

-- a pruned file that requires these
abbrev pub wants : List ModuleVersion → List Held
wants xs = own a (1, 17) xs ∷ []

abbrev pub letters : List ModuleVersion
letters = first (codes "a.org/a2") ∷ first (codes "a.org/a10") ∷ first (codes "a.org/b~_c")
    ∷ first (codes "a.org/B~_c") ∷ []

abbrev pub order_worlds : List World
order_worlds =
    -- the second number counts before the third, below v1.0.0, too
    world (needs (a ∷ []))
    (wants (c_at (codes "v1.1.0") ∷ c_at (codes "v1.0.9") ∷ mv d.0 (codes "v0.9.0") ∷ mv d.0 (codes "v0.10.0") ∷ []))
    (Ok (codes "m\na.org v1.0.0\nc.org v1.1.0\nd.org v0.10.0\n"))
    -- and the third before the pre-release
    ∷ world (needs (a ∷ [])) (wants (c_at (codes "v1.0.1-9") ∷ c ∷ [])) (Ok (codes "m\na.org v1.0.0\nc.org v1.0.1-9\n"))
    -- the first number is one, too, and counts before what is incompatible
    ∷ world (needs (a ∷ []))
    (wants (c_at (codes "v2.0.0+incompatible") ∷ c_at (codes "v10.0.0+incompatible") ∷ c_at (codes "v1.9.0") ∷ []))
    (Ok (codes "m\na.org v1.0.0\nc.org v10.0.0+incompatible\n"))
    -- a module may require a later version of itself
    ∷ world (needs (c ∷ [])) (own c (1, 16) (c_at (codes "v1.2.0") ∷ []) ∷ plain (c_at (codes "v1.2.0")) ∷ [])
    (Ok (codes "m\nc.org v1.2.0\n"))
    -- a version that is not opened counts, too
    ∷ world (needs (a ∷ c ∷ [])) (own a (1, 17) (c_at (codes "v1.2.0") ∷ []) ∷ plain c ∷ [])
    (Ok (codes "m\na.org v1.0.0\nc.org v1.2.0\n"))
    -- paths that differ in their major suffix are two modules; the main module comes first, wherever its path stands
    ∷ world (record (needs (a ∷ mv (codes "a.org/v2") (codes "v2.0.0") ∷ [])) { path = codes "a.org/x" })
    (plain a ∷ plain (mv (codes "a.org/v2") (codes "v2.0.0")) ∷ [])
    (Ok (codes "a.org/x\na.org v1.0.0\na.org/v2 v2.0.0\n"))
    -- the bytes of paths are compared one by one: capital letters come first, and 10 comes before 2
    ∷ world (needs letters) (map plain letters)
    (Ok (codes "m\na.org/B~_c v1.0.0\na.org/a10 v1.0.0\na.org/a2 v1.0.0\na.org/b~_c v1.0.0\n"))
    -- paths are ordered by their bytes, not by their lengths, and a dash comes before a slash
    ∷ world (needs (b ∷ first (codes "a.org/x/y") ∷ first (codes "a.org/x-y") ∷ []))
    (plain b ∷ plain (first (codes "a.org/x/y")) ∷ plain (first (codes "a.org/x-y")) ∷ [])
    (Ok (codes "m\na.org/x-y v1.0.0\na.org/x/y v1.0.0\nb.org v1.0.0\n"))
    ∷ world (needs (b ∷ first (codes "a.org/x/y") ∷ first (codes "a.org/x-y") ∷ []))
    (plain b ∷ gone (first (codes "a.org/x/y")) ∷ gone (first (codes "a.org/x-y")) ∷ [])
    (Err (codes "a.org/x-y@v1.0.0: Missing\na.org/x/y@v1.0.0: Missing\n"))
    -- only the main module's own path has no row
    ∷ world (main_of (first (codes "m/sub") ∷ []) [] (path_by (codes "m/sub") (Folder (codes "./sub")) ∷ []))
    (folder (codes "./sub") (1, 17) [] ∷ []) (Ok (codes "m\nm/sub v1.0.0 => ./sub\n"))
    ∷ []

-- ---- excludes and replaces

-- four modules, and one that is near each
abbrev pub asked_for : List ModuleVersion
asked_for = mv a.0 (codes "v1.1.0") ∷ c_at (codes "v1.1.0-9") ∷ mv d.0 (codes "v1.0.10") ∷ first (codes "b.org/b") ∷ []

abbrev pub near : List ModuleVersion
near = mv a.0 (codes "v1.1.0-9") ∷ c_at (codes "v1.1.0") ∷ mv d.0 (codes "v1.0.9") ∷ first (codes "b.org/B") ∷ []

abbrev pub asked_rows : List ℕ
asked_rows = codes "m\na.org v1.1.0\nb.org/b v1.0.0\nc.org v1.1.0-9\nd.org v1.0.10\n"

abbrev pub exclude_worlds : List World
exclude_worlds =
    -- one version is excluded, no later one, no earlier one, and no module below
    world (main_of (c_at (codes "v1.2.0") ∷ []) (c_at (codes "v1.1.0") ∷ []) []) (plain (c_at (codes "v1.2.0")) ∷ [])
    (Ok (codes "m\nc.org v1.2.0\n"))
    ∷ world (main_of (c ∷ []) (c_at (codes "v1.1.0") ∷ []) []) (plain c ∷ []) (Ok (codes "m\nc.org v1.0.0\n"))
    ∷ world (main_of (first (codes "c.org/sub") ∷ []) (c ∷ []) []) (plain (first (codes "c.org/sub")) ∷ [])
    (Ok (codes "m\nc.org/sub v1.0.0\n"))
    -- an exclude is one of the left side, replaced or not
    ∷ world (main_of (a ∷ []) (b ∷ []) (one_by a (by_module b) ∷ [])) (plain b ∷ [])
    (Ok (codes "m\na.org v1.0.0 => b.org v1.0.0\n"))
    ∷ world (main_of (c ∷ []) (c ∷ []) (one_by c (Folder (codes "./c")) ∷ [])) [] (Ok (codes "m\n"))
    -- it may be one of the main module's own path
    ∷ world (main_of (a ∷ []) (first (codes "m") ∷ []) []) (own a (1, 16) (first (codes "m") ∷ []) ∷ [])
    (Ok (codes "m\na.org v1.0.0\n"))
    -- it counts whatever the go version is
    ∷ world (record (main_of (a ∷ []) (b ∷ []) []) { go = (1, 15) }) (own a (1, 16) (b ∷ []) ∷ [])
    (Ok (codes "m\na.org v1.0.0\n"))
    -- a release is not its pre-release, nor one with another third number, nor a capital letter a small one: neither to
    -- an exclude nor to a replace
    ∷ world (main_of asked_for near []) (map plain asked_for) (Ok asked_rows)
    ∷ world (main_of asked_for [] (map (λ (x : ModuleVersion). one_by x (Folder (codes "./x"))) near))
    (map plain asked_for) (Ok asked_rows)
    ∷ []

abbrev pub later_b : ModuleVersion
later_b = mv b.0 (codes "v2.0.0+incompatible")

abbrev pub replace_worlds : List World
replace_worlds =
    -- a replace of one version replaces no later one, and one of a path no module below
    world (main_of (c_at (codes "v1.2.0") ∷ []) [] (one_by (c_at (codes "v1.1.0")) (Folder (codes "./c")) ∷ []))
    (plain (c_at (codes "v1.2.0")) ∷ []) (Ok (codes "m\nc.org v1.2.0\n"))
    ∷ world (main_of (mv (codes "c.org/v2") (codes "v2.0.0") ∷ []) [] (path_by c.0 (Folder (codes "./c")) ∷ []))
    (plain (mv (codes "c.org/v2") (codes "v2.0.0")) ∷ []) (Ok (codes "m\nc.org/v2 v2.0.0\n"))
    -- a right side is not replaced again
    ∷ world (main_of (a ∷ []) [] (path_by a.0 (by_module b) ∷ path_by b.0 (Folder (codes "./b")) ∷ [])) (plain b ∷ [])
    (Ok (codes "m\na.org v1.0.0 => b.org v1.0.0\n"))
    -- what another module alone requires is replaced, too, and a pre-release
    ∷ world (main_of (a ∷ []) [] (path_by b.0 (Folder (codes "./b")) ∷ []))
    (own a (1, 16) (b ∷ []) ∷ folder (codes "./b") (1, 16) [] ∷ [])
    (Ok (codes "m\na.org v1.0.0\nb.org v1.0.0 => ./b\n"))
    ∷ world (main_of (c_at (codes "v1.0.0-9") ∷ []) [] (path_by c.0 (Folder (codes "./c")) ∷ []))
    (folder (codes "./c") (1, 16) [] ∷ []) (Ok (codes "m\nc.org v1.0.0-9 => ./c\n"))
    -- the right side may have the same path, or be an absolute folder
    ∷ world (main_of (c ∷ []) [] (path_by c.0 (by_module (c_at (codes "v1.2.0"))) ∷ []))
    (plain (c_at (codes "v1.2.0")) ∷ []) (Ok (codes "m\nc.org v1.0.0 => c.org v1.2.0\n"))
    ∷ world (main_of (a ∷ []) [] (path_by a.0 (Folder (codes "/nowhere/a")) ∷ []))
    ((folder_file (codes "/nowhere/a"), None) ∷ []) (Err (codes "a.org@v1.0.0: Missing\n"))
    ∷ world (main_of (a ∷ []) [] (path_by a.0 (Folder (codes "/tmp/page/a")) ∷ []))
    (folder (codes "/tmp/page/a") (1, 17) [] ∷ []) (Ok (codes "m\na.org v1.0.0 => /tmp/page/a\n"))
    -- a folder's file may require a later version of its module
    ∷ world (main_of (c ∷ []) [] (one_by c (Folder (codes "./c")) ∷ []))
    (folder (codes "./c") (1, 16) (c_at (codes "v1.2.0") ∷ []) ∷ plain (c_at (codes "v1.2.0")) ∷ [])
    (Ok (codes "m\nc.org v1.2.0\n"))
    -- a replacing module's file declares a path, which is one of the two
    ∷ world (main_of (a ∷ []) [] (path_by a.0 (by_module b) ∷ [])) (held_as b (dep (Some (codes "m")) (1, 16) []) ∷ [])
    (Err (codes "a.org@v1.0.0: WrongPath\n"))
    ∷ world (main_of (a ∷ []) [] (path_by a.0 (by_module b) ∷ [])) (held_as b (dep None (1, 17) []) ∷ [])
    (Err (codes "a.org@v1.0.0: WrongPath\n"))
    ∷ world (main_of (a ∷ []) [] (path_by a.0 (by_module b) ∷ [])) (held_as b (dep (Some a.0) (1, 16) []) ∷ [])
    (Ok (codes "m\na.org v1.0.0 => b.org v1.0.0\n"))
    -- only the right side has to be one that a proxy may have
    ∷ world (main_of (first (codes "local") ∷ []) [] (path_by (codes "local") (by_module later_b) ∷ []))
    (plain later_b ∷ []) (Ok (codes "m\nlocal v1.0.0 => b.org v2.0.0+incompatible\n"))
    ∷ world (main_of (a ∷ []) [] (path_by a.0 (by_module (first (codes "corp"))) ∷ [])) []
    (Err (codes "a.org@v1.0.0: NotFetchable\n"))
    -- the fault of a file that replaces two modules is one of each
    ∷ world (main_of (a ∷ c ∷ []) [] (path_by a.0 (by_module b) ∷ path_by c.0 (by_module b) ∷ [])) (gone b ∷ [])
    (Err (codes "a.org@v1.0.0: Missing\nc.org@v1.0.0: Missing\n"))
    -- a module that is not opened is shown with its replacement
    ∷ world (main_of (a ∷ []) [] (path_by b.0 (Folder (codes "./b")) ∷ [])) (own a (1, 17) (b ∷ []) ∷ [])
    (Ok (codes "m\na.org v1.0.0\nb.org v1.0.0 => ./b\n"))
    -- the text of a folder is kept as it is, in rows and for files
    ∷ world (main_of (a ∷ b ∷ []) [] (path_by a.0 (Folder (codes "./x/")) ∷ path_by b.0 (Folder (codes "./x")) ∷ []))
    (folder (codes "./x/") (1, 17) [] ∷ folder (codes "./x") (1, 17) [] ∷ [])
    (Ok (codes "m\na.org v1.0.0 => ./x/\nb.org v1.0.0 => ./x\n"))
    -- an incompatible version may be replaced, and have requirements
    ∷ world (main_of (c_at (codes "v2.0.0+incompatible") ∷ []) [] (path_by c.0 (Folder (codes "./c")) ∷ []))
    (folder (codes "./c") (1, 16) (d ∷ []) ∷ plain d ∷ [])
    (Ok (codes "m\nc.org v2.0.0+incompatible => ./c\nd.org v1.0.0\n"))
    -- both versions that the main file requires are opened; the left side's version counts, not the right one's
    ∷ world (main_of (c ∷ c_at (codes "v1.2.0") ∷ []) [] (one_by c (by_module (c_at (codes "v1.9.0"))) ∷ []))
    (own (c_at (codes "v1.9.0")) (1, 16) (d ∷ []) ∷ plain (c_at (codes "v1.2.0")) ∷ plain d ∷ [])
    (Ok (codes "m\nc.org v1.2.0\nd.org v1.0.0\n"))
    -- what a file requires of a module that isn't opened is not opened, though its path would be right for that
    ∷ world (main_of (b ∷ []) [] (path_by a.0 (by_module b) ∷ [])) (held_as b (dep (Some a.0) (1, 16) (c ∷ [])) ∷ [])
    (Err (codes "b.org@v1.0.0: WrongPath\n"))
    ∷ []

-- ---- paths and texts

abbrev pub path_worlds : List World
path_worlds =
    -- a path above the module's, or one below it, is a wrong one, and has its own fault
    world (needs (a ∷ first (codes "a.org/sub") ∷ first (codes "c.org/sub") ∷ []))
    (held_as a (dep (Some (codes "a.org/sub")) (1, 16) []) ∷ gone (first (codes "a.org/sub"))
    ∷ held_as (first (codes "c.org/sub")) (dep (Some c.0) (1, 16) []) ∷ [])
    (Err (codes "a.org@v1.0.0: WrongPath\na.org/sub@v1.0.0: Missing\nc.org/sub@v1.0.0: WrongPath\n"))
    -- the dot stands in the first element, where each byte counts, and there may be two
    ∷ world (needs (first (codes "a.b.c/x") ∷ first (codes "a_b.com/x") ∷ first (codes "corp/a.b")
    ∷ first (codes "eXample.com/a") ∷ []))
    (gone (first (codes "a.b.c/x")) ∷ [])
    (Err (codes "a.b.c/x@v1.0.0: Missing\na_b.com/x@v1.0.0: NotFetchable\ncorp/a.b@v1.0.0: NotFetchable\n"
    ++ codes "eXample.com/a@v1.0.0: NotFetchable\n"))
    -- a digit may begin it, it may have no letter, and dashes, but no tilde
    ∷ world (needs (first (codes "0--1.-y-.z-") ∷ first (codes "1.2") ∷ first (codes "a~b.org") ∷ []))
    (gone (first (codes "0--1.-y-.z-")) ∷ gone (first (codes "1.2")) ∷ [])
    (Err (codes "0--1.-y-.z-@v1.0.0: Missing\n1.2@v1.0.0: Missing\na~b.org@v1.0.0: NotFetchable\n"))
    -- a module that another one requires is reported, too, and a version of the main module; one that is not opened is
    -- listed
    ∷ world (needs (a ∷ first (codes "m") ∷ []))
    (own a (1, 16) (b ∷ first (codes "local") ∷ []) ∷ held_as b (dep (Some d.0) (1, 16) []) ∷ [])
    (Err (codes "b.org@v1.0.0: WrongPath\nlocal@v1.0.0: NotFetchable\nm@v1.0.0: NotFetchable\n"))
    ∷ world (needs (a ∷ [])) (own a (1, 17) (first (codes "local") ∷ []) ∷ [])
    (Ok (codes "m\na.org v1.0.0\nlocal v1.0.0\n"))
    -- a declared path is compared byte by byte, with its major suffix, for a version of the main module, too
    ∷ world (record (needs (first (codes "a.org/x") ∷ mv (codes "a.org/v2") (codes "v2.0.0") ∷ first (codes "b.org/B")
    ∷ c_at (codes "v2.0.0+incompatible") ∷ [])) { path = codes "a.org/x" })
    (held_as (first (codes "a.org/x")) (dep (Some d.0) (1, 16) [])
    ∷ held_as (mv (codes "a.org/v2") (codes "v2.0.0")) (dep (Some a.0) (1, 16) [])
    ∷ held_as (first (codes "b.org/B")) (dep (Some (codes "b.org/b")) (1, 16) [])
    ∷ held_as (c_at (codes "v2.0.0+incompatible")) (dep (Some (codes "c.org/v2")) (1, 16) []) ∷ [])
    (Err (codes "a.org/v2@v2.0.0: WrongPath\na.org/x@v1.0.0: WrongPath\nb.org/B@v1.0.0: WrongPath\n"
    ++ codes "c.org@v2.0.0+incompatible: WrongPath\n"))
    -- a version's plus sign is shown, and is part of its file's name
    ∷ world (needs (c_at (codes "v2.0.0+incompatible") ∷ [])) (plain (c_at (codes "v2.0.0+incompatible")) ∷ [])
    (Ok (codes "m\nc.org v2.0.0+incompatible\n"))
    ∷ world (needs (c_at (codes "v2.0.0+incompatible") ∷ [])) (gone (c_at (codes "v2.0.0+incompatible")) ∷ [])
    (Err (codes "c.org@v2.0.0+incompatible: Missing\n"))
    ∷ []

-- ---- all

abbrev pub table : List World
table = go_worlds ++ order_worlds ++ exclude_worlds ++ replace_worlds ++ path_worlds

-- the main files of the table, and the other files, with what they say
abbrev pub table_mains : List (List ℕ × Main)
table_mains = map (λ (w : World). (main_bytes w.main, w.main)) table

abbrev pub file_there : Held → List (List ℕ × Dependency)
file_there (name, None) = []
file_there (name, Some file) = (file_bytes file, file) ∷ []

abbrev pub table_files : List (List ℕ × Dependency)
table_files = flat_map (λ (w : World). flat_map file_there w.held) table
