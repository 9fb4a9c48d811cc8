-- How `edit` ends: the operations, a file, and what is printed or reported.
use Rattle.std.specs.Prelude.{◌++◌, ℕ, List, [], ◌∷◌, codes}
use Rattle.std.specs.List.{AllByRecursion}
use Rattle.page_commands.specs.Edit.{EditEnds}
use Rattle.page_commands.specs.Outcome.{Outcome}
use Rattle.page_commands.specs.Worlds.{prints, reports}

abbrev pub World : Type 0
World = List (List ℕ) × List ℕ × Outcome

abbrev pub Holds : World → Type 0
Holds w = EditEnds w.0 w.1 w.2

abbrev pub world : List (List ℕ) → List ℕ → Outcome → World
world operations file ends = (operations, file, ends)

-- one operation on a file that begins with `module m`, and the rest of what is printed after that
abbrev pub after_module : List ℕ → List ℕ → List ℕ → World
after_module operation file text = (operation ∷ [], codes "module m\n" ++ file, prints (codes "module m\n" ++ text))

-- an operation that is refused
abbrev pub refused : List ℕ → List ℕ → World
refused operation kind = (operation ∷ [], codes "module m\n", reports (codes "edit 1: " ++ kind ++ codes "\n"))

-- what is wrong with a main file
abbrev pub misread : List ℕ → List ℕ → World
misread file report = (codes "go=1.17" ∷ [], file, reports (codes "go.mod:" ++ report ++ codes "\n"))

-- lines of a main file that are valid, and are printed as they stand
abbrev pub kept : List ℕ → World
kept file = after_module (codes "droprequire=x.y") file file

abbrev pub require_worlds : List World
require_worlds =
    -- the first goes to the end, after a blank line; others after the last one, in its block
    after_module (codes "require=a.b@v1.0.0") (codes "exclude c.d v1.0.0\n")
    (codes "exclude c.d v1.0.0\n\nrequire a.b v1.0.0\n")
    ∷ after_module (codes "require=e.f@v1.0.0") (codes "require a.b v1.0.0\nrequire (\n\tc.d v1.0.0\n)\ngo 1.17\n")
    (codes "require a.b v1.0.0\nrequire (\n\tc.d v1.0.0\n\te.f v1.0.0\n)\ngo 1.17\n")
    ∷ after_module (codes "require=e.f@v1.0.0") (codes "require (\n\ta.b v1.0.0\n)\nrequire c.d v1.0.0\n")
    (codes "require (\n\ta.b v1.0.0\n)\nrequire c.d v1.0.0\nrequire e.f v1.0.0\n")
    -- a block without an entry is no place
    ∷ after_module (codes "require=a.b@v1.0.0") (codes "require (\n)\n") (codes "require (\n)\n\nrequire a.b v1.0.0\n")
    -- the first of its path is rewritten and keeps its comment, the later ones go, with a block that they leave empty
    ∷ after_module (codes "require=a.b@v1.2.0") (codes "require a.b v1.0.0 // indirect\nrequire (\n\ta.b v1.1.0\n)\n")
    (codes "require a.b v1.2.0 // indirect\n")
    ∷ after_module (codes "require=a.b@v1.0.0") (codes "require a.b v1.2.0\nrequire a.b/c v1.0.0\n")
    (codes "require a.b v1.0.0\nrequire a.b/c v1.0.0\n")
    -- a path in quotes is the same
    ∷ after_module (codes "require=a.b@v1.2.0") (codes "require \"a.b\" `v1.0.0`\n") (codes "require \"a.b\" v1.2.0\n")
    -- each operation is applied to what those before it left
    ∷ world (codes "require=a.b@v1.0.0" ∷ codes "droprequire=a.b" ∷ codes "require=c.d@v1.0.0" ∷ [])
    (codes "module m\n") (prints (codes "module m\n\nrequire c.d v1.0.0\n"))
    ∷ []

abbrev pub drop_worlds : List World
drop_worlds =
    -- a block that loses its last entry goes, with the blank lines in it and the one after it
    after_module (codes "droprequire=a.b") (codes "\nrequire (\n\ta.b v1.0.0\n\n\ta.b v1.1.0\n)\n\ngo 1.17\n")
    (codes "\ngo 1.17\n")
    ∷ after_module (codes "droprequire=a.b") (codes "require (\n\ta.b v1.0.0\n\tc.d v1.0.0\n)\n")
    (codes "require (\n\tc.d v1.0.0\n)\n")
    -- one blank line goes, also if a targeted line stands before it
    ∷ after_module (codes "droprequire=a.b") (codes "require (\n\ta.b v1.0.0\n)\n\ngo 1.17\n") (codes "go 1.17\n")
    ∷ after_module (codes "droprequire=a.b") (codes "require (\n\ta.b v1.0.0\n)\n\n\ngo 1.17\n") (codes "\ngo 1.17\n")
    ∷ after_module (codes "droprequire=a.b") (codes "require (\n\ta.b v1.0.0\n)\nrequire a.b v1.1.0\n\ngo 1.17\n")
    (codes "go 1.17\n")
    -- a comment in it, or at one of its brackets, keeps it
    ∷ after_module (codes "droprequire=a.b") (codes "require (\n\t// c\n\ta.b v1.0.0\n)\n")
    (codes "require (\n\t// c\n)\n")
    ∷ after_module (codes "droprequire=a.b") (codes "require ( // c\n\ta.b v1.0.0\n)\n") (codes "require ( // c\n)\n")
    ∷ after_module (codes "droprequire=a.b") (codes "require (\n\ta.b v1.0.0\n) // c\n") (codes "require (\n) // c\n")
    -- one that was empty stays
    ∷ after_module (codes "droprequire=a.b") (codes "require (\n)\nrequire a.b v1.0.0 // c\n") (codes "require (\n)\n")
    -- a path in quotes is the same
    ∷ after_module (codes "droprequire=a.b") (codes "require \"a.b\" v1.0.0\nrequire (\n\t`a.b` v1.1.0\n)\n") []
    -- no other path goes, and nothing if there is none
    ∷ after_module (codes "droprequire=a.b") (codes "require  a.b/c v1.0.0\n") (codes "require a.b/c v1.0.0\n")
    -- exactly this pair, and exactly this interval
    ∷ after_module (codes "dropexclude=a.b@v1.0.0") (codes "exclude a.b v1.0.0\nexclude a.b v1.0.1\n")
    (codes "exclude a.b v1.0.1\n")
    ∷ after_module (codes "dropretract=v1.0.0") (codes "retract v1.0.0\nretract [v1.0.0, v1.1.0]\n")
    (codes "retract [v1.0.0, v1.1.0]\n")
    ∷ after_module (codes "dropretract=[v1.0.0, v1.0.0]") (codes "retract v1.0.0\n") []
    ∷ after_module (codes "dropretract=[v1.0.0, v1.1.0]") (codes "retract [v0.9.0, v1.1.0]\n")
    (codes "retract [v0.9.0, v1.1.0]\n")
    -- exactly this left side
    ∷ after_module (codes "dropreplace=a.b") (codes "replace a.b v1.0.0 => ./x\nreplace a.b => ./y\n")
    (codes "replace a.b v1.0.0 => ./x\n")
    ∷ after_module (codes "dropreplace=a.b@v1.0.0") (codes "replace a.b v1.0.0 => ./x\nreplace a.b => ./y\n")
    (codes "replace a.b => ./y\n")
    ∷ []

abbrev pub replace_worlds : List World
replace_worlds =
    -- one without a version takes the place of all of its path, one with a version of the same left side alone
    after_module (codes "replace=a.b=./z") (codes "replace a.b v1.0.0 => ./x // c\nreplace a.b => ./y\n")
    (codes "replace a.b => ./z // c\n")
    ∷ after_module (codes "replace=a.b@v1.0.0=./z") (codes "replace (\n\ta.b => ./y\n\ta.b v1.0.0 => ./x\n)\n")
    (codes "replace (\n\ta.b => ./y\n\ta.b v1.0.0 => ./z\n)\n")
    -- no replace of another path is one of this
    ∷ after_module (codes "replace=a.b=./z") (codes "replace c.d => ./x\n")
    (codes "replace c.d => ./x\nreplace a.b => ./z\n")
    -- the right side is a folder as it stands, in quotes if it must be, or a module whose version need not fit
    ∷ after_module (codes "replace=a.b=./x=y@z") [] (codes "\nreplace a.b => ./x=y@z\n")
    ∷ after_module (codes "replace=a.b=../x y") [] (codes "\nreplace a.b => \"../x y\"\n")
    ∷ after_module (codes "replace=a.b=./x//y") [] (codes "\nreplace a.b => \"./x//y\"\n")
    ∷ after_module (codes "replace=a.b=./x\\\"y") [] (codes "\nreplace a.b => \"./x\\\\\\\"y\"\n")
    ∷ after_module (codes "replace=a.b=./x\ty") [] (codes "\nreplace a.b => \"./x\ty\"\n")
    ∷ after_module (codes "replace=a.b=./{") [] (codes "\nreplace a.b => \"./{\"\n")
    ∷ after_module (codes "replace=a.b=.") [] (codes "\nreplace a.b => .\n")
    ∷ after_module (codes "replace=a.b=..") [] (codes "\nreplace a.b => ..\n")
    ∷ after_module (codes "replace=a.b=/x") [] (codes "\nreplace a.b => /x\n")
    ∷ after_module (codes "replace=a.b=c.d@v3.0.0") [] (codes "\nreplace a.b => c.d v3.0.0\n")
    ∷ []

abbrev pub other_worlds : List World
other_worlds =
    -- an addition that is there changes nothing; another one goes after the last
    after_module (codes "exclude=a.b@v1.0.0") (codes "exclude a.b v1.0.0 // c\n") (codes "exclude a.b v1.0.0 // c\n")
    ∷ after_module (codes "exclude=a.b@v1.0.1") (codes "exclude a.b v1.0.0\ngo 1.17\n")
    (codes "exclude a.b v1.0.0\nexclude a.b v1.0.1\ngo 1.17\n")
    -- an interval of one version is written as that; blanks may stand in its brackets
    ∷ after_module (codes "retract=[v1.0.0,v1.0.0]") [] (codes "\nretract v1.0.0\n")
    ∷ after_module (codes "retract=[ v1.0.0 ,\tv1.1.0 ]") (codes "retract v1.0.0\n")
    (codes "retract v1.0.0\nretract [v1.0.0, v1.1.0]\n")
    -- directives of other verbs are no place for it
    ∷ after_module (codes "retract=v1.0.0") (codes "tool x\n") (codes "tool x\n\nretract v1.0.0\n")
    ∷ after_module (codes "retract=v1.0.0") (codes "replace a.b => ./x\n")
    (codes "replace a.b => ./x\n\nretract v1.0.0\n")
    -- a new go version goes after the module directive, or its block
    ∷ after_module (codes "go=1.21") (codes "require a.b v1.0.0\n") (codes "\ngo 1.21\nrequire a.b v1.0.0\n")
    ∷ world (codes "go=1.21rc1" ∷ []) (codes "// c\nmodule (\n\tm\n)\nrequire a.b v1.0.0\n")
    (prints (codes "// c\nmodule (\n\tm\n)\n\ngo 1.21rc1\nrequire a.b v1.0.0\n"))
    ∷ world (codes "go=1.21" ∷ []) (codes "module (\n\tm\n\t// c\n)\nrequire a.b v1.0.0\n")
    (prints (codes "module (\n\tm\n\t// c\n)\n\ngo 1.21\nrequire a.b v1.0.0\n"))
    ∷ after_module (codes "go=1.21x1") [] (codes "\ngo 1.21x1\n")
    ∷ after_module (codes "go=1.21.3") (codes "go 1.17 // c\n") (codes "go 1.21.3 // c\n")
    ∷ after_module (codes "go=1.21") (codes "go 1.17 // c\n") (codes "go 1.21 // c\n")
    -- each number of a go version may have nine digits, the second one may be 0, and letters and digits may end it
    ∷ after_module (codes "go=1.999999999") [] (codes "\ngo 1.999999999\n")
    ∷ after_module (codes "go=10.0.1rc1") [] (codes "\ngo 10.0.1rc1\n")
    ∷ world (codes "module=a.b" ∷ []) (codes "module (\n\t\"m\" // c\n)\n") (prints (codes "module (\n\ta.b // c\n)\n"))
    ∷ []

abbrev pub refused_worlds : List World
refused_worlds =
    -- a version must fit its path, but in the right side of a replace
    refused (codes "require=a.b@v2.0.0") (codes "Misfit")
    ∷ refused (codes "exclude=a.b/v2@v1.0.0") (codes "Misfit")
    ∷ refused (codes "replace=a.b@v2.0.0=./x") (codes "Misfit")
    ∷ after_module (codes "require=a.b@v2.0.0+incompatible") [] (codes "\nrequire a.b v2.0.0+incompatible\n")
    ∷ after_module (codes "dropexclude=a.b@v2.0.0") [] []
    ∷ after_module (codes "require=a.b/v2@v2.0.0") [] (codes "\nrequire a.b/v2 v2.0.0\n")
    ∷ after_module (codes "exclude=a.b/v2@v2.0.0") [] (codes "\nexclude a.b/v2 v2.0.0\n")
    ∷ refused (codes "require=a.b/v2@v1.0.0") (codes "Misfit")
    -- no operations
    ∷ refused (codes "require=a.b") (codes "Spelling")
    ∷ refused (codes "require=a.b@v1") (codes "Spelling")
    ∷ refused (codes "Require=a.b@v1.0.0") (codes "Spelling")
    ∷ refused (codes "droprequire=a.b@v1.0.0") (codes "Spelling")
    ∷ refused (codes "go=v1.21") (codes "Spelling")
    ∷ refused (codes "go=1.21RC1") (codes "Spelling")
    ∷ refused (codes "replace=a.b=c.d") (codes "Spelling")
    ∷ refused (codes "replace=a.b=.x") (codes "Spelling")
    ∷ refused (codes "module=.a") (codes "Spelling")
    ∷ refused (codes "retract= v1.0.0") (codes "Spelling")
    ∷ refused (codes "retract=[v1.0.0]") (codes "Spelling")
    ∷ refused (codes "retract=[v1.0.0,v1.1.0") (codes "Spelling")
    ∷ refused (codes "retract=v1.0.0]") (codes "Spelling")
    ∷ refused (codes "retract=]") (codes "Spelling")
    ∷ refused (codes "retract=xv1.0.0,v1.1.0]") (codes "Spelling")
    ∷ refused (codes "retract=[v1.0.0,v1.1.0x") (codes "Spelling")
    ∷ refused (codes "replace=a.b=...") (codes "Spelling")
    ∷ refused (codes "replace=a.b=./x\ny") (codes "Spelling")
    ∷ refused (codes "go") (codes "Spelling")
    -- the first refused one is reported by its number, and nothing is printed
    ∷ world (codes "go=1.21" ∷ codes "require=a.b@v2.0.0" ∷ codes "x" ∷ []) (codes "module m\n")
    (reports (codes "edit 2: Misfit\n"))
    ∷ []

abbrev pub fault_worlds : List World
fault_worlds =
    -- without `module` nothing else may be wrong
    misread [] (codes "0: NoModule")
    ∷ misread (codes "go 1\n") (codes "1: BadGo")
    ∷ misread (codes "module ( )\n") (codes "0: NoModule")
    ∷ misread (codes "module m\nmodule m\n") (codes "2: Repeated")
    ∷ misread (codes "module m\ngo 1.17\ngo 1.17\n") (codes "3: Repeated")
    ∷ misread (codes "module m\ngo (\n\t1.17\n)\n") (codes "2: WrongArguments")
    ∷ misread (codes "module m\ngo ( )\n") (codes "2: WrongArguments")
    -- a verb is compared by its spelling; that of a block has its fault at the opening
    ∷ misread (codes "module m\n\"require\" a.b v1.0.0\n") (codes "2: UnknownVerb")
    ∷ misread (codes "module m\nfoo (\n\ta\n)\n") (codes "2: UnknownVerb")
    ∷ misread (codes "module m\nrequire a.b\n") (codes "2: WrongArguments")
    ∷ misread (codes "module m\nrequire a.b v1.0.0 v1.1.0\n") (codes "2: WrongArguments")
    ∷ misread (codes "module ,\n") (codes "1: WrongArguments")
    ∷ misread (codes "module x )\n") (codes "1: WrongArguments")
    ∷ misread (codes "require ( x\n") (codes "1: WrongArguments")
    ∷ misread (255 ∷ []) (codes "0: NotUtf8")
    -- on a line the path before the version, and the version before its fit
    ∷ misread (codes "module m\nrequire .a v1\n") (codes "2: BadPath")
    ∷ misread (codes "module m\nrequire a.b/v2 v1\n") (codes "2: BadVersion")
    ∷ misread (codes "module m\nexclude a.b v2.0.0\n") (codes "2: Misfit")
    -- the first line counts
    ∷ misread (codes "go 1\nmodule .m\nfoo\n") (codes "1: BadGo")
    ∷ []

abbrev pub replace_fault_worlds : List World
replace_fault_worlds =
    -- two right sides of one left side conflict, and the later line has the fault
    misread (codes "module m\nreplace a.b => ./x\nreplace a.b => ./x/\n") (codes "3: ConflictingReplace")
    ∷ after_module (codes "droprequire=a.b")
    (codes "replace a.b => ./x\nreplace a.b => ./x\nreplace a.b v1.0.0 => ./y\n")
    (codes "replace a.b => ./x\nreplace a.b => ./x\nreplace a.b v1.0.0 => ./y\n")
    ∷ misread (codes "module m\nreplace a.b => c.d v1.0.0\nreplace a.b => c.d v1.1.0\n") (codes "3: ConflictingReplace")
    ∷ misread (codes "module m\nreplace a.b => c.d v1.0.0\nreplace a.b => c.e v1.0.0\n") (codes "3: ConflictingReplace")
    ∷ misread (codes "module m\nreplace a.b => ./x\nreplace a.b => c.d v1.0.0\n") (codes "3: ConflictingReplace")
    ∷ misread (codes "module m\nreplace a.b => c.d v1.0.0\nreplace a.b => ./x\n") (codes "3: ConflictingReplace")
    -- the values of the right sides count, not their spelling
    ∷ kept (codes "replace a.b => \"./x\\\\\\\"y\"\nreplace a.b => `./x\\\"y`\n")
    ∷ kept (codes "replace a.b => c.d v1.0.0\nreplace a.b => c.d v1.0.0\n")
    ∷ misread (codes "module m\nreplace a.b v2.0.0 => ./x\n") (codes "2: Misfit")
    -- both paths before both versions, and these before the fit of the left one
    ∷ misread (codes "module m\nreplace a.b v1 => ./x\n") (codes "2: BadVersion")
    ∷ misread (codes "module m\nreplace a.b => .c v1.0.0\n") (codes "2: BadPath")
    ∷ misread (codes "module m\nreplace a.b => \"\" v1.0.0\n") (codes "2: BadPath")
    ∷ misread (codes "module m\nreplace a.b => c.d v1\n") (codes "2: BadVersion")
    ∷ misread (codes "module m\nreplace .a v1 => c.d v1\n") (codes "2: BadPath")
    ∷ misread (codes "module m\nreplace a.b v1 => .c v1.0.0\n") (codes "2: BadPath")
    ∷ misread (codes "module m\nreplace a.b v2.0.0 => c.d v1\n") (codes "2: BadVersion")
    ∷ misread (codes "module m\nreplace a.b => c.d\n") (codes "2: WrongArguments")
    ∷ misread (codes "module m\nreplace a.b => ./x v1.0.0\n") (codes "2: WrongArguments")
    ∷ misread (codes "module m\nretract [v1.0.0]\n") (codes "2: WrongArguments")
    ∷ misread (codes "module m\nretract [v1.0.0, v1]\n") (codes "2: BadVersion")
    ∷ misread (codes "module m\nretract (v1.0.0, v1.1.0]\n") (codes "2: WrongArguments")
    ∷ misread (codes "module m\nretract [v1.0.0; v1.1.0]\n") (codes "2: WrongArguments")
    -- what is kept
    ∷ after_module (codes "droprequire=a.b")
    (codes "retract [v1.1.0, v1.0.0]\ntoolchain x y\ntool x\nreplace \"a.b\" => `c.d` v2.0.0\n")
    (codes "retract [v1.1.0, v1.0.0]\ntoolchain x y\ntool x\nreplace \"a.b\" => `c.d` v2.0.0\n")
    ∷ kept (codes "require a.b/v2 v2.0.0\ngodebug x\nignore y\n")
    -- go versions
    ∷ misread (codes "module m\ngo v1.17\n") (codes "2: BadGo")
    ∷ misread (codes "module m\ngo 1.017\n") (codes "2: BadGo")
    ∷ misread (codes "module m\ngo 0.1\n") (codes "2: BadGo")
    ∷ misread (codes "module m\ngo 1.1000000000\n") (codes "2: BadGo")
    ∷ misread (codes "module m\ngo 1.17.1.1\n") (codes "2: BadGo")
    ∷ misread (codes "module m\ngo 1.17x\n") (codes "2: BadGo")
    ∷ misread (codes "module m\ngo 1.17rc1x\n") (codes "2: BadGo")
    ∷ misread (codes "module m\ngo 1.17rcx\n") (codes "2: BadGo")
    -- a fault of the text comes first
    ∷ misread (codes "foo\n{\n") (codes "2: BadByte")
    ∷ []

abbrev pub RequirementsAreSet : Type 0
RequirementsAreSet = AllByRecursion Holds require_worlds

abbrev pub DirectivesAreDropped : Type 0
DirectivesAreDropped = AllByRecursion Holds drop_worlds

abbrev pub ReplacesAreSet : Type 0
ReplacesAreSet = AllByRecursion Holds replace_worlds

abbrev pub OthersAreSet : Type 0
OthersAreSet = AllByRecursion Holds other_worlds

abbrev pub OperationsAreRefused : Type 0
OperationsAreRefused = AllByRecursion Holds refused_worlds

abbrev pub DirectivesAreReported : Type 0
DirectivesAreReported = AllByRecursion Holds fault_worlds

abbrev pub ReplacesAreReported : Type 0
ReplacesAreReported = AllByRecursion Holds replace_fault_worlds
