-- A copy from crates/gomod_texts/specs/Reports.antt, which tools/check/headline.py writes.
use Rattle.std.specs.Prelude.{ℕ, List, ◌++◌, codes}
use Rattle.std.specs.Fmt.{decimal}
use Rattle.std.specs.List.{flat_map}
use Rattle.page.specs.ModuleVersion.{ModuleVersion}
use Rattle.page.specs.Asked.{Name, mod_file, folder_file, list_file}
use Rattle.page.specs.Types.{Misreading, Malformed, Class, misreading_word, Fault}
use Rattle.page.specs.ClassWords.{class_word}
use Rattle.page.specs.LineParts.{line, vertex_text}

-- `Malformed LINE KIND`
abbrev pub malformed_text : ℕ → Misreading → List ℕ
malformed_text number kind = codes "Malformed " ++ decimal number ++ codes " " ++ misreading_word kind

-- `CLASS`, or `Malformed LINE KIND`
abbrev pub class_text : Class → List ℕ
class_text (Malformed number kind) = malformed_text number kind
class_text class = class_word class

-- `PATH@VERSION: CLASS`
abbrev pub vertex_fault_text : ModuleVersion → Class → List ℕ
vertex_fault_text x class = vertex_text x ++ codes ": " ++ class_text class

-- a module with its fault as a line
abbrev pub fault_line : ModuleVersion → Class → List ℕ
fault_line x class = line (vertex_fault_text x class)

-- each module with its fault as a line, in order
abbrev pub faults_text : List Fault → List ℕ
faults_text faults = flat_map (λ fault. fault_line fault.vertex fault.class) faults

-- what is wrong with a file: the line, or 0 for the whole file, and the kind
abbrev pub FaultPlace : Type 0
FaultPlace = ℕ × Misreading

-- the prefix, a number, a colon, a space and a word
abbrev pub numbered_line : List ℕ → ℕ → List ℕ → List ℕ
numbered_line prefix number word = line (prefix ++ decimal number ++ codes ": " ++ word)

-- `go.mod:LINE: KIND`
abbrev pub main_line : FaultPlace → List ℕ
main_line place = numbered_line (codes "go.mod:") place.0 (misreading_word place.1)

-- `PATH: WORD`, for the list of a module, or a path that is not listed
abbrev pub list_line : List ℕ → List ℕ → List ℕ
list_line path kind = line (path ++ codes ": " ++ kind)

-- `PATH: NotListed`
abbrev pub not_listed_line : List ℕ → List ℕ
not_listed_line path = list_line path (codes "NotListed")

-- more than 65,536 module versions are opened
abbrev pub too_many_line : List ℕ
too_many_line = line (codes "gomod: TooMany")

-- a file as a report names it: `PATH@VERSION`, `FOLDER` or `PATH list`
abbrev pub name_text : Name → List ℕ
name_text (mod_file path version) = vertex_text (path, version)
name_text (folder_file text) = text
name_text (list_file path) = path ++ codes " list"

-- `gomod: device at NAME`
abbrev pub device_line : Name → List ℕ
device_line name = line (codes "gomod: device at " ++ name_text name)
