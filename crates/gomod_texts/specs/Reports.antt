-- The lines of reports, which are written when a command prints nothing.
use Rattle.std.specs.Prelude.{ℕ, List, ◌++◌, codes, Option, Some, None}
use Rattle.std.specs.Fmt.{decimal}
use Rattle.std.specs.List.{flat_map}
use Rattle.gm_name.specs.ModuleVersion.{ModuleVersion}
use Rattle.gm_syntax_words.specs.declared.fault.SyntaxFault.{SyntaxFault}
use Rattle.gm_syntax_words.specs.declared.fault.SyntaxFault.TheVariants as syntax
use Rattle.gm_store_parts.specs.Asked.{Name, mod_file, folder_file, list_file}
use Rattle.gm_file.specs.declared.misreading.Misreading.{Misreading}
use Rattle.gm_file.specs.declared.misreading.Misreading.TheVariants as misreading
use Rattle.gm_graph_files.specs.ClassWords.{class_word}
use Rattle.gm_graph_files.specs.declared.class.Class.TheVariants.{Malformed}
use Rattle.gm_graph_files.specs.declared.class.Class.{Class}
use Rattle.gm_file.specs.Misreading.{misreading_word}
use Rattle.gm_graph.specs.declared.fault.Fault.{Fault}
use Rattle.gomod_texts.specs.declared.reports.report.Refusal.{Refusal}
use Rattle.gomod_texts.specs.declared.reports.report.Refusal.TheVariants.{Spelling, Misfit}
use Rattle.gomod_texts.specs.LineParts.{line, vertex_text}

-- ---- faults of modules

-- `Malformed LINE KIND`
abbrev pub malformed_text : ℕ → Misreading → List ℕ
malformed_text number kind = codes "Malformed " ++ decimal number ++ codes " " ++ misreading_word kind

-- `CLASS`, or `Malformed LINE KIND`
abbrev pub class_text : Class → List ℕ
class_text (Malformed number kind) = malformed_text number kind
class_text class = class_word class

-- `PATH@VERSION: CLASS`
abbrev pub vertex_fault_text : ModuleVersion → Class → List ℕ
vertex_fault_text x class = vertex_text x ++ codes ": " ++ class_text class

-- a module with its fault as a line
abbrev pub fault_line : ModuleVersion → Class → List ℕ
fault_line x class = line (vertex_fault_text x class)

-- each module with its fault as a line, in order
abbrev pub faults_text : List Fault → List ℕ
faults_text faults = flat_map (λ fault. fault_line fault.vertex fault.class) faults

-- ---- faults of files

-- what is wrong with a file: the line, or 0 for the whole file, and the kind
abbrev pub FaultPlace : Type 0
FaultPlace = ℕ × Misreading

-- The place and kind of what is wrong with bytes that are not a document. Memory running out is not a fault
-- of the bytes.
abbrev pub syntax_place : SyntaxFault → Option FaultPlace
syntax_place syntax.NoMemory = None
syntax_place syntax.TooMany = Some (0, misreading.TooMany)
syntax_place syntax.NotUtf8 = Some (0, misreading.NotUtf8)
syntax_place (syntax.Syntax number kind) = Some (number, misreading.Syntax kind)

-- the prefix, a number, a colon, a space and a word
abbrev pub numbered_line : List ℕ → ℕ → List ℕ → List ℕ
numbered_line prefix number word = line (prefix ++ decimal number ++ codes ": " ++ word)

-- `go.mod:LINE: KIND`
abbrev pub main_line : FaultPlace → List ℕ
main_line place = numbered_line (codes "go.mod:") place.0 (misreading_word place.1)

-- `go.sum:LINE: BadSum`
abbrev pub bad_sum_line : ℕ → List ℕ
bad_sum_line number = numbered_line (codes "go.sum:") number (codes "BadSum")

-- `go.sum:0: TooMany`
abbrev pub long_sums_line : List ℕ
long_sums_line = line (codes "go.sum:0: TooMany")

-- `PATH: WORD`, for the list of a module, or a path that is not listed
abbrev pub list_line : List ℕ → List ℕ → List ℕ
list_line path kind = line (path ++ codes ": " ++ kind)

-- `gomod: cannot read NAME`
abbrev pub cannot_read_line : List ℕ → List ℕ
cannot_read_line name = line (codes "gomod: cannot read " ++ name)

-- ---- refusals

-- the word for the refusal of an operation
abbrev pub refusal_word : Refusal → List ℕ
refusal_word Spelling = codes "Spelling"
refusal_word Misfit = codes "Misfit"

-- `edit N: KIND`, for the refused operation N, counted from 1
abbrev pub edit_line : ℕ × List ℕ → List ℕ
edit_line refusal = numbered_line (codes "edit ") refusal.0 refusal.1

-- `PATH: NotListed`
abbrev pub not_listed_line : List ℕ → List ℕ
not_listed_line path = list_line path (codes "NotListed")

-- `gomod: no memory`
abbrev pub no_memory_line : List ℕ
no_memory_line = line (codes "gomod: no memory")

-- more than 65,536 module versions are opened
abbrev pub too_many_line : List ℕ
too_many_line = line (codes "gomod: TooMany")

-- a file as a report names it: `PATH@VERSION`, `FOLDER` or `PATH list`
abbrev pub name_text : Name → List ℕ
name_text (mod_file path version) = vertex_text (path, version)
name_text (folder_file text) = text
name_text (list_file path) = path ++ codes " list"

-- `gomod: device at NAME`
abbrev pub device_line : Name → List ℕ
device_line name = line (codes "gomod: device at " ++ name_text name)
