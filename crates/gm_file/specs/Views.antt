-- The program's types as contracts see them.
use Rattle.std.specs.Prelude.{◌≡◌, List, map, Some, string_bytes, ⊤}
use Rattle.gm_syntax_words.specs.Words.{Word}
use Rattle.gm_syntax.specs.Document.{Line}
use Rattle.gm_file.specs.declared.replace.Right as declared
use Rattle.gm_file.specs.declared.replace.Right.TheVariants as right
use Rattle.gm_file.specs.declared.replace.Replace.{Replace}
use Rattle.gm_file.specs.declared.replace.Interval.{Interval}
use Rattle.gm_file.specs.declared.sides.RightText.TheVariants as text
use Rattle.gm_file.specs.declared.fault.LineFault.{LineFault}
use Rattle.gm_file.specs.declared.fault.LineFault.TheVariants as line
use Rattle.gm_file.specs.declared.fault.FileFault.{FileFault}
use Rattle.gm_file.specs.declared.fault.FileFault.TheVariants as fault
use Rattle.gm_file.specs.declared.fault.DirectiveKind.TheVariants.{BadPath, BadVersion, Misfit}
use Rattle.gm_name_table.specs.declared.known_names.PairFault.{PairFault}
use Rattle.gm_name_table.specs.declared.known_names.PairFault.TheVariants as pair
use Rattle.gm_name.specs.declared.path.PathFault.{PathFault}
use Rattle.gm_name.specs.declared.path.PathFault.TheVariants as path
use Rattle.gm_version.specs.declared.version.VersionFault.{VersionFault}
use Rattle.gm_version.specs.declared.version.VersionFault.TheVariants as version
use Rattle.gm_file.specs.Directives.{Mode, VersionInterval, Replacing, Right, Folder, Module}
use Rattle.gm_file.specs.Faults.{fault_of}

-- the right side of a `replace`, as contracts state it
abbrev pub right_view : declared.Right → Right
right_view (right.Folder text) = Folder (string_bytes text)
right_view (right.Module path version) = Module path version

-- a `replace`, as contracts state it
abbrev pub replace_view : Replace → Replacing
replace_view r = (record { path = r.left; version = r.version }, right_view r.right)

-- a list of them
abbrev pub replace_views : List Replace → List Replacing
replace_views rs = map replace_view rs

-- an interval, as contracts state it
abbrev pub interval_view : Interval → VersionInterval
interval_view i = (i.low, i.high)

-- a list of them
abbrev pub interval_views : List Interval → List VersionInterval
interval_views is = map interval_view is

-- the fault is the one that the definitions give for the lines; NoMemory says nothing about them
abbrev pub ReportsFault : Mode → List (Line Word) → FileFault → Type 0
ReportsFault mode lines fault.NoMemory = ⊤
ReportsFault mode lines (fault.Directive line kind) = fault_of mode lines ≡ Some (line, kind)

-- the fault of a line whose path is refused
abbrev pub of_path_fault : PathFault → LineFault
of_path_fault path.NoMemory = line.NoMemory
of_path_fault path.BadPath = line.Kind BadPath

-- the same of a version
abbrev pub of_version_fault : VersionFault → LineFault
of_version_fault version.NoMemory = line.NoMemory
of_version_fault version.BadVersion = line.Kind BadVersion
of_version_fault version.NotCanonical = line.Kind BadVersion

-- the same of a path and a version
abbrev pub of_pair_fault : PairFault → LineFault
of_pair_fault pair.NoMemory = line.NoMemory
of_pair_fault pair.BadPath = line.Kind BadPath
of_pair_fault pair.BadVersion = line.Kind BadVersion
of_pair_fault pair.Misfit = line.Kind Misfit
