-- What the lines of a printed or reported text say: the text, cut at its line feeds, has one line for each row, edge,
-- step or fault, and a line determines its row, its edge, its step or its fault.
use Rattle.std.specs.Prelude.{◌≡◌, ◌≤◌, ℕ, true, List, map, Option, Some, None, Contains, ⊤}
use Rattle.gm_name.specs.Path.{IsPath}
use Rattle.gm_version.specs.Version.{IsVersion}
use Rattle.gm_name.specs.ModuleVersion.{ModuleVersion}
use Rattle.gm_syntax_words.specs.Lines.{HasNoLineFeed, lines_of}
use Rattle.gm_file.specs.Directives.{Right, Folder, Module}
use Rattle.gm_file.specs.Values.{is_folder_path}
use Rattle.gm_graph_select.specs.declared.step.Edge.{Edge}
use Rattle.gm_graph_select.specs.declared.step.Step.{Step}
use Rattle.gm_graph_select.specs.declared.step.Step.TheVariants.{Main, Of}
use Rattle.gm_graph.specs.Entries.{Entry}
use Rattle.gm_graph_select.specs.Chains.{IsChain}
use Rattle.gm_store_sums.specs.Sums.{Sums}
use Rattle.gm_graph_files.specs.declared.class.Class.{Class}
use Rattle.gm_graph_files.specs.declared.class.Class.TheVariants.{Malformed}
use Rattle.gm_file.specs.Main.{Main as MainFile}
use Rattle.gm_graph.specs.declared.fault.Fault.{Fault}
use Rattle.gm_graph.specs.Run.{AreEdges, AreFaults, AreRows, IsEdge, IsOpened, IsVertex}
use Rattle.gm_graph_cache.specs.Sayings.{run_of}
use Rattle.gomod_texts.specs.Queries.{FilesReadAs, Given, longest}
use Rattle.gomod_texts.specs.Reports.{vertex_fault_text}

-- ---- texts that have one line for each of some things

-- each of these is such a thing
abbrev pub AreAll : (X : Type 0) → (X → Type 0) → List X → Type 0
AreAll X Is xs = (x : X) → Contains xs x → Is x

-- The text, cut at its line feeds, is one line for each, in order.
abbrev pub HasLines : (X : Type 0) → (X → Type 0) → (X → List ℕ) → (List X → List ℕ) → Type 0
HasLines X Is line_of text_of = (xs : List X) → AreAll X Is xs → lines_of (text_of xs) ≡ map line_of xs

-- A line is that of one.
abbrev pub LineSaysOne : (X : Type 0) → (X → Type 0) → (X → List ℕ) → Type 0
LineSaysOne X Is line_of = (one other : X) → Is one → Is other → line_of one ≡ line_of other → one ≡ other

-- Those with the same text are the same.
abbrev pub TextSaysAll : (X : Type 0) → (X → Type 0) → (List X → List ℕ) → Type 0
TextSaysAll X Is text_of = (xs others : List X) → AreAll X Is xs → AreAll X Is others
    → text_of xs ≡ text_of others → xs ≡ others

-- One whose line is a line of the text is one of them.
abbrev pub LineIsOfOne : (X : Type 0) → (X → Type 0) → (X → List ℕ) → (List X → List ℕ) → Type 0
LineIsOfOne X Is line_of text_of = (xs : List X) (one : X) → AreAll X Is xs → Is one
    → Contains (lines_of (text_of xs)) (line_of one) → Contains xs one

-- ---- rows whose names are names

-- no replacement, a folder without a line feed, or a path and a version
abbrev pub IsProperRight : Option Right → Type 0
IsProperRight None = ⊤
IsProperRight (Some (Folder text)) = (is_folder_path text ≡ true) × HasNoLineFeed text
IsProperRight (Some (Module path version)) = IsPath path × IsVersion version

-- the main module without a replacement, or a path and a version
abbrev pub IsProperRow : Entry → Type 0
IsProperRow (Main, right) = right ≡ None
IsProperRow (Of x, right) = IsPath x.0 × IsVersion x.1 × IsProperRight right

-- Each row is proper.
abbrev pub AreProperRows : List Entry → Type 0
AreProperRows = AreAll Entry IsProperRow

-- ---- edges and steps

-- the main module, or a path and a version
abbrev pub IsProperStep : Step → Type 0
IsProperStep Main = ⊤
IsProperStep (Of x) = IsPath x.0 × IsVersion x.1

-- Each step is proper.
abbrev pub AreProperSteps : List Step → Type 0
AreProperSteps = AreAll Step IsProperStep

-- Both ends are proper steps.
abbrev pub IsProperEdge : Edge → Type 0
IsProperEdge edge = IsProperStep edge.from × IsProperStep (Of edge.to)

-- Each edge is proper.
abbrev pub AreProperEdges : List Edge → Type 0
AreProperEdges = AreAll Edge IsProperEdge

-- ---- faults

-- A file that is read has at most as many lines as bytes.
abbrev pub IsProperClass : Class → Type 0
IsProperClass (Malformed number kind) = number ≤ longest
IsProperClass _ = ⊤

-- a path, a version and a class
abbrev pub IsProperFault : Fault → Type 0
IsProperFault fault = IsPath fault.vertex.0 × IsVersion fault.vertex.1 × IsProperClass fault.class

-- Each fault is proper.
abbrev pub AreProperFaults : List Fault → Type 0
AreProperFaults = AreAll Fault IsProperFault

-- the line of a fault, without its line feed
abbrev pub fault_text : Fault → List ℕ
fault_text fault = vertex_fault_text fault.vertex fault.class

-- ---- the names of a run

-- If both files of a run are valid, its main module's path is a path, and a module that is opened, or that an edge
-- leads to, is a path and a version, whatever the answers and the faults.
abbrev pub RunHasNames : Type 0
RunHasNames = (run : Given) (main : MainFile) (table : Option Sums) → FilesReadAs run.file run.sums main table
    → IsPath main.path
    × ((x : ModuleVersion) → IsOpened (run_of main table run.answers.asked) x → IsPath x.0 × IsVersion x.1)
    × ((x : ModuleVersion) → IsVertex (run_of main table run.answers.asked) x → IsPath x.0 × IsVersion x.1)

-- Its faults are proper ones.
abbrev pub RunHasProperFaults : Type 0
RunHasProperFaults = (run : Given) (main : MainFile) (table : Option Sums) (faults : List Fault)
    → FilesReadAs run.file run.sums main table → AreFaults (run_of main table run.answers.asked) faults
    → AreProperFaults faults

-- Its rows are proper ones: no folder on the right side of a row has a line feed.
abbrev pub RunHasProperRows : Type 0
RunHasProperRows = (run : Given) (main : MainFile) (table : Option Sums) (rows : List Entry)
    → FilesReadAs run.file run.sums main table → AreRows (run_of main table run.answers.asked) rows → AreProperRows rows

-- And so are its edges.
abbrev pub RunHasProperEdges : Type 0
RunHasProperEdges = (run : Given) (main : MainFile) (table : Option Sums) (edges : List Edge)
    → FilesReadAs run.file run.sums main table → AreEdges (run_of main table run.answers.asked) edges
    → AreProperEdges edges

-- And so are the steps of a chain.
abbrev pub RunHasProperSteps : Type 0
RunHasProperSteps = (run : Given) (main : MainFile) (table : Option Sums) (s : Step) (steps : List Step)
    → FilesReadAs run.file run.sums main table → IsChain (IsEdge (run_of main table run.answers.asked)) s steps
    → AreProperSteps steps
