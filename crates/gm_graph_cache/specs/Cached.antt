-- What a cache holds, what it finds of a vertex, and which requirements it returns.
use Rattle.std.specs.Prelude.{◌≡◌, ◌<◌, ℕ, List, [], ◌∷◌, ◌++◌, Option, Some, None, MatchResult, Result, Ok, Err, length, map, IsSomeAnd}
use Rattle.std.specs.Option.{option_and_then, option_copied}
use Rattle.std.specs.Borrow.{Fml, MutBor}
use Rattle.std.specs.Io.BufRead.{Rests}
use Rattle.gm_name.specs.ModuleVersion.{ModuleVersion, module_at}
use Rattle.gm_name_table.specs.Listed.{BeginsWith}
use Rattle.gm_file.specs.Fields.{Dependency}
use Rattle.gm_store_parts.specs.Asked.{Name, Reply, name_of}
use Rattle.gm_store_parts.specs.declared.files.history.History.{History}
use Rattle.gm_store_sums.specs.Sums.{Sums}
use Rattle.gm_graph_cache.specs.declared.cache.by_name.Known.{Known}
use Rattle.gm_graph_cache.specs.declared.cache.by_name.Known.TheVariants as known
use Rattle.gm_graph_files.specs.declared.class.Class.{Class}
use Rattle.gm_graph_files.specs.declared.depth.Depth.{Depth}
use Rattle.gm_graph_files.specs.declared.depth.Turn.{Turn}
use Rattle.gm_graph_files.specs.declared.summary.Kept.{Kept}
use Rattle.gm_graph_files.specs.declared.summary.ListSpan.{ListSpan}
use Rattle.gm_graph_cache.specs.declared.cache.Cache.{Cache}
use Rattle.gm_file.specs.Main.{Main, without_excluded}
use Rattle.gm_graph_cache.specs.FileTable.{kept_at}
use Rattle.gm_graph_cache.specs.Held.{HoldsAnswers, held_under}
use Rattle.gm_graph_files.specs.Reading.{file_of}
use Rattle.gm_graph_files.specs.Turns.{turn}
use Rattle.gm_graph_cache.specs.Sayings.{Run, Says, run_of, KeepsSayings}
use Rattle.gm_graph_files.specs.Summaries.{listed_span, own_span_at}
use mir.Syntax.{named}
use Rattle.gm_graph_cache.specs.contracts.cache.Cache.{the_row}
use Rattle.gm_graph_cache.specs.declared.cache.parts.CacheParts.{CacheParts}

-- the main file of a cache
abbrev pub main_in : Cache → Main
main_in cache = cache.main.now

-- the go.sum of a cache, if it has one
abbrev pub sums_in : Cache → Option Sums
sums_in cache = option_copied cache.sums

-- the turns of a history, in order
abbrev pub turns_held : History ModuleVersion Depth → List Turn
turns_held history = map (λ one. turn one.0 one.1) history.items

-- the turns whose requirements were requested
abbrev pub turns_in : Cache → List Turn
turns_in cache = turns_held cache.turns

-- the modules that have numbers, each at the place that is its number
abbrev pub table_in : Cache → List ModuleVersion
table_in cache = cache.modules.modules

-- what is kept of the file of a name
abbrev pub summary_at : Cache → Name → Option Kept
summary_at cache name = kept_at cache.files name

-- how many files are kept
abbrev pub file_count : Cache → ℕ
file_count cache = length cache.files.files.items

-- what is held of the file of a name: its contents or its fault
abbrev pub held_of : Cache → Name → Option (Result Dependency Class)
held_of cache name = held_under cache.modules cache.files name

-- The run of a cache whose store gave these answers.
abbrev pub run_in : Cache → List (Name × Reply) → Run
run_in cache pairs = run_of (main_in cache) (sums_in cache) pairs

-- The cache holds what these answers say, and nothing else.
abbrev pub Knows : Cache → List (Name × Reply) → Type 0
Knows cache pairs = HoldsAnswers (run_in cache pairs) cache.modules cache.files

-- ---- what is found of a vertex

-- By this run the vertex has no fault, and the own list of the file at this place is that of the vertex's file.
pub record IsSound (cache : Cache) (run : Run) (x : ModuleVersion) (place : ℕ) : Type 0 where
  pub within : place < file_count cache
  pub span : ListSpan
  pub own : own_span_at cache.files.files.items place ≡ Some span
  pub listed : option_and_then listed_span (summary_at cache (file_of (main_in cache) x)) ≡ Some span
  pub file : Dependency
  pub says : Says run x (Ok file)

-- The vertex has no fault, and its file has this name.
pub record HasSoundFile (run : Run) (x : ModuleVersion) (name : Name) : Type 0 where
  pub name_is : name ≡ file_of run.main x
  pub file : Dependency
  pub says : Says run x (Ok file)

-- What is known of a vertex: its fault, or the name of its file if it has none.
abbrev pub IsKnownAs : Run → ModuleVersion → Known → Type 0
IsKnownAs run x (known.Fault class) = Says run x (Err class)
IsKnownAs run x (known.Sound name) = HasSoundFile run x (name_of name)

-- The name of the file that has a vertex's requirements: none if the vertex has a fault.
abbrev pub IsLenderNamed : Run → ModuleVersion → Option Name → Type 0
IsLenderNamed run x None = (class : Class) × Says run x (Err class)
IsLenderNamed run x (Some name) = HasSoundFile run x name

-- By the answers that the cache knows, this is the name of the file that has a vertex's requirements: none if the
-- vertex has a fault.
abbrev pub KnowsLender : Cache → ModuleVersion → Option Name → Type 0
KnowsLender cache x name = (pairs : List (Name × Reply)) → Knows cache pairs → IsLenderNamed (run_in cache pairs) x name

-- the name of a vertex's file, if the vertex has no fault
abbrev pub file_known : Known → Option Name
file_known (known.Fault class) = None
file_known (known.Sound name) = Some (name_of name)

-- The requirements of a vertex, without the excluded ones: none if it has a fault.
pub data AreRequirements (run : Run) (x : ModuleVersion) : List ModuleVersion → Type 0 where
  no_requirements : {class : Class} → Says run x (Err class) → AreRequirements run x []
  its_requirements : {file : Dependency} → Says run x (Ok file)
      → AreRequirements run x (without_excluded run.main file.requirements)

-- The list of each vertex is at the place at which it was.
abbrev pub KeepsSound : Cache → Run → Cache → Run → Type 0
KeepsSound old earlier new later = (x : ModuleVersion) (place : ℕ) → IsSound old earlier x place
    → IsSound new later x place

-- ---- what changes

-- The main file, the go.sum and what is held of each file are the same, and what had a number or a place has it still.
-- More modules may have numbers.
pub record HoldsSame (old new : Cache) : Type 0 where
  pub main : new.main.now ≡ old.main.now
  pub sums : sums_in new ≡ sums_in old
  pub held : (name : Name) → held_of new name ≡ held_of old name
  pub numbered : BeginsWith (table_in old) (table_in new)
  pub sound : (run : Run) → KeepsSound old run new run

-- the same main file, go.sum and list of turns
pub record LentSame (old new : Cache) : Type 0 where
  pub main : new.main.now ≡ old.main.now
  pub sums : sums_in new ≡ sums_in old
  pub turns : turns_in new ≡ turns_in old

-- These are the turns, and nothing else is new: no more modules have numbers.
pub record HasTurns (old new : Cache) (all : List Turn) : Type 0 where
  pub turns : turns_in new ≡ all
  pub holds : HoldsSame old new
  pub modules : new.modules ≡ old.modules
  pub files : new.files ≡ old.files

-- The list has these turns more at its end, and nothing else is new.
abbrev pub HasMoreTurns : Cache → Cache → List Turn → Type 0
HasMoreTurns old new more = HasTurns old new (turns_in old ++ more)

-- Once the borrow of what a call lends ends, this is so of the cache.
abbrev pub HoldsAfterBorrow : MutBor Cache → (Cache → Type 0) → Fml
HoldsAfterBorrow cache Is = Rests (the_row (record { mir = named 1; lft = [] })) cache Is

-- Once the borrow of the requirements ends, the cache has one more turn. If the call was refused, it has the same.
abbrev pub LendsNamed : {T E : Type 0} → MutBor Cache → Turn → Result T E → Fml
LendsNamed cache one result = HoldsAfterBorrow cache
    (λ end. MatchResult result (λ _. HasMoreTurns cache.now end (one ∷ [])) (λ _. HasMoreTurns cache.now end []))

-- the module with a number
abbrev pub module_numbered : Cache → ℕ → ModuleVersion
module_numbered cache number = module_at (table_in cache) number

-- These are the parts of the cache.
pub record ArePartsOf (cache : Cache) (parts : CacheParts) : Type 0 where
  pub modules : parts.modules.items ≡ table_in cache
  pub numbers : parts.numbers.items ≡ cache.modules.numbers
  pub first : parts.first ≡ cache.first
  pub files : parts.files ≡ cache.files.files

-- The cache knows these answers, and comes after one that knew those: the main file and the go.sum are the same, and
-- what files said, the numbers of modules and the places of lists stay.
pub record Follows (old : Cache) (earlier : List (Name × Reply)) (new : Cache) (pairs : List (Name × Reply))
    : Type 0 where
  pub knows : Knows new pairs
  pub main : main_in new ≡ main_in old
  pub sums : sums_in new ≡ sums_in old
  pub numbered : BeginsWith (table_in old) (table_in new)
  pub stays : KeepsSayings (run_in old earlier) (run_in new pairs)
  pub sound : KeepsSound old (run_in old earlier) new (run_in new pairs)

-- The request that was refused last was for the file with this name.
abbrev pub HasFailedOn : Cache → Name → Type 0
HasFailedOn cache name = IsSomeAnd cache.failed (λ file. name_of file ≡ name)
