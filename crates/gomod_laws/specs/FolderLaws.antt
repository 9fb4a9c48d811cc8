-- A law of proxy folders in memory: Go Modules Reference, GOPROXY ("falls back to the next").
use Rattle.std.specs.Prelude.{◌≡◌, ◌↔◌, ◌++◌, ◌∷◌, ℕ, List, [], Option, Some, Contains, slice_get}
use Rattle.gm_store_parts.specs.declared.memory_folder.MemoryFolder.{MemoryFolder}
use Rattle.gm_store_parts.specs.declared.fallback.proxy_list.Mark.{Mark}
use Rattle.gm_store_parts.specs.Asked.{Name, Reply, names_in}
use Rattle.gm_store.specs.declared.folders.in_memory.FoldersInMemory.{FoldersInMemory}
use Rattle.gm_store.specs.FolderLookups.{MayAnswerFrom, lookup_results}
use Rattle.gomod_texts.specs.Outcome.{Outcome}
use Rattle.gm_graph.specs.Run.{AskedInTurn}
use Rattle.gomod_words.specs.declared.usage.Command.{Command}
use Rattle.gomod_outcomes.specs.Runs.{Needs}
use Rattle.gomod_laws.specs.Runs.{HasOutcome, HasPrinted}

-- what may come of asking folders in memory for a name, with these marks between the proxy folders: an answer, or none
-- if one of them has a file that can't be read
abbrev pub FolderMayAnswer : FoldersInMemory → List Mark → Name → Option Reply → Type 0
FolderMayAnswer folders marks name outcome =
    MayAnswerFrom (λ k name seen. slice_get (lookup_results folders name) k ≡ Some seen) marks name outcome

-- A run over folders in memory, none of which failed: it has this outcome, each file that was asked for was needed
-- by the answers before it, and each answer is one that the folders may give.
pub record RunsOver (command : Command) (main : List ℕ) (sums : Option (List ℕ)) (folders : FoldersInMemory)
    (marks : List Mark) (asked : List (Name × Reply)) (outcome : Outcome) : Type 0 where
  pub ends : HasOutcome command main sums asked outcome
  pub in_turn : AskedInTurn (Needs command main sums) asked
  pub answers : (name : Name) (reply : Reply) → Contains asked (name, reply)
      → FolderMayAnswer folders marks name (Some reply)

-- The other folders are the same with one proxy folder more, which is the last, after the mark that is the last.
pub record HasOneMore (folders others : FoldersInMemory) (marks more : List Mark) : Type 0 where
  pub folder : MemoryFolder
  pub mark : Mark
  pub proxies : others.proxies.items ≡ folders.proxies.items ++ folder ∷ []
  pub marks_are : more ≡ marks ++ mark ∷ []
  pub beside : others.beside ≡ folders.beside

-- A store was asked for the same files in both runs, in whatever order.
abbrev pub AskForTheSame : List (Name × Reply) → List (Name × Reply) → Type 0
AskForTheSame asked again = (name : Name) → Contains (names_in again) name ↔ Contains (names_in asked) name

-- If a command prints, it prints the same with one more folder put last, and asks for the same files.
abbrev pub MoreFoldersChangeNothing : Type 0
MoreFoldersChangeNothing = (command : Command) (main : List ℕ) (sums : Option (List ℕ))
    (folders others : FoldersInMemory) (marks more : List Mark) (asked again : List (Name × Reply))
    (one other : Outcome)
    → HasOneMore folders others marks more
    → RunsOver command main sums folders marks asked one → HasPrinted one
    → RunsOver command main sums others more again other
    → (other ≡ one) × AskForTheSame asked again
