-- The files that a run asks a store for: each when the answers so far call for it. Which files `graph`, `list` and
-- `chain` need is in Go Modules Reference, "Minimal version selection" and "Module graph pruning".
use Rattle.std.specs.Prelude.{◌≡◌, ◌⊎◌, ◌++◌, ◌∷◌, ℕ, List, [], Option, Some, None}
use Rattle.gm_store_parts.specs.Asked.{Name, Reply, answer_in}
use Rattle.gm_store_parts.specs.States.{StoreState}
use Rattle.gm_store_sums.specs.Sums.{Sums}
use Rattle.gm_file.specs.Main.{Main}
use Rattle.gm_graph.specs.Run.{LoadingNeeds}
use Rattle.gomod_texts.specs.Queries.{FilesReadAs}

-- what a store answered
abbrev pub AnswersByName : Type 0
AnswersByName = Name → Option Reply

-- ---- what a store was asked in a run

-- each file that the answers call for is answered
abbrev pub AnsweredAll : (AnswersByName → Name → Type 0) → AnswersByName → Type 0
AnsweredAll needs answers = (name : Name) → needs answers name → (reply : Reply) × (answers name ≡ Some reply)

-- the device failed at no file, or at one that the answers need and that is not among them
abbrev pub FailsInTurn : (AnswersByName → Name → Type 0) → StoreState → StoreState → Type 0
FailsInTurn needs old new =
    (new.refused ≡ old.refused)
    ⊎ ((name : Name)
    × needs (answer_in new.asked) name
    × (answer_in new.asked name ≡ None)
    × (new.refused ≡ old.refused ++ name ∷ []))

-- ---- what `graph`, `list` and `chain` need

-- The bytes are those of a valid main module's file, and of a valid go.sum if one is given. The name is that of the
-- go.mod of a module which these files and the answers so far open, and which may be asked for. If the main file or
-- the go.sum is invalid, no file is needed.
pub record GraphNeeds (file : List ℕ) (sums : Option (List ℕ)) (answers : AnswersByName) (name : Name) : Type 0 where
  pub main : Main
  pub table : Option Sums
  pub read : FilesReadAs file sums main table
  pub calls : LoadingNeeds main table answers name
