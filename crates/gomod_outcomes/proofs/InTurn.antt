-- Files that are asked for in turn, each when it is needed.
use Rattle.std.proofs.Common.{ℕ, List, Option}
use Rattle.gm_store_parts.specs.Asked.{Name, Reply, answer_in}
use Rattle.gm_store_sums.specs.Sums.{Sums}
use Rattle.gm_file.specs.Main.{Main}
use Rattle.gm_graph.specs.Run.{AskedInTurn, LoadingNeeds, more, nothing}
use Rattle.gomod_texts.specs.Queries.{FilesReadAs}
use Rattle.gomod_outcomes.specs.Needs.{AnswersByName, GraphNeeds}

abbrev Pairs : Type 0
Pairs = List (Name × Reply)

-- what is needed by one relation is needed by another
wider_in_turn : (one other : AnswersByName → Name → Type 0)
    → ((answers : AnswersByName) (name : Name) → one answers name → other answers name) → {asked : Pairs}
    → AskedInTurn one asked → AskedInTurn other asked
wider_in_turn one other wider nothing = nothing
wider_in_turn one other wider (more {pairs} {name} reply asks needed unasked) =
    more _ (wider_in_turn _ _ wider asks) (wider (answer_in pairs) name needed) unasked

module _ (file : List ℕ) (sums : Option (List ℕ)) (main : Main) (table : Option Sums) (read : FilesReadAs file sums main table) where
  pub loading_needs : (answers : AnswersByName) (name : Name) → LoadingNeeds main table answers name → GraphNeeds file sums answers name
  loading_needs answers name called = record { main = main; table = table; read = read; calls = called }

  -- the files that loading asks for are needed in turn
  pub loading_in_turn : {asked : Pairs} → AskedInTurn (LoadingNeeds main table) asked → AskedInTurn (GraphNeeds file sums) asked
  loading_in_turn asks = wider_in_turn _ _ loading_needs asks
