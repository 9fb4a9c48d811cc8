-- What a store has only later changes nothing that is printed.
use Rattle.std.specs.Prelude.{◌≡◌, ◌⊎◌, ℕ, List, Option, Some}
use Rattle.gm_store_parts.specs.Asked.{Name, Reply, absent, answer_in}
use Rattle.gomod_texts.specs.Outcome.{Outcome}
use Rattle.gm_graph.specs.Run.{AskedInTurn}
use Rattle.gomod_words.specs.declared.usage.Command.{Command}
use Rattle.gomod_outcomes.specs.Runs.{Needs}
use Rattle.gomod_laws.specs.FolderLaws.{AskForTheSame}
use Rattle.gomod_laws.specs.Runs.{HasOutcome, HasPrinted}

-- For each name that both stores were asked for, the later one answered what the earlier one did, or the earlier one
-- answered that there is no such file.
abbrev pub OnlyAddsAnswers : List (Name × Reply) → List (Name × Reply) → Type 0
OnlyAddsAnswers asked later = (name : Name) (before after : Reply)
    → answer_in asked name ≡ Some before → answer_in later name ≡ Some after
    → (after ≡ before) ⊎ (before ≡ absent)

-- Where a command prints, it prints the same over the later store.
abbrev pub LaterPrintsTheSame : Type 0
LaterPrintsTheSame = (command : Command) (main : List ℕ) (sums : Option (List ℕ)) (asked later : List (Name × Reply))
    (one other : Outcome)
    → HasOutcome command main sums asked one → HasPrinted one → OnlyAddsAnswers asked later
    → HasOutcome command main sums later other
    → other ≡ one

-- the run has this outcome, and each file that was asked for was needed by the answers before it
pub record RunsInTurn (command : Command) (main : List ℕ) (sums : Option (List ℕ)) (asked : List (Name × Reply))
    (outcome : Outcome) : Type 0 where
  pub ends : HasOutcome command main sums asked outcome
  pub in_turn : AskedInTurn (Needs command main sums) asked

-- Where a command prints, it asks the later store for the same files.
abbrev pub LaterAsksTheSame : Type 0
LaterAsksTheSame = (command : Command) (main : List ℕ) (sums : Option (List ℕ)) (asked later : List (Name × Reply))
    (one other : Outcome)
    → RunsInTurn command main sums asked one → HasPrinted one → OnlyAddsAnswers asked later
    → RunsInTurn command main sums later other
    → AskForTheSame asked later
