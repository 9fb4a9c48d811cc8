-- Outcomes of commands, of which it is not said that they are UTF-8.
use Rattle.std.proofs.Common.{ℕ, List, [], Option}
use Rattle.gm_store_parts.specs.Asked.{Name, Reply}
use Rattle.gomod_texts.specs.Queries.{answers_of, given_of}
use Rattle.gomod_texts.specs.Outcome.{Outcome}
use Rattle.gomod_outcomes.specs.Runs.{RunEnds}
use Rattle.gomod_words.specs.declared.usage.Command.{Command}

-- what `HasOutcome` says of an outcome, but for its text's being UTF-8
abbrev pub Ends : Command → List ℕ → Option (List ℕ) → List (Name × Reply) → Outcome → Type 0
Ends command main sums asked outcome = RunEnds command (given_of main sums (answers_of asked [])) outcome
