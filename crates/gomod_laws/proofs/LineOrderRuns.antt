-- Runs of two main files, where each outcome over the one is an outcome over the other.
use Rattle.std.proofs.Common.{◌≡◌, ℕ, List, [], true, Option, refl}
use Rattle.gm_store_parts.specs.Asked.{Name, Reply}
use Rattle.gomod_texts.specs.Outcome.{Outcome}
use Rattle.gomod_texts.specs.Queries.{Answers, QueryEnds, answers_of, given_of}
use Rattle.gomod_texts.specs.QueryLaws.{AnswerAlike}
use Rattle.gomod_words.specs.declared.usage.Command.{Command}
use Rattle.gomod_outcomes.specs.Runs.{is_query}
use Rattle.gomod_outcomes.specs.Private.ByCommand.{PrintsOf}
use Rattle.gomod_outcomes.proofs.QueryParts.{query_ends}
use Rattle.gomod_laws.proofs.Ended.{Ends}
use Rattle.gomod_laws.proofs.RunsOnce.{query_once}

-- each outcome of a query over the one file is also one over the other
abbrev pub QueriesMove : List ℕ → List ℕ → Option (List ℕ) → Type 0
QueriesMove file other sums = (command : Command) (told : Answers) (outcome : Outcome)
    → QueryEnds (PrintsOf command) (given_of file sums told) outcome
    → QueryEnds (PrintsOf command) (given_of other sums told) outcome

pub same_outcome : (command : Command) (file other : List ℕ) (sums : Option (List ℕ))
    (asked answered : List (Name × Reply)) (a b : Outcome) → is_query command ≡ true → QueriesMove file other sums
    → AnswerAlike asked answered
    → Ends command file sums asked a → Ends command other sums answered b → a ≡ b
same_outcome command file other sums asked answered a b query moves alike one two =
    query_once _ a b (record { file = refl; sums = refl; answers = alike; failed = refl })
    (moves command (answers_of asked []) a (query_ends _ a _ query one)) (query_ends _ b _ query two)
