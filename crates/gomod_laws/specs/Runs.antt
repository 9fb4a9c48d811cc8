-- Runs of commands, as the laws speak of them.
use Rattle.std.specs.Prelude.{◌≡◌, ℕ, List, [], Option, None, String}
use Rattle.std.specs.Global.{Global, Vec}
use Rattle.gm_store_parts.specs.Asked.{Name, Reply}
use Rattle.gomod_words.specs.declared.usage.Command.{Command}
use Rattle.gomod_words.specs.declared.usage.Command.TheVariants.{Edit}
use Rattle.gomod_texts.specs.Queries.{answers_of, given_of}
use Rattle.gomod_texts.specs.Outcome.{Outcome, text_outcome}
use Rattle.gomod_outcomes.specs.Runs.{RunEnds}
use Rattle.std.specs.Str.{IsUtf8}

-- The command, over the bytes of a main file, those of a go.sum where one is given, and a store that gave these
-- answers and whose device did not fail, has this outcome, as the clause `ends` of `run` states it: its text is UTF-8.
abbrev pub HasOutcome : Command → List ℕ → Option (List ℕ) → List (Name × Reply) → Outcome → Type 0
HasOutcome command main sums asked outcome =
    RunEnds command (given_of main sums (answers_of asked [])) outcome × IsUtf8 outcome.text

-- the command prints: its status is 0, and nothing is reported
abbrev pub HasPrinted : Outcome → Type 0
HasPrinted outcome = outcome.status ≡ 0

-- `edit` with these operations prints this text of a file with these bytes
abbrev pub IsEdited : Vec (String Global) → List ℕ → List ℕ → Type 0
IsEdited operations file text = HasOutcome (Edit operations) file None [] (text_outcome text)
