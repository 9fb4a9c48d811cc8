-- Laws of runs, which follow from the definitions alone.
use Rattle.std.specs.Prelude.{◌≡◌, ◌⊎◌, ◌∷◌, ℕ, List, [], codes}
use Rattle.gomod_texts.specs.Outcome.{Outcome, text_outcome, out_of_memory}
use Rattle.gomod_words.specs.Usage.{version_line}
use Rattle.gomod_run.specs.Program.{IsWordsOutcome, any_input, anything}

-- `gomod --version` and `gomod -V` print the version, or memory runs out, whatever comes of opening files and of taking
-- standard input
abbrev pub VersionIsPrinted : Type 0
VersionIsPrinted = (program flag : List ℕ) (outcome : Outcome)
    → (flag ≡ codes "--version") ⊎ (flag ≡ codes "-V") → IsWordsOutcome anything any_input (program ∷ flag ∷ []) outcome
    → (outcome ≡ text_outcome version_line) ⊎ (outcome ≡ out_of_memory)

-- `gomod` without words prints nothing and ends with the status of a usage error, or memory runs out, whatever comes
-- of opening files and of taking standard input
abbrev pub NothingIsPrinted : Type 0
NothingIsPrinted = (program : List ℕ) (outcome : Outcome) → IsWordsOutcome anything any_input (program ∷ []) outcome
    → ((outcome.text ≡ []) × (outcome.status ≡ 2)) ⊎ (outcome ≡ out_of_memory)
