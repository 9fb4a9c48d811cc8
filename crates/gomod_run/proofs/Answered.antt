-- What the program says to single words.
use Rattle.std.proofs.Common.{◌≡◌, ◌⊎◌, ◌∷◌, ◌∙◌, ℕ, List, [], ap, codes, inl, inr, true}
use Rattle.gomod_texts.specs.Outcome.{Outcome, text_outcome, out_of_memory}
use Rattle.gomod_words.specs.Laws.{AreUsageError, AskForVersion}
use Rattle.gomod_words.specs.Usage.{IsVersionLine, is_line_or_memory, version_line}
use Rattle.gomod_words.specs.declared.usage.UsageFault.{UsageFault}
use Rattle.gomod_words.specs.declared.usage.UsageFault.TheVariants.{NoMemory, Version, Line}
use Rattle.gomod_words.proofs.Asked.{error_without_words, version_by_long, version_by_short}
use Rattle.gomod_run.specs.Program.{IsWordsOutcome, any_input, anything, usage_outcome}

version_outcome : (fault : UsageFault) (outcome : Outcome) → IsVersionLine fault → outcome ≡ usage_outcome fault
    → (outcome ≡ text_outcome version_line) ⊎ (outcome ≡ out_of_memory)
version_outcome NoMemory outcome known is = inr is
version_outcome (Version text) outcome known is = inl (is ∙ ap text_outcome known)
version_outcome fault outcome known is = absurd known

error_outcome : (fault : UsageFault) (outcome : Outcome) → is_line_or_memory fault ≡ true → outcome ≡ usage_outcome fault
    → ((outcome.text ≡ []) × (outcome.status ≡ 2)) ⊎ (outcome ≡ out_of_memory)
error_outcome NoMemory outcome known is = inr is
error_outcome (Line text) outcome known is = inl (ap (λ (o : Outcome). o.text) is, ap (λ (o : Outcome). o.status) is)
error_outcome fault outcome known is = cc known

asked_version : (words : List (List ℕ)) (outcome : Outcome) → AskForVersion words → IsWordsOutcome anything any_input words outcome
    → (outcome ≡ text_outcome version_line) ⊎ (outcome ≡ out_of_memory)
asked_version words outcome asked (inl told) = version_outcome told.0 _ (asked.1 told.0 told.1) told.2
asked_version words outcome asked (inr served) = absurd (asked.0 served.0 served.1 served.2)

asked_nothing : (words : List (List ℕ)) (outcome : Outcome) → AreUsageError words → IsWordsOutcome anything any_input words outcome
    → ((outcome.text ≡ []) × (outcome.status ≡ 2)) ⊎ (outcome ≡ out_of_memory)
asked_nothing words outcome asked (inl told) = error_outcome _ outcome (asked.1 told.0 told.1) told.2
asked_nothing words outcome asked (inr served) = absurd (asked.0 served.0 served.1 served.2)

pub version_is_printed : (program flag : List ℕ) (outcome : Outcome) → (flag ≡ codes "--version") ⊎ (flag ≡ codes "-V")
    → IsWordsOutcome anything any_input (program ∷ flag ∷ []) outcome → (outcome ≡ text_outcome version_line) ⊎ (outcome ≡ out_of_memory)
version_is_printed program flag outcome (inl long) words = asked_version _ _ (version_by_long _) (rw long at words)
version_is_printed program flag outcome (inr short) words = asked_version _ _ (version_by_short _) (rw short at words)

pub nothing_is_printed : (program : List ℕ) (outcome : Outcome) → IsWordsOutcome anything any_input (program ∷ []) outcome
    → ((outcome.text ≡ []) × (outcome.status ≡ 2)) ⊎ (outcome ≡ out_of_memory)
nothing_is_printed program outcome words = asked_nothing _ _ (error_without_words _) words
