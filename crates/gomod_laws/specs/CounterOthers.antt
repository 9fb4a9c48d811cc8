-- What the laws of `edit` conclude is false of outputs that contradict them.
use Rattle.std.specs.Prelude.{ℕ, List, codes}
use Rattle.gomod_texts.specs.Outcome.{Outcome, text_outcome, refusal_outcome}
use Rattle.gomod_laws.specs.EditPairLaws.{PrintTheSame}
use Rattle.gomod_laws.specs.EditTwiceLaws.{AreOneOrRefuseALater}

-- two files that are printed
abbrev pub file_of_m : Outcome
file_of_m = text_outcome (codes "module m\n")

abbrev pub file_of_n : Outcome
file_of_n = text_outcome (codes "module n\n")

-- `TwiceIsOnceOrRefused`, if `edit` prints another file with the operation twice, or refuses then,
abbrev pub TwicePrintsAnother : Type 0
TwicePrintsAnother = (number : ℕ) → ¬ (AreOneOrRefuseALater number file_of_m file_of_n)

abbrev pub TwiceIsRefused : Type 0
TwiceIsRefused = (number : ℕ) (report : List ℕ) → ¬ (AreOneOrRefuseALater number file_of_m (refusal_outcome report))

-- `UndoneIsFormatted`, if `edit` prints another file than `fmt`, or if both refuse
abbrev pub FormatsAnother : Type 0
FormatsAnother = ¬ (PrintTheSame file_of_m file_of_n)

abbrev pub NeitherFormats : Type 0
NeitherFormats = (report : List ℕ) → ¬ (PrintTheSame (refusal_outcome report) (refusal_outcome report))
