-- An operation of `edit` that is given twice: go help mod edit.
use Rattle.std.specs.Prelude.{◌≡◌, ◌⊎◌, ◌++◌, ◌+◌, ◌∷◌, ◌<◌, ℕ, List, [], None, String, length}
use Rattle.std.specs.Global.{Global, Vec}
use Rattle.gomod_texts.specs.Outcome.{Outcome, refusal_outcome}
use Rattle.gomod_words.specs.Usage.{texts_in}
use Rattle.gomod_words.specs.declared.usage.Command.TheVariants.{Edit}
use Rattle.gomod_texts.specs.Reports.{edit_line}
use Rattle.gomod_laws.specs.Runs.{HasOutcome, HasPrinted}

-- The second operations are the first, with one of them twice, directly one after the other.
pub record RepeatsOne (once twice : Vec (String Global)) : Type 0 where
  pub earlier : List (List ℕ)
  pub operation : List ℕ
  pub later : List (List ℕ)
  pub given_once : texts_in once ≡ earlier ++ operation ∷ later
  pub given_twice : texts_in twice ≡ earlier ++ operation ∷ operation ∷ later

-- Where `edit` prints with an operation once, or with it twice, it prints the same with both.
abbrev pub TwicePrintsAsOnce : Type 0
TwicePrintsAsOnce = (once twice : Vec (String Global)) (file : List ℕ) (first second : Outcome)
    → RepeatsOne once twice
    → HasOutcome (Edit once) file None [] first → HasOutcome (Edit twice) file None [] second
    → HasPrinted first ⊎ HasPrinted second → first ≡ second

-- Whether it prints or refuses, it does the same with both, if the operation is the last one.
abbrev pub LastTwiceIsOnce : Type 0
LastTwiceIsOnce = (once twice : Vec (String Global)) (file : List ℕ) (first second : Outcome)
    (repeats : RepeatsOne once twice) → repeats.later ≡ []
    → HasOutcome (Edit once) file None [] first → HasOutcome (Edit twice) file None [] second
    → first ≡ second

-- Both outcomes refuse an operation after this many of the first run, for one reason. In the second run its number is
-- one higher.
pub record RefuseALater (number : ℕ) (first second : Outcome) : Type 0 where
  pub refusal : ℕ × List ℕ
  pub is_later : number < refusal.0
  pub refused_once : first ≡ refusal_outcome (edit_line refusal)
  pub refused_twice : second ≡ refusal_outcome (edit_line (refusal.0 + 1, refusal.1))

-- Both outcomes are the same, or both refuse a later operation.
abbrev pub AreOneOrRefuseALater : ℕ → Outcome → Outcome → Type 0
AreOneOrRefuseALater number first second = (first ≡ second) ⊎ RefuseALater number first second

-- Anywhere, it does the same with both, or refuses one of the operations after that one.
abbrev pub TwiceIsOnceOrRefused : Type 0
TwiceIsOnceOrRefused = (once twice : Vec (String Global)) (file : List ℕ) (first second : Outcome)
    (repeats : RepeatsOne once twice)
    → HasOutcome (Edit once) file None [] first → HasOutcome (Edit twice) file None [] second
    → AreOneOrRefuseALater (length repeats.earlier + 1) first second
