-- Texts on their way to a sink through a buffer.
use Rattle.std.specs.Prelude.{◌≡◌, ◌++◌, ℕ, List, Result, Ok, Err}
use Rattle.gm_store_parts.specs.Taken.{SinkState}
use Rattle.gomod_texts.specs.Taking.{TookAll, TookPrefix}

-- since the sink was in the state `before`, this text was given: the sink took it, but for what waits in the buffer
pub record WasGiven (before now : SinkState) (waiting text : List ℕ) : Type 0 where
  pub taken : List ℕ
  pub parts : text ≡ taken ++ waiting
  pub took : TookAll before now taken

-- one more text was given; or the sink failed, and took a prefix of all that was given
abbrev pub IsGiven : {E : Type 0} → SinkState → List ℕ → SinkState → List ℕ → List ℕ → Result (Unit {0}) E → Type 0
IsGiven old waiting new left text (Ok u) = (before : SinkState) (given : List ℕ)
    → WasGiven before old waiting given → WasGiven before new left (given ++ text)
IsGiven old waiting new left text (Err e) = (before : SinkState) (given : List ℕ)
    → WasGiven before old waiting given → TookPrefix before new (given ++ text)

-- the sink took all that was given; or it failed, and took a prefix of that
abbrev pub IsEnded : {E : Type 0} → SinkState → List ℕ → SinkState → Result (Unit {0}) E → Type 0
IsEnded old waiting new (Ok u) = (before : SinkState) (given : List ℕ)
    → WasGiven before old waiting given → TookAll before new given
IsEnded old waiting new (Err e) = (before : SinkState) (given : List ℕ)
    → WasGiven before old waiting given → TookPrefix before new given
