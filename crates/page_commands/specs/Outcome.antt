-- A copy from crates/gomod_texts/specs/Outcome.antt, which tools/check/headline.py writes.
use Rattle.std.specs.Prelude.{ℕ, List, []}

-- what is printed, what is reported, and the exit status
pub record Outcome : Type 0 where
  pub text : List ℕ
  pub report : List ℕ
  pub status : ℕ

-- a text, and nothing to report
abbrev pub text_outcome : List ℕ → Outcome
text_outcome text = record { text = text; report = []; status = 0 }

-- nothing printed, and what is wrong with what was read
abbrev pub refusal_outcome : List ℕ → Outcome
refusal_outcome report = record { text = []; report = report; status = 1 }

-- nothing printed, and what failed
abbrev pub failure_outcome : List ℕ → Outcome
failure_outcome report = record { text = []; report = report; status = 3 }
