-- What sinks hold after texts were written to them.
use Rattle.std.specs.Prelude.{◌≡◌, ◌⊎◌, ℕ, List}
use Rattle.std.specs.Str.{IsUtf8}
use Rattle.gm_store_parts.specs.Taken.{SinkState}
use Rattle.gomod_texts.specs.Taking.{TookAll, TookPrefix}
use Rattle.gomod_texts.specs.Outcome.{OrNoMemory, Outcome}

-- both texts were written
abbrev pub WroteBoth : List ℕ → List ℕ → SinkState → SinkState → SinkState → SinkState → Type 0
WroteBoth text line out out' report report' = TookAll out out' text × TookAll report report' line

-- a sink failed, and nothing was written afterwards
abbrev pub WrotePrefix : List ℕ → List ℕ → SinkState → SinkState → SinkState → SinkState → Type 0
WrotePrefix text line out out' report report' =
    (TookPrefix out out' text × (report' ≡ report)) ⊎ (TookAll out out' text × TookPrefix report report' line)

-- an outcome was written with its status, or as much of it as the sinks took before one failed, with the status of
-- a device failure
abbrev pub IsWritten : Outcome → SinkState → SinkState → SinkState → SinkState → ℕ → Type 0
IsWritten outcome out out' report report' status =
    (WroteBoth outcome.text outcome.report out out' report report' × (status ≡ outcome.status))
    ⊎ (WrotePrefix outcome.text outcome.report out out' report report' × (status ≡ 3))

-- One of the stated outcomes was written in this way, or the report that memory ran out. Its text is UTF-8.
pub record EndsAsStated (stated : Outcome → Type 0) (out out' report report' : SinkState) (status : ℕ) : Type 0 where
  pub outcome : Outcome
  pub as_stated : OrNoMemory stated outcome
  pub utf8 : IsUtf8 outcome.text
  pub written : IsWritten outcome out out' report report' status
