-- What holds of a store in a run of `versions`, step by step.
use Rattle.std.specs.Prelude.{◌≡◌, ◌++◌, ◌∷◌, ℕ, Bool, List, [], None, true}
use Rattle.gm_name.specs.Path.{is_fetchable}
use Rattle.gm_graph.specs.Run.{AskedInTurn}
use Rattle.gm_store_parts.specs.Asked.{Name, Reply, answer_in, bytes, list_file}
use Rattle.gm_store_parts.specs.States.{StoreState}
use Rattle.gm_store.specs.Listed.{AreListed}
use Rattle.gomod_texts.specs.Reports.{device_line}
use Rattle.gomod_texts.specs.Outcome.{Outcome, failure_outcome, out_of_memory}
use Rattle.gomod_outcomes.specs.Versions.{IsRefusedList, VersionsEnds, VersionsNeed}

-- What holds of a run of `versions` over a store that had not been asked before, whatever this one answers: each file
-- is asked for once, when the answers need it; and that there is no list to read, or that the device failed, is
-- reported.
pub data IsVersionsRun (path : List ℕ) (all : Bool) (old new : StoreState) (outcome : Outcome) : Type 0 where
  -- all that was asked for was answered
  ended_run : new.refused ≡ old.refused → AskedInTurn (VersionsNeed path all) new.asked
      → VersionsEnds path all (answer_in new.asked) [] outcome → IsVersionsRun path all old new outcome
  -- memory ran out, and there is a list to read
  memory_run : new.refused ≡ old.refused → AskedInTurn (VersionsNeed path all) new.asked
      → ((other : Outcome) → ¬ (IsRefusedList path (answer_in new.asked) other)) → outcome ≡ out_of_memory
      → IsVersionsRun path all old new outcome
  -- the device failed at a file that is needed
  broken_run : (name : Name) → new.refused ≡ old.refused ++ name ∷ [] → AskedInTurn (VersionsNeed path all) new.asked
      → VersionsNeed path all (answer_in new.asked) name → answer_in new.asked name ≡ None
      → ((other : Outcome) → ¬ (IsRefusedList path (answer_in new.asked) other))
      → outcome ≡ failure_outcome (device_line name) → IsVersionsRun path all old new outcome

-- a proxy can have the module, and its list was asked for and answered with this reply, and nothing else
pub record IsListAnswered (path : List ℕ) (old new : StoreState) (reply : Reply) : Type 0 where
  pub fetchable : is_fetchable path ≡ true
  pub alone : new.asked ≡ (list_file path, reply) ∷ []
  pub still : new.refused ≡ old.refused

-- the same with a list, which names these versions
pub record AreVersionsAnswered (path : List ℕ) (old new : StoreState) (versions : List (List ℕ)) : Type 0 where
  pub list : List ℕ
  pub answered : IsListAnswered path old new (bytes list)
  pub listed : AreListed path list versions
