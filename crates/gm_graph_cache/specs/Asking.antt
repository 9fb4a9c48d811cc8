-- What a store is asked for.
use Rattle.std.specs.Prelude.{◌≡◌, ◌⊎◌, true, None, ◌∷◌, ◌++◌, [], List, IsSomeAnd, Option}
use Rattle.gm_name.specs.ModuleVersion.{ModuleVersion}
use Rattle.gm_store_parts.specs.Asked.{Name, Reply, answer_in}
use Rattle.gm_store_parts.specs.States.{AddsAnswer, StoreState, HasServed}
use Rattle.gm_file.specs.Main.{Main}
use Rattle.gm_graph_files.specs.Reading.{file_of, is_askable}
use Rattle.gm_store_parts.specs.declared.files.FileName.{FileName}
use Rattle.gm_store_parts.specs.declared.files.AskFault.{AskFault}
use Rattle.gm_store_parts.specs.declared.files.AskFault.TheVariants as ask
use Rattle.gm_graph_cache.specs.declared.cache.load_fault.LoadFault.{LoadFault}
use Rattle.gm_graph_cache.specs.declared.cache.load_fault.LoadFault.TheVariants.{NoMemory, Device}

-- Nothing was asked for, or only the file of this vertex, which may be asked for and was not asked for before.
abbrev pub AsksFor : Main → StoreState → StoreState → ModuleVersion → Type 0
AsksFor main old new x = (new.asked ≡ old.asked)
    ⊎ ((is_askable (file_of main x) ≡ true) × (answer_in old.asked (file_of main x) ≡ None)
    × ((reply : Reply) × AddsAnswer old new (file_of main x) reply))

-- This name was asked for in vain: it is that of the vertex's file, and may be asked for again.
abbrev pub StillLacks : Main → StoreState → StoreState → ModuleVersion → Name → Type 0
StillLacks main old new x name = (new.asked ≡ old.asked) × (name ≡ file_of main x) × (is_askable name ≡ true)
    × (answer_in old.asked name ≡ None)

-- this is the name of the vertex's file, which may be asked for
abbrev pub IsAskableFile : Main → ModuleVersion → Name → Type 0
IsAskableFile main x name = (name ≡ file_of main x) × (is_askable name ≡ true)

-- What a call did to a store that asks for one of these names at most. `before` says what might come of a request
-- before the call, `after` what may come of one after it, and the names in `failed` were refused.
pub record AsksOne (May : Name → Type 0) (before after : Name → Option Reply → Type 0) (old new : StoreState)
    (failed : List Name) : Type 0 where
  -- Nothing was asked for, or only such a name, which was not asked for before.
  pub asks : (new.asked ≡ old.asked)
      ⊎ ((name : Name) × May name × (answer_in old.asked name ≡ None)
      × ((reply : Reply) × AddsAnswer old new name reply))
  -- If a name was refused, it is such a one, and nothing was asked for.
  pub device : (name : Name) → failed ≡ name ∷ []
      → (new.asked ≡ old.asked) × May name × (answer_in old.asked name ≡ None)
  pub refused : new.refused ≡ old.refused ++ failed
  pub served : HasServed before after old new

-- Loading stops for this reason after this refusal of a request, if this is the name of the file for which it was made.
-- A device that failed left the name.
abbrev pub IsLoadFaultOf : AskFault → Option FileName → LoadFault → Type 0
IsLoadFaultOf ask.NoMemory failed fault = fault ≡ NoMemory
IsLoadFaultOf ask.Device failed fault = IsSomeAnd failed (λ name. fault ≡ Device name)
