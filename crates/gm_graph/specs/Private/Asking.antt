-- What a call asks a store for, and the names that are refused.
use Rattle.std.specs.Prelude.{◌≡◌, ◌∷◌, ◌++◌, [], List, Option}
use Rattle.gm_store_parts.specs.Asked.{Name, Reply}
use Rattle.gm_store_parts.specs.States.{HasServed, StoreState}
use Rattle.gm_store_sums.specs.Sums.{Sums}
use Rattle.gm_file.specs.Main.{Main}
use Rattle.gm_graph.specs.Run.{AskedInTurn, IsDue, LoadingNeeds}
use Rattle.gm_graph_cache.specs.Sayings.{run_of}

-- What loading did to a store of which nothing was asked before it. The names in `failed` were refused.
pub record AsksInTurn (main : Main) (sums : Option Sums) (before after : Name → Option Reply → Type 0)
    (old new : StoreState) (failed : List Name) : Type 0 where
  -- Each name was needed by the answers before it.
  pub asks : AskedInTurn (LoadingNeeds main sums) new.asked
  -- If a name was refused, it is needed by the answers, and is not among them.
  pub device : (name : Name) → failed ≡ name ∷ [] → IsDue (run_of main sums new.asked) name
  pub refused : new.refused ≡ old.refused ++ failed
  pub served : HasServed before after old new
