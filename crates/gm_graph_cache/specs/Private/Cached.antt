-- What a cache finds of a vertex while it reads and lends, by its numbers and places.
use Rattle.std.specs.Prelude.{◌≡◌, ◌≤◌, ◌+◌, ℕ, false, Err, IfOk, OnErr, Option, Result, Some, None}
use Rattle.gm_name.specs.ModuleVersion.{ModuleVersion}
use Rattle.gm_graph_cache.specs.declared.cache.Cache.{Cache}
use Rattle.gm_graph_files.specs.Reading.{file_of, is_askable}
use Rattle.gm_graph_cache.specs.Asking.{AsksOne, IsAskableFile}
use Rattle.gm_graph_cache.specs.Sayings.{Run, Says}
use Rattle.gm_graph_cache.specs.declared.cache.lookup.Lookup.{Lookup}
use Rattle.gm_graph_cache.specs.declared.cache.lookup.Lookup.TheVariants as lookup
use Rattle.gm_store_parts.specs.Asked.{Name, Reply, name_of}
use Rattle.gm_store_parts.specs.Requests.{refused_for}
use Rattle.gm_store_parts.specs.States.{StoreState}
use Rattle.gm_store_parts.specs.declared.files.AskFault.{AskFault}
use Rattle.gm_store_parts.specs.declared.files.AskFault.TheVariants as ask
use Rattle.gm_graph_files.specs.declared.class.Class.{Class}
use Rattle.gm_graph_cache.specs.Private.FileTable.{IsPlacedAt}
use Rattle.gm_graph_cache.specs.Cached.{Follows, HasFailedOn, HoldsSame, IsSound, LentSame, file_count, main_in, module_numbered, summary_at}

-- ---- what is found of a vertex

-- The place of a vertex's file: none if the file may not be asked for.
abbrev pub IsPlaceFor : Cache → ModuleVersion → Option ℕ → Type 0
IsPlaceFor cache x None = is_askable (file_of (main_in cache) x) ≡ false
IsPlaceFor cache x (Some place) = IsPlacedAt (main_in cache) cache.files x place

-- What is known of a vertex's file without asking for it: its place, that it may not be asked for, or its name if
-- nothing is kept of it.
abbrev pub IsLookup : Cache → ModuleVersion → Lookup → Type 0
IsLookup cache x (lookup.Noted place) = IsPlaceFor cache x (Some place)
IsLookup cache x lookup.NotFetchable = IsPlaceFor cache x None
IsLookup cache x (lookup.Replacing place) = IsPlaceFor cache x (Some place)
IsLookup cache x (lookup.New name) =
    IsAskableFile (main_in cache) x (name_of name) × (summary_at cache (name_of name) ≡ None)

-- The place at which a vertex's requirements are found: none if the vertex has a fault, otherwise that of the file that
-- has its list.
abbrev pub IsLender : Cache → Run → ModuleVersion → Option ℕ → Type 0
IsLender cache run x None = (class : Class) × Says run x (Err class)
IsLender cache run x (Some place) = IsSound cache run x place

-- ---- what changes

-- What a call that makes the file of the vertex with this number known, and returns its place, does to the cache and to
-- the store. `before` and `after` say what might come of a request.
pub record MakesKnown (old new : Cache) (number : ℕ) (before after : Name → Option Reply → Type 0)
    (earlier later : StoreState) (result : Result (Option ℕ) AskFault) : Type 0 where
  pub count : file_count new ≤ file_count old + 1
  pub known : IfOk result (λ place. Follows old earlier.asked new later.asked
      × IsPlaceFor new (module_numbered old number) place)
  pub lent : LentSame old new
  pub err : OnErr result (HoldsSame old new)
  pub asks : AsksOne (IsAskableFile (main_in old) (module_numbered old number)) before after earlier later
      (refused_for (file_of (main_in old) (module_numbered old number)) result)
  pub failed : result ≡ Err ask.Device → HasFailedOn new (file_of (main_in old) (module_numbered old number))
