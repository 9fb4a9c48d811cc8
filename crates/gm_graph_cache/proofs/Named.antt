-- The calls of a cache that name modules and files.
use Rattle.std.proofs.Common.{◌≡◌, ◌∙◌, ◌∷◌, [], ℕ, refl, List, Option, None, Some, Result, Ok, Err, ap, sym}
use Rattle.std.specs.Prelude.{MatchResult, slice_get}
use Rattle.std.specs.Option.{option_map}
use Rattle.gm_name.specs.ModuleVersion.{ModuleVersion}
use Rattle.gm_name_table.specs.Listed.{modules_of}
use Rattle.gm_store_parts.specs.Asked.{Name, Reply}
use Rattle.gm_graph_cache.specs.declared.cache.Cache.{Cache}
use Rattle.gm_graph_cache.specs.declared.cache.by_name.Known.{Known}
use Rattle.gm_graph_cache.specs.declared.cache.by_name.Known.TheVariants as known
use Rattle.gm_graph_files.specs.declared.depth.Turn.{Turn}
use Rattle.gm_graph_cache.specs.Cached.{HasMoreTurns, HasTurns, HasSoundFile, IsKnownAs, IsLenderNamed, IsSound, Knows, KnowsLender, file_known, held_of, main_in, run_in}
use Rattle.gm_graph_files.specs.declared.summary.Kept.{Kept}
use Rattle.gm_graph_files.specs.declared.summary.Kept.TheVariants.{Valid, Faulty}
use Rattle.gm_graph_cache.specs.FileTable.{place_of}
use Rattle.gm_graph_cache.specs.Sayings.{Run}
use Rattle.gm_graph_files.specs.Summaries.{kept_reading, summary_reading}
use Rattle.gm_graph_files.specs.Private.Summaries.{list_place}
use Rattle.gm_graph_cache.proofs.Holding.{held_sound}
use Rattle.gm_graph_cache.proofs.Lending.{sound_at}
use Rattle.gm_graph_cache.proofs.Keeping.{same_run}

-- ---- the place of a file that is named

module _ (cache : Cache) (pairs : List (Name × Reply)) (x : ModuleVersion) (name : Name) (knows : Knows cache pairs)
    (is : HasSoundFile (run_in cache pairs) x name) where
  -- The file has a place.
  pub named_kept : place_of cache.files name ≡ None → ⊥
  named_kept none =
      let held : held_of cache name ≡ Some (kept_reading (main_in cache) (Ok is.file)) = rw is.name_is (held_sound cache pairs knows x is.file is.says) in
      cc (rw none at held)

  -- The place of the file that has its list is where the vertex's requirements are.
  pub lender_named : (place : ℕ) → place_of cache.files name ≡ Some place
      → IsSound cache (run_in cache pairs) x (list_place cache.files.files.items place)
  lender_named place there =
      let held : held_of cache name ≡ Some (kept_reading (main_in cache) (Ok is.file)) = rw is.name_is (held_sound cache pairs knows x is.file is.says) in
      by (slice_get cache.files.files.items place) refl (rw there at held)
    where
      by : (o : Option Kept) → slice_get cache.files.files.items place ≡ o → option_map (summary_reading (modules_of cache.modules)) o ≡ Some (kept_reading (main_in cache) (Ok is.file))
          → IsSound cache (run_in cache pairs) x (list_place cache.files.files.items place)
      by None here held = absurd (cc held)
      by (Some (Faulty class)) here held = absurd (cc held)
      by (Some (Valid summary)) here held =
          sound_at cache (run_in cache pairs) x place summary is.file (ap (place_of cache.files) (sym is.name_is) ∙ there) here is.says

-- What is known of a vertex gives the name.
pub named_known : (run : Run) (x : ModuleVersion) (found : Known) → IsKnownAs run x found → IsLenderNamed run x (file_known found)
named_known run x (known.Fault class) is = (class, is)
named_known run x (known.Sound name) is = is

-- ---- what stays

lender_by : {old new : Cache} {all : List Turn} (x : ModuleVersion) (name : Option Name) → HasTurns old new all → KnowsLender old x name
    → KnowsLender new x name
lender_by {old} {new} x name has lender pairs knows =
    let run : run_in new pairs ≡ run_in old pairs = same_run old new pairs has.holds.main has.holds.sums in
    rw run (lender pairs (rw has.files at (rw has.modules at (rw run at knows))))

-- What is named is named still after requirements were lent, or refused.
pub lender_still : {T E : Type 0} (result : Result T E) (old new : Cache) (one : Turn) (x : ModuleVersion) (name : Option Name)
    → MatchResult result (λ _. HasMoreTurns old new (one ∷ [])) (λ _. HasMoreTurns old new []) → KnowsLender old x name → KnowsLender new x name
lender_still (Ok lent) old new one x name has lender = lender_by x name has lender
lender_still (Err fault) old new one x name has lender = lender_by x name has lender
