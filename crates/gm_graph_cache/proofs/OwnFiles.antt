-- The files of modules in a cache, and what was added of them.
use Rattle.std.proofs.Common.{◌≡◌, ◌∙◌, ◌<◌, ◌≤◌, ◌++◌, ◌∷◌, [], ℕ, arith, true, Option, None, Some, Result, Ok, Err, ap, inl, inr, length, refl, sym}
use Rattle.std.specs.Prelude.{IfOk, OnErr, OnOk, slice_get}
use Rattle.std.specs.Option.{option_and_then}
use Rattle.std.specs.Prelude.{unwrap_or}
use Rattle.std.proofs.lemmas.Option.{slice_get_cases}
use Rattle.std.specs.List.{IsDistinct}
use Rattle.gm_name.specs.ModuleVersion.{ModuleVersion, pair_eq}
use Rattle.gm_name_table.specs.Listed.{modules_of}
use Rattle.gm_store_parts.specs.Asked.{Name, Reply}
use Rattle.gm_graph_cache.specs.declared.cache.file_table.FileTable.{FileTable}
use Rattle.gm_graph_files.specs.declared.summary.Kept.{Kept}
use Rattle.gm_graph_cache.specs.declared.cache.Cache.{Cache}
use Rattle.gm_file.specs.Main.{Main}
use Rattle.gm_graph_cache.specs.Cached.{main_in, summary_at, sums_in, table_in, module_numbered}
use Rattle.gm_graph_cache.specs.FileTable.{place_of}
use Rattle.gm_graph_cache.specs.Private.FileTable.{Adds, IsNewFile, IsPlacedAt, KeepsNoted, KeepsOthers, NotesFiles, NotesFor, place_noted, replacing_place}
use Rattle.gm_graph_files.specs.Reading.{file_of, is_askable}
use Rattle.gm_graph_cache.proofs.FilePlaces.{place_by}
use Rattle.gm_graph_cache.proofs.NumberedModules.{number_same}
use Rattle.gm_graph_cache.proofs.HeldFiles.{added_some, kept_some}
use Rattle.gm_graph_cache.proofs.PuttingPlaces.{file_added, notes_again, notes_kept, notes_put, same_files}
use Rattle.gm_graph_cache.specs.Held.{IsKeptReading}
use Rattle.gm_graph_cache.specs.Private.Held.{IsConsistent}
use Rattle.gm_graph_files.proofs.SharedLists.{listed_push}
use Rattle.gm_graph_files.specs.KeptFiles.{AreListsInOrder, IsKeptIn}
use Rattle.gm_graph_files.specs.KeptLists.{own_lists}
use Rattle.gm_graph_files.specs.NotedLists.{NotesAll}
use Rattle.gm_graph_files.specs.Summaries.{summary_reading}

-- Nothing is kept of a module's file if no place is noted for the module, and none for a replacement's file with that name.
pub nothing_kept : (cache : Cache) (number : ℕ) (name : Name) → IsDistinct pair_eq (table_in cache) → number < length (table_in cache)
    → name ≡ file_of (main_in cache) (module_numbered cache number) → place_noted cache.files number ≡ None
    → unwrap_or (replacing_place cache.files name) None ≡ None → summary_at cache name ≡ None
nothing_kept cache number name distinct within named nowhere none =
    rw (
      place_by (main_in cache) (table_in cache) cache.files number name cache.consistent.notes
          (λ k below. number_same (table_in cache) distinct k number below within) named,
      nowhere,
      none,
    ) refl

-- The name of a module's file, of which nothing was kept.
pub new_file : (cache : Cache) (number : ℕ) (name : Name) → number < length (table_in cache)
    → name ≡ file_of (main_in cache) (module_numbered cache number) → is_askable name ≡ true → summary_at cache name ≡ None
    → IsNewFile (main_in cache) (table_in cache) cache.files number name
new_file cache number name within named askable none =
    record { within = within; named = named; askable = askable; none = by (place_of cache.files name) (cache.files.within name) none }
  where
    by : (o : Option ℕ) → ((place : ℕ) → o ≡ Some place → place < length cache.files.files.items)
        → option_and_then (slice_get cache.files.files.items) o ≡ None → o ≡ None
    by None within none = refl
    by (Some place) within none = elim (slice_get_cases cache.files.files.items place).1 [
      | inl there ↦ absurd (cc (sym none ∙ there.2))
      | inr past ↦ (let below = within place refl in absurd (omega (arith, below, past.0)))
    ]

-- The place of a name is that of the vertex whose file has this name.
pub placed_file : (main : Main) (files : FileTable) (x : ModuleVersion) (name : Name) (place : ℕ) → name ≡ file_of main x
    → is_askable name ≡ true → place_of files name ≡ Some place → IsPlacedAt main files x place
placed_file main files x name place is askable there =
    record { placed = ap (place_of files) (sym is) ∙ there; askable = ap is_askable (sym is) ∙ askable }

-- ---- the place of a replacement's file is noted for a module

-- The place of a file that is noted for a replacement is that of the vertex's file.
pub replacing_at : (cache : Cache) (x : ModuleVersion) {name : Name} {place : ℕ} → name ≡ file_of (main_in cache) x → is_askable name ≡ true
    → unwrap_or (replacing_place cache.files name) None ≡ Some place → IsPlacedAt (main_in cache) cache.files x place
replacing_at cache x {name} {place} named askable at =
    placed_file (main_in cache) cache.files x name place named askable (by (replacing_place cache.files name) refl at)
  where
    by : (o : Option (Option ℕ)) → replacing_place cache.files name ≡ o → unwrap_or o None ≡ Some place → place_of cache.files name ≡ Some place
    by None none e = absurd (cc e)
    by (Some held) some e = cache.consistent.notes.replacing_noted name held some ∙ e

-- It is that still once it is noted.
pub placed_still : {main : Main} {old new : FileTable} {x : ModuleVersion} {place : ℕ} → KeepsOthers old new → IsPlacedAt main old x place
    → IsPlacedAt main new x place
placed_still others at = record { placed = rw others.names at.placed; askable = at.askable }

-- Each place that is noted is that of a file, whether it was noted or memory ran out.
pub noted_again : {T E : Type 0} (cache : Cache) (new : FileTable) (number place : ℕ) (r : Result T E)
    → IsPlacedAt (main_in cache) cache.files (module_numbered cache number) place → KeepsOthers cache.files new
    → OnOk r (NotesFor cache.files new number place) → OnErr r (KeepsNoted cache.files new) → NotesFiles (main_in cache) (table_in cache) new
noted_again cache new number place (Ok t) is others ok err = notes_again others number place ok is cache.consistent.notes
noted_again cache new number place (Err e) is others ok err = notes_kept others err cache.consistent.notes

-- ---- what the cache holds is consistent still

module _ (cache : Cache) (new : FileTable) (within : length new.places.items ≤ length (table_in cache)) where
  -- once a place is noted, or none is
  pub consistent_noted : KeepsOthers cache.files new → NotesFiles (main_in cache) (table_in cache) new
      → IsConsistent (main_in cache) (sums_in cache) cache.first cache.modules new
  consistent_noted others notes =
      let was = cache.consistent in
      record {
        first_within = was.first_within;
        first_are = was.first_are;
        places_within = within;
        holds_some = kept_some (main_in cache) (sums_in cache) cache.modules cache.files new (same_files others) was.holds_some;
        notes = notes;
        in_order = rw others.files was.in_order;
        listed = rw others.files was.listed;
      }

  module _ {E : Type 0} (name : Name) (number : ℕ) (kept : Kept) where
    -- once a file is added, or memory runs out
    pub consistent_after : (r : Result ℕ E) → IfOk r (Adds cache.files new name number kept) → OnErr r (KeepsOthers cache.files new)
        → OnErr r (KeepsNoted cache.files new) → IsNewFile (main_in cache) (table_in cache) cache.files number name
        → (reply : Reply) × IsKeptReading (main_in cache) (sums_in cache) name reply (summary_reading (modules_of cache.modules) kept)
        → AreListsInOrder cache.first (cache.files.files.items ++ kept ∷ []) (length cache.modules.numbers)
        → IsKeptIn (modules_of cache.modules) cache.files.files.items kept
        → IsConsistent (main_in cache) (sums_in cache) cache.first cache.modules new
    consistent_after (Ok place) adds others noted is says order listed =
        let was = cache.consistent in
        record {
          first_within = was.first_within;
          first_are = was.first_are;
          places_within = within;
          holds_some = added_some (main_in cache) (sums_in cache) cache.modules cache.files new name kept says (file_added cache.files new adds) was.holds_some;
          notes = notes_put new is adds was.notes;
          in_order = rw adds.files order;
          listed = rw adds.files (listed_push (modules_of cache.modules) cache.files.files.items kept was.listed listed);
        }
    consistent_after (Err e) adds others noted is says order listed = consistent_noted others (notes_kept others noted cache.consistent.notes)

    -- So are the places of own lists.
    pub noted_after : (r : Result ℕ E) → IfOk r (Adds cache.files new name number kept) → OnErr r (KeepsOthers cache.files new)
        → NotesAll cache.lists (own_lists cache.modules.numbers (cache.files.files.items ++ kept ∷ []))
        → NotesAll cache.lists (own_lists cache.modules.numbers new.files.items)
    noted_after (Ok place) adds others next = rw adds.files next
    noted_after (Err e) adds others next = rw others.files cache.notes
