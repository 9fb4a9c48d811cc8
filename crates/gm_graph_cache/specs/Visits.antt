-- What a visit gets from the cache, and what changes in the cache.
use Rattle.std.specs.Prelude.{◌≡◌, ◌≤◌, ◌+◌, ◌++◌, ◌∷◌, [], ℕ, List, Ok, Err}
use Rattle.std.specs.List.{IsDistinct}
use Rattle.gm_name.specs.ModuleVersion.{ModuleVersion, pair_eq}
use Rattle.gm_file.specs.Fields.{Dependency}
use Rattle.gm_file.specs.Main.{without_excluded}
use Rattle.gm_store_parts.specs.Asked.{Name, Reply}
use Rattle.gm_graph_cache.specs.declared.cache.Cache.{Cache}
use Rattle.gm_graph_files.specs.declared.depth.Depth.{Depth}
use Rattle.gm_graph_cache.specs.declared.cache.visit.Visit.{Visit}
use Rattle.gm_graph_cache.specs.declared.cache.visit.Visit.TheVariants as visit
use Rattle.gm_graph_cache.specs.Cached.{IsSound, file_count, run_in, table_in, turns_in, Follows, module_numbered}
use Rattle.gm_graph_cache.specs.Lent.{lent_modules, lent_table}
use Rattle.gm_graph_files.specs.Turns.{leads_on, turn}
use Rattle.gm_graph_cache.specs.Sayings.{Run, Says}

-- What a visit to this depth gets of a vertex: its fault, or the place of the file that has its list, whether the visit
-- leads on, and what the vertex's file requires, without the excluded ones, with all modules that have numbers.
abbrev pub IsVisit : Cache → Run → ModuleVersion → Depth → Visit → Type 0
IsVisit cache run x d (visit.Fault class) = Says run x (Err class)
IsVisit cache run x d (visit.Required required) = IsSound cache run x required.file
    × (lent_table required.list ≡ table_in cache)
    × (file : Dependency) × Says run x (Ok file) × (required.leads ≡ leads_on file d)
    × (lent_modules required.list ≡ without_excluded run.main file.requirements)

-- After a visit the cache knows the answers, at most one more file is kept, the list has one more turn, and what the
-- visit got is what the answers say.
pub record HasVisited (old : Cache) (earlier : List (Name × Reply)) (new : Cache) (pairs : List (Name × Reply))
    (number : ℕ) (d : Depth) (visit : Visit) : Type 0 where
  pub follows : Follows old earlier new pairs
  pub distinct : IsDistinct pair_eq (table_in new)
  pub count : file_count new ≤ file_count old + 1
  pub turns : turns_in new ≡ turns_in old ++ turn (module_numbered old number) d ∷ []
  pub visit_is : IsVisit new (run_in new pairs) (module_numbered old number) d visit
