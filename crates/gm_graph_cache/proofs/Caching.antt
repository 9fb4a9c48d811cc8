-- A cache after a visit.
use Rattle.std.proofs.Common.{◌≡◌, ◌<◌, ◌≤◌, ◌+◌, ◌++◌, ◌∷◌, [], ℕ, List, arith, length, ◌∙◌, sym}
use Rattle.std.specs.List.{IsDistinct}
use Rattle.gm_name.specs.ModuleVersion.{ModuleVersion, pair_eq}
use Rattle.gm_store_parts.specs.Asked.{Name, Reply}
use Rattle.gm_graph_cache.specs.declared.cache.Cache.{Cache}
use Rattle.gm_graph_files.specs.declared.depth.Depth.{Depth}
use Rattle.gm_graph_cache.specs.declared.cache.visit.Visit.{Visit}
use Rattle.gm_graph_cache.specs.declared.cache.visit.Visit.TheVariants as visit
use Rattle.gm_graph_cache.specs.Cached.{HoldsSame, file_count, run_in, table_in, turns_in, Follows, module_numbered}
use Rattle.gm_graph_cache.specs.Visits.{HasVisited, IsVisit}
use Rattle.gm_graph_files.specs.Turns.{turn}
use Rattle.gm_graph_cache.proofs.NumberedModules.{number_stays}
use Rattle.gm_graph_cache.proofs.Keeping.{knows_still, same_run}

-- ---- a cache that knows the file, and one with one more turn

module _ (old mid new : Cache) (earlier pairs : List (Name × Reply)) (made : Follows old earlier mid pairs) (holds : HoldsSame mid new)
    (modules : table_in new ≡ table_in mid) where
  -- A cache that holds the same comes after the old one, too.
  follows_still : Follows old earlier new pairs
  follows_still = record {
    knows = knows_still pairs holds made.knows;
    main = holds.main ∙ made.main;
    sums = holds.sums ∙ made.sums;
    numbered = (made.numbered.0, modules ∙ made.numbered.1);
    stays = rw (same_run mid new pairs holds.main holds.sums) made.stays;
    sound = rw (same_run mid new pairs holds.main holds.sums) (λ x place at. holds.sound (run_in mid pairs) x place (made.sound x place at));
  }

  -- What a visit gets of a cache is what it gets of one that holds the same.
  visit_still : (x : ModuleVersion) (d : Depth) (got : Visit) → IsVisit mid (run_in mid pairs) x d got → IsVisit new (run_in new pairs) x d got
  visit_still x d got is =
      rw (same_run mid new pairs holds.main holds.sums) (by_visit got is)
    where
      by_visit : (v : Visit) → IsVisit mid (run_in mid pairs) x d v → IsVisit new (run_in mid pairs) x d v
      by_visit (visit.Fault class) got_is = got_is
      by_visit (visit.Required required) (sound, table, file, says, leads, list) =
          (holds.sound (run_in mid pairs) x required.file sound, table ∙ sym modules, file, says, leads, list)

  pub has_visited : (number : ℕ) (d : Depth) (got : Visit) → number < length (table_in old) → file_count mid ≤ file_count old + 1
      → file_count new ≡ file_count mid → turns_in mid ≡ turns_in old
      → turns_in new ≡ turns_in mid ++ turn (module_numbered mid number) d ∷ [] → IsDistinct pair_eq (table_in new)
      → IsVisit mid (run_in mid pairs) (module_numbered mid number) d got → HasVisited old earlier new pairs number d got
  has_visited number d got below count files lent turns distinct is =
      let same : module_numbered mid number ≡ module_numbered old number = number_stays (table_in old) (table_in mid) number made.numbered below in
      record {
        follows = follows_still;
        distinct = distinct;
        count = omega (arith, files, count);
        turns = rw (lent, same) at turns;
        visit_is = rw same at (visit_still (module_numbered mid number) d got is);
      }
