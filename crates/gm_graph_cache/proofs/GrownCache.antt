-- A cache whose list of modules grew at its end.
use Rattle.std.proofs.Common.{◌≤◌, ◌∙◌, ap, arith, length, length-append, subst, sym, take}
use Rattle.std.proofs.Math.Logic.{∥∥₁_map}
use Rattle.std.proofs.lemmas.List.{length-map, take-append-le}
use Rattle.gm_name.specs.ModuleVersion.{module_at}
use Rattle.gm_name_table.specs.Listed.{NumberedList, modules_of}
use Rattle.gm_graph_cache.specs.declared.cache.Cache.{Cache}
use Rattle.gm_graph_cache.specs.Cached.{main_in, sums_in, table_in}
use Rattle.gm_graph_cache.specs.Private.Held.{IsConsistent}
use Rattle.gm_graph_files.specs.NotedLists.{NotesAll}
use Rattle.gm_graph_files.specs.KeptLists.{own_lists}
use Rattle.gm_graph_files.specs.KeptFiles.{Grows}
use Rattle.gm_graph_cache.proofs.HeldFiles.{grown_holds}
use Rattle.gm_graph_files.proofs.KeptLists.{lists_still}
use Rattle.gm_graph_files.proofs.Ordered.{order_longer, own_spans}
use Rattle.gm_graph_cache.proofs.PuttingPlaces.{notes_if_more}
use Rattle.gm_graph_files.proofs.SharedLists.{listed_grown}

module _ (cache : Cache) (new : NumberedList) (grows : Grows cache.modules new) where
  more_numbers : length cache.modules.numbers ≤ length new.numbers
  more_numbers = omega (arith, ap length grows.1.kept.1, length-append cache.modules.numbers grows.1.kept.0)

  -- What the cache holds is consistent with the longer list.
  pub grown_consistent : IsConsistent (main_in cache) (sums_in cache) cache.first new cache.files
  grown_consistent =
      let main = main_in cache in
      let old = cache.modules in
      let files = cache.files in
      let was = cache.consistent in
      record {
        holds_some = ∥∥₁_map was.holds_some (λ it. (it.0, grown_holds main old new files grows was.listed (sums_in cache) it.0 it.1));
        first_within = omega (arith, was.first_within, more_numbers);
        first_are = ap (take cache.first) grows.1.listed
            ∙ take-append-le cache.first (modules_of old) grows.0 (omega (arith, was.first_within, length-map old.numbers (module_at old.modules)))
            ∙ was.first_are;
        places_within = omega (arith, was.places_within, ap length grows.1.numbered.1, length-append (table_in cache) grows.1.numbered.0);
        notes = notes_if_more main (table_in cache) new.modules files grows.1.numbered was.places_within was.notes;
        in_order = order_longer cache.first (own_spans files.files.items) (length old.numbers) (length new.numbers) more_numbers was.in_order;
        listed = listed_grown (modules_of old) (modules_of new) files.files.items (grows.0, grows.1.listed) was.listed;
      }

  -- So are the places of own lists.
  pub grown_notes : NotesAll cache.lists (own_lists new.numbers cache.files.files.items)
  grown_notes = subst (NotesAll cache.lists) (sym (lists_still cache.modules new cache.files.files.items grows.1.kept cache.consistent.listed))
      cache.notes
