-- Own lists, and the places that are noted for them.
use Rattle.std.proofs.Common.{◌≡◌, ◌∙◌, ◌≤◌, ◌++◌, ◌∷◌, [], ℕ, List, None, Option, Some, ap, arith, cond, inl, inr, length, refl, sym}
use Rattle.std.specs.Prelude.{is_some, slice_get}
use Rattle.std.proofs.lemmas.List.{length-map}
use Rattle.std.proofs.lemmas.Option.{same_Some}
use Rattle.gm_name.specs.ModuleVersion.{module_at}
use Rattle.gm_name_table.specs.Listed.{BeginsWith, NumberedList, modules_of}
use Rattle.gm_graph_files.specs.declared.list_index.ListIndex.{ListIndex}
use Rattle.gm_graph_files.specs.declared.summary.Kept.{Kept}
use Rattle.gm_graph_files.specs.declared.summary.Kept.TheVariants.{Valid, Faulty}
use Rattle.gm_graph_files.specs.declared.summary.Summary.{Summary}
use Rattle.gm_graph_files.specs.KeptLists.{AreKeptOnce, own_list, own_lists}
use Rattle.gm_graph_files.specs.NotedLists.{NotesAll, place_for}
use Rattle.gm_graph_files.specs.KeptFiles.{AreKeptIn, Grows, IsWithinList, front_of}
use Rattle.gm_graph_files.proofs.SharedLists.{cut_appends, push_cases}
use Rattle.gm_graph_files.proofs.Spans.{part_still}

-- Own lists stay where they are if the list of modules grows at its end.
pub lists_still : (old new : NumberedList) (files : List Kept) → BeginsWith old.numbers new.numbers
    → AreKeptIn (modules_of old) files → own_lists new.numbers files ≡ own_lists old.numbers files
lists_still old new files begins are = λ i place. by (slice_get files place) (λ summary there. (are place (Valid summary) there).0) i
  where
    by : (o : Option Kept) → ((summary : Summary) → o ≡ Some (Valid summary) → IsWithinList (modules_of old) summary.list.span)
        → own_list new.numbers o ≡ own_list old.numbers o
    by None is = refl
    by (Some (Faulty class)) is = refl
    by (Some (Valid summary)) is =
        let span = is summary refl in
        ap (cond (is_some summary.list.same_as) []) (part_still old.numbers new.numbers summary.list.span begins span.order
        (omega (arith, span.within, length-map old.numbers (module_at old.modules))))

-- They are the same in each list that begins with a front, in which they are.
pub lists_beside : (old new : NumberedList) (start : ℕ) (files : List Kept) → AreKeptIn (modules_of (front_of start old)) files
    → Grows (front_of start old) new → own_lists new.numbers files ≡ own_lists old.numbers files
lists_beside old new start files are grows =
    lists_still (front_of start old) new files grows.1.kept are ∙ sym (lists_still (front_of start old) old files (cut_appends old start).kept are)

module _ (index : ListIndex) (numbers : List ℕ) (files : List Kept) (notes : NotesAll index (own_lists numbers files)) where
  pub kept_once : AreKeptOnce (own_lists numbers files)
  kept_once one other long same =
      same_Some one other (sym (notes one long) ∙ ap (place_for index) same ∙ notes other (rw same at long))

  -- one file more, whose place is noted if it has an own list of eight or more
  pub one_more_noted : (last : Kept) → (8 ≤ length (own_list numbers (Some last))
      → place_for index (own_list numbers (Some last)) ≡ Some (length files)) → NotesAll index (own_lists numbers (files ++ last ∷ []))
  one_more_noted last next place = by (slice_get (files ++ last ∷ []) place) refl
    where
      by : (o : Option Kept) → slice_get (files ++ last ∷ []) place ≡ o → 8 ≤ length (own_list numbers o)
          → place_for index (own_list numbers o) ≡ Some place
      by None e long = absurd (omega (arith, long))
      by (Some one) e long = elim (push_cases files last place one e) [
        | inl there ↦ (rw there at (notes place)) long
        | inr here ↦ rw (here.0, ← here.1) (next (rw here.1 long))
      ]

  pub no_list_noted : (last : Kept) → own_list numbers (Some last) ≡ [] → NotesAll index (own_lists numbers (files ++ last ∷ []))
  no_list_noted last none = one_more_noted last (λ long. absurd (omega (arith, rw none at long)))
