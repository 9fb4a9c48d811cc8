-- The vertices of a graph: the modules that its sources and their lists name.
use Rattle.std.specs.Ordering.{nat_cmp}
use Rattle.std.specs.List.Sorted.{IsPermutation, IsSortedByKey}
use Rattle.std.proofs.Common.{◌≡◌, ◌⊎◌, ◌↔◌, ◌∙◌, ℕ, Bool, List, Option, None, Some, Contains, get_or, length, map, ap, inl, inr, refl, sym}
use Rattle.std.specs.Prelude.{All}
use Rattle.std.specs.List.{AllZip, IsDistinct}
use Rattle.std.specs.Option.{option_cmp}
use Rattle.std.proofs.lemmas.List.Elements.{Contains-get_or}
use Rattle.gm_name.specs.ModuleVersion.{ModuleVersion, module_at, pair_cmp}
use Rattle.gm_graph_select.specs.declared.adjacency.Source.{Source}
use Rattle.gm_graph_select.specs.declared.step.Edge.{Edge}
use Rattle.gm_graph_select.specs.declared.step.Step.TheVariants.{Main, Of}
use Rattle.gm_graph_select.specs.Adjacency.{AreRanked, StepEdges, by_step, edges_of, left_by, same_step, sources_of, step_with}
use Rattle.gm_graph_select.specs.Private.Adjacency.{IsByRanks, source_by_ranks}
use Rattle.gm_graph_select.specs.Graph.{IsEdgeEnd, among, edge}
use Rattle.gm_graph_select.specs.Private.Marking.{HasMark, named_by, numbers_named}
use Rattle.gm_graph_select.specs.Order.{HaveSame, IsAscending}
use Rattle.gm_graph_select.specs.Private.Ranking.{IsMarkedModule}
use Rattle.gm_graph_select.proofs.Marks.{from_flat, in_flat, marked_inside, names_from, names_only, names_to}
use Rattle.gm_graph_select.proofs.RankedLists.{AreByRanks, IsFromMarked, NamesMarked, edges_each, edges_only, from_mapped, in_mapped, lists_are_ranked, same_edges, steps_by_ranks, AreRanks}

module _ (modules : List ModuleVersion) (marks : List Bool) (all : List StepEdges)
    (are : (number : ℕ) → HasMark marks number ↔ Contains (numbers_named all) number) where
  -- Each number that a list names is marked.
  all_named : All (NamesMarked marks) all
  all_named k d below = record {
    from = from_of one.from refl;
    to =
        λ j e inside. marked (get_or one.to j e) (names_to one (get_or one.to j e) (Contains-get_or one.to j e inside));
  }
    where
      one : StepEdges
      one = get_or all k d

      marked : (number : ℕ) → Contains (named_by one) number → HasMark marks number
      marked number h = (are number).1 (in_flat named_by all one number (Contains-get_or all k d below) h)

      from_of : (from : Option ℕ) → one.from ≡ from → IsFromMarked marks from
      from_of None is = tt
      from_of (Some number) is = marked number (names_from one number is)

  module _ (edges : List Edge) (same : HaveSame (edges_of modules all) edges) where
    -- A marked module is an end of an edge, or a list leaves it.
    end_or_source : (x : ModuleVersion) → IsMarkedModule modules marks x → IsEdgeEnd (among edges) x ⊎ Contains (sources_of modules all) (Of x)
    end_or_source x (number, placed) =
        let (one, there, named) = from_flat named_by all number ((are number).0 placed.marked) in
        elim (names_only one number named) [
          | inl left ↦ inr (rw⁻¹ (ap (λ (from : Option ℕ). step_with modules from) left ∙ ap Of (sym placed.is))
              (in_mapped (left_by modules) all one there))
          | inr found ↦ inl (
            left_by modules one,
            (same (edge (left_by modules one) x)).0 (rw placed.is (edges_each modules all one number there found)),
          )
        ]

    marked_module : length marks ≡ length modules → (x : ModuleVersion) → (one : StepEdges) → Contains all one
        → (number : ℕ) → Contains (named_by one) number → module_at modules number ≡ x → IsMarkedModule modules marks x
    marked_module count x one there number named is =
        let marked : HasMark marks number = (are number).1 (in_flat named_by all one number there named) in
        (number, record { within = rw⁻¹ count (marked_inside marks number marked); marked = marked; is = sym is })

    an_end : length marks ≡ length modules → (x : ModuleVersion) → IsEdgeEnd (among edges) x → IsMarkedModule modules marks x
    an_end count x (s, h) =
        let (one, there, number, found, is) = edges_only modules all (edge s x) ((same (edge s x)).1 h) in
        marked_module count x one there number (names_to one number found) (ap (λ (e : Edge). e.to) is)

    a_source : length marks ≡ length modules → (x : ModuleVersion) → Contains (sources_of modules all) (Of x) → IsMarkedModule modules marks x
    a_source count x h =
        let (one, there, is) = from_mapped (left_by modules) all (Of x) h in
        its_vertex one there one.from refl is
      where
        same_vertex : (y : ModuleVersion) → Of y ≡ Of x → y ≡ x
        same_vertex y e = cc

        its_vertex : (one : StepEdges) → Contains all one → (from : Option ℕ) → one.from ≡ from
            → step_with modules one.from ≡ Of x → IsMarkedModule modules marks x
        its_vertex one there None is step = absurd (let main : Main ≡ Of x = sym (ap (λ (f : Option ℕ). step_with modules f) is) ∙ step in cc main)
        its_vertex one there (Some number) is step =
            marked_module count x one there number (names_from one number is)
            (same_vertex (module_at modules number) (sym (ap (λ (f : Option ℕ). step_with modules f) is) ∙ step))

    vertices_named : length marks ≡ length modules → (x : ModuleVersion)
        → IsMarkedModule modules marks x ↔ (IsEdgeEnd (among edges) x ⊎ Contains (sources_of modules all) (Of x))
    vertices_named count x = (
      end_or_source x,
      (λ so. elim so [ inl end ↦ an_end count x end | inr source ↦ a_source count x source ]),
    )

-- ---- a graph that was made

-- The vertices are the modules that the old edges name, and the new ones are the same edges.
pub record IsGraphOf (modules : List ModuleVersion) (old : List StepEdges) (vertices : List ModuleVersion) (new : List StepEdges) : Type 0 where
  pub ranked : AreRanked vertices new
  pub vertices_are : (x : ModuleVersion) → Contains vertices x ↔ (IsEdgeEnd (among (edges_of vertices new)) x ⊎ Contains (sources_of modules old) (Of x))
  pub edges_are : HaveSame (edges_of modules old) (edges_of vertices new)

from_steps : (modules : List ModuleVersion) (marks : List Bool) (vertices : List ModuleVersion) (ranks : List ℕ) (old new : List StepEdges)
    → length marks ≡ length modules → ((number : ℕ) → HasMark marks number ↔ Contains (numbers_named old) number)
    → ((x : ModuleVersion) → Contains vertices x ↔ IsMarkedModule modules marks x) → IsAscending pair_cmp vertices → AreRanks modules marks vertices ranks
    → AreByRanks ranks old new → IsDistinct (same_step modules) old → IsGraphOf modules old vertices new
from_steps modules marks vertices ranks old new count are contains up ranked by once = record {
  ranked = lists_are_ranked modules marks vertices ranks ranked old new named by up once;
  vertices_are = λ x.
      let ends = vertices_named modules marks old are (edges_of vertices new) same count x in
      ((λ h. ends.0 ((contains x).0 h)), (λ h. (contains x).1 (ends.1 h)));
  edges_are = same;
}
  where
    named : All (NamesMarked marks) old
    named = all_named modules marks old are

    same : HaveSame (edges_of modules old) (edges_of vertices new)
    same = same_edges modules marks vertices ranks ranked old new named by

-- `lists`, `sources`, `is_vertex` and `places` are what the calls were given: the lists, the sources, the marks and the
-- ranks.
pub is_graph_of : {modules : List ModuleVersion} {marks is_vertex : List Bool} {vertices : List ModuleVersion}
    {ranks places others : List ℕ} {old_lists lists : List (List ℕ)} (new_lists : List (List ℕ))
    {old_sources sources new_sources : List Source}
    → lists ≡ old_lists → sources ≡ old_sources → is_vertex ≡ marks → places ≡ ranks → others ≡ ranks
    → length marks ≡ length modules → ((number : ℕ) → HasMark marks number ↔ Contains (numbers_named (by_step lists sources)) number)
    → ((x : ModuleVersion) → Contains vertices x ↔ IsMarkedModule modules is_vertex x) → IsAscending pair_cmp vertices
    → AreRanks modules is_vertex vertices ranks
    → AllZip (IsByRanks places) lists new_lists → IsPermutation (map (source_by_ranks others) old_sources) new_sources
    → IsSortedByKey (λ one. one.from) (option_cmp nat_cmp) new_sources
    → IsDistinct (same_step modules) (by_step old_lists old_sources)
    → IsGraphOf modules (by_step old_lists old_sources) vertices (by_step new_lists new_sources)
is_graph_of {modules} {marks} {is_vertex} {vertices} {ranks} {places} {others} {old_lists} {lists} new_lists
    {old_sources} {sources} {new_sources} lists_are sources_are marks_are places_are others_are count are contains up ranked zip permutation sorted once =
    from_steps modules marks vertices ranks (by_step old_lists old_sources) (by_step new_lists new_sources) count
    (rw (lists_are, sources_are) at are) (rw marks_are at contains) up (rw marks_are at ranked)
    (steps_by_ranks ranks old_lists new_lists (rw (lists_are, places_are) at zip) old_sources new_sources (rw others_are at permutation) sorted)
    once
