-- Edges lead from the main module to each step that has an edge, and so to each entry of the build list.
use Rattle.std.proofs.Common.{◌↔◌, ℕ, zero, suc, List, ◌∷◌, map, Contains, inl, inr, arith, Option}
use Rattle.gm_name.specs.ModuleVersion.{ModuleVersion}
use Rattle.gm_file.specs.Directives.{Right}
use Rattle.gm_graph_select.specs.declared.step.Edge.{Edge}
use Rattle.gm_graph_select.specs.declared.step.Step.TheVariants.{Main as FromMain, Of}
use Rattle.gm_graph_select.specs.BuildList.{IsBuildList, IsSelected, entry_of, main_entry}
use Rattle.gm_graph_select.specs.Chains.{IsReached, IsRooted, along, at_main}
use Rattle.gm_graph_select.specs.Graph.{among, edge, edge_cmp}
use Rattle.gm_graph_select.specs.Order.{HaveSame, IsAscending}
use Rattle.gm_graph_select.proofs.Same.{same_back, same_rooted}
use Rattle.gm_graph.specs.Entries.{Entry}
use Rattle.gm_graph.specs.Run.{IsDeep, IsEdge, IsOpened, IsTop, from_deep, from_main, from_top}
use Rattle.gm_graph_cache.specs.Sayings.{Run}
use Rattle.gm_graph.specs.Outcome.{AreReached}
use Rattle.gm_graph_select.proofs.RankedLists.{from_mapped}

module _ (run : Run) where
  top_reached : (x : ModuleVersion) → IsTop run x → IsReached (IsEdge run) (Of x)
  top_reached x t = (1, along at_main t)

  deep_reached : {x : ModuleVersion} → IsDeep run x → IsReached (IsEdge run) (Of x)
  deep_reached (from_main {x} p t) = top_reached x t
  deep_reached (from_top {x} {y} file t says u c) = (2, along (along at_main t) (inl t, (file, says, c)))
  deep_reached (from_deep {x} {y} d r) = let (n, l) = deep_reached d in (suc n, along l (inr d, r))

  pub opened_reached : (x : ModuleVersion) → IsOpened run x → IsReached (IsEdge run) (Of x)
  opened_reached x (inl t) = top_reached x t
  opened_reached x (inr d) = deep_reached d

  pub edges_rooted : IsRooted (IsEdge run)
  edges_rooted FromMain y e = (0, at_main)
  edges_rooted (Of x) y e = opened_reached x e.0

pub list_rooted : (run : Run) (edges : List Edge) → ((e : Edge) → Contains edges e ↔ IsEdge run e.from e.to) → IsRooted (among edges)
list_rooted run edges exact = same_rooted _ _ (same_back _ (IsEdge run) (λ s y. exact (edge s y))) (edges_rooted run)

-- The entries of a build list are reached.
module _ {main : List ℕ} {replaces : ModuleVersion → Option Right} (edges : List Edge) (entries : List Entry)
    (rooted : IsRooted (among edges)) (list : IsBuildList main replaces (among edges) entries) where
  selected_reached : (x : ModuleVersion) → IsSelected main (among edges) x → IsReached (among edges) (Of x)
  selected_reached x is = let (s, e) = is.is_end in let (n, l) = rooted s x e in (suc n, along l e)

  entry_reached : (entry : Entry) → Contains (main_entry ∷ map (entry_of replaces) list.selected) entry → IsReached (among edges) entry.0
  entry_reached entry (zero, below, is) = rw⁻¹ is (0, at_main)
  entry_reached entry (suc k, below, is) =
      let (x, there, e) = from_mapped (entry_of replaces) list.selected entry (k, omega arith, is) in
      rw⁻¹ e (selected_reached x ((list.each x).0 there))

  pub are_reached : IsAscending edge_cmp edges → AreReached edges entries
  are_reached ascending = record {
    ascending = ascending;
    reached = λ entry there none. none (entry_reached entry (rw list.entries_are at there));
  }

pub sorted_rooted : (old new : List Edge) → HaveSame old new → IsRooted (among old) → IsRooted (among new)
sorted_rooted old new same rooted = same_rooted (among old) (among new) (λ s y. same (edge s y)) rooted
