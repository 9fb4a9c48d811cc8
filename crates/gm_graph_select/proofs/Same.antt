-- Relations that lead to the same vertices have the same build lists. Relations between the same steps and vertices
-- have the same levels and chains, too.
use Rattle.std.proofs.Common.{◌↔◌, ◌∙◌, ◌<◌, ℕ, suc, List, length, get_or, map, Option, Contains, ap, subst, sym}
use Rattle.std.proofs.lemmas.List.{get_or-map, length-map}
use Rattle.std.proofs.lemmas.List.Elements.{Contains-get_or}
use Rattle.gm_name.specs.ModuleVersion.{ModuleVersion}
use Rattle.gm_graph_select.specs.declared.step.Edge.{Edge}
use Rattle.gm_graph_select.specs.declared.step.Step.{Step}
use Rattle.gm_graph_select.specs.declared.step.Step.TheVariants.{Main, Of}
use Rattle.gm_graph_select.specs.Graph.{AreEnds, Edges, IsEdgeEnd, among, edge}
use Rattle.gm_graph_select.specs.BuildList.{IsSelected, IsBuildList}
use Rattle.gm_graph_select.specs.Order.{HaveSame}
use Rattle.gm_graph_select.specs.Chains.{Leads, at_main, along, IsLevel, IsPredecessor, IsChain, begins, goes_on, IsReached, IsRooted}

-- The two relations hold between the same steps and vertices.
abbrev pub AreSame : Edges → Edges → Type 0
AreSame E F = (s : Step) (y : ModuleVersion) → E s y ↔ F s y

pub same_back : (E F : Edges) → AreSame E F → AreSame F E
same_back E F h s y = ((h s y).1, (h s y).0)

-- The two relations lead to the same vertices.
abbrev pub EndAlike : Edges → Edges → Type 0
EndAlike E F = (y : ModuleVersion) → IsEdgeEnd E y ↔ IsEdgeEnd F y

alike_back : (E F : Edges) → EndAlike E F → EndAlike F E
alike_back E F h y = ((h y).1, (h y).0)

same_ends : (E F : Edges) → AreSame E F → EndAlike E F
same_ends E F h y = ((λ end. (end.0, (h end.0 y).0 end.1)), (λ end. (end.0, (h end.0 y).1 end.1)))

pub ends_same : (xs ys : List ModuleVersion) (E : Edges) → HaveSame xs ys → AreEnds xs E → AreEnds ys E
ends_same xs ys E same are y = ((λ h. (are y).0 ((same y).1 h)), (λ end. (same y).0 ((are y).1 end)))

-- the vertices that the edges of a list lead to, one for each edge
pub ends_of : (edges : List Edge) → AreEnds (map (λ (e : Edge). e.to) edges) (among edges)
ends_of edges y = (from, to)
  where
    from : Contains (map (λ (e : Edge). e.to) edges) y → IsEdgeEnd (among edges) y
    from (k, below, at) =
        let inside : k < length edges = rw length-map at below in
        let e = get_or edges k (edge Main y) in (
          e.from,
          subst (λ (z : ModuleVersion). Contains edges (edge e.from z))
              (sym (get_or-map (λ (e : Edge). e.to) edges k (edge Main y) y inside) ∙ at)
              (Contains-get_or edges k (edge Main y) inside),
        )

    to : IsEdgeEnd (among edges) y → Contains (map (λ (e : Edge). e.to) edges) y
    to (s, there) =
        let (k, below, at) = there in
        (k, rw length-map below, get_or-map (λ (e : Edge). e.to) edges k (edge s y) y below ∙ ap (λ (e : Edge). e.to) at)

alike_selected : (main : List ℕ) (E F : Edges) → EndAlike E F → (x : ModuleVersion) → IsSelected main E x → IsSelected main F x
alike_selected main E F h x is = record {
  not_main = is.not_main;
  is_end = (h x).0 is.is_end;
  greatest = λ y e. is.greatest y ((h y).1 e);
}

-- A build list depends only on the vertices that edges lead to.
alike_build_list : {R : Type 0} {main : List ℕ} {replaces : ModuleVersion → Option R} {entries : List (Step × Option R)} (E F : Edges)
    → EndAlike E F → IsBuildList main replaces E entries → IsBuildList main replaces F entries
alike_build_list {main} E F h list = record {
  selected = list.selected;
  entries_are = list.entries_are;
  ascending = list.ascending;
  each = λ x. (
    (λ there. alike_selected main E F h x ((list.each x).0 there)),
    (λ is. (list.each x).1 (alike_selected main F E (alike_back E F h) x is)),
  );
}

pub same_build_list : {R : Type 0} {main : List ℕ} {replaces : ModuleVersion → Option R} {entries : List (Step × Option R)} (E F : Edges)
    → AreSame E F → IsBuildList main replaces E entries → IsBuildList main replaces F entries
same_build_list E F h = alike_build_list E F (same_ends E F h)

pub same_leads : (E F : Edges) → AreSame E F → {s : Step} {n : ℕ} → Leads E s n → Leads F s n
same_leads E F h at_main = at_main
same_leads E F h (along {s} {y} {n} l e) = along (same_leads E F h l) ((h s y).0 e)

pub same_level : (E F : Edges) → AreSame E F → (s : Step) (n : ℕ) → IsLevel E s n → IsLevel F s n
same_level E F h s n level = record { leads = same_leads E F h level.leads; least = λ m l. level.least m (same_leads F E (same_back E F h) l) }

pub same_before : (E F : Edges) → AreSame E F → (s : Step) (y : ModuleVersion) → IsPredecessor E s y → IsPredecessor F s y
same_before E F h s y before = record {
  is_edge = (h s y).0 before.is_edge;
  level = before.level;
  nearer = same_level E F h s before.level before.nearer;
  further = same_level E F h (Of y) (suc before.level) before.further;
  least = λ t e l. before.least t ((h t y).1 e) (same_level F E (same_back E F h) t before.level l);
}

pub same_chain : (E F : Edges) → AreSame E F → {s : Step} {steps : List Step} → IsChain E s steps → IsChain F s steps
same_chain E F h begins = begins
same_chain E F h (goes_on {s} {y} {steps} chain before) = goes_on (same_chain E F h chain) (same_before E F h s y before)

pub same_reached : (E F : Edges) → AreSame E F → (s : Step) → IsReached E s → IsReached F s
same_reached E F h s (n, l) = (n, same_leads E F h l)

pub same_rooted : (E F : Edges) → AreSame E F → IsRooted E → IsRooted F
same_rooted E F h rooted s y e = same_reached E F h s (rooted s y ((h s y).1 e))
