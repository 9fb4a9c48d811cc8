-- The edges of adjacency lists are those with their pairs of numbers.
use Rattle.std.proofs.Common.{◌≡◌, ◌∙◌, ◌<◌, ℕ, List, [], ◌∷◌, ◌++◌, map, ap, ap₂, refl, sym}
use Rattle.std.specs.Prelude.{All}
use Rattle.gm_graph_select.specs.declared.step.Edge.{Edge}
use Rattle.gm_graph_select.specs.Adjacency.{HaveNumbers, IsBelow, IsNumbered, StepEdges, edges_from, edges_of}
use Rattle.gm_graph_select.specs.EdgeList.{AreEndsBelow, NumberedEdge, edge_with}
use Rattle.gm_graph_select.specs.Private.Adjacency.{numbered_edges}
use Rattle.gm_name.specs.ModuleVersion.{ModuleVersion}
use Rattle.std.proofs.lemmas.List.{map-append}
use Rattle.std.proofs.lemmas.List.Elements.{All-append, All-head, All-map, All-nil, All-tail}

edges_with : (vertices : List ModuleVersion) (one : StepEdges) → edges_from vertices one
    ≡ map (edge_with vertices) (map (λ (number : ℕ). (one.from, number)) one.to)
edges_with vertices one = along one.to
  where
    along : (to : List ℕ) → map (λ number. edge_with vertices (one.from, number)) to ≡ map (edge_with vertices) (map (λ (number : ℕ). (one.from, number)) to)
    along [] = refl
    along (number ∷ to) = ap (λ (edges : List Edge). edge_with vertices (one.from, number) ∷ edges) (along to)

pub edges_of-numbered : (vertices : List ModuleVersion) (all : List StepEdges) → map (edge_with vertices) (numbered_edges all) ≡ edges_of vertices all
edges_of-numbered vertices [] = refl
edges_of-numbered vertices (one ∷ all) =
    map-append (edge_with vertices) (map (λ (number : ℕ). (one.from, number)) one.to) (numbered_edges all)
    ∙ ap₂ (λ (xs ys : List Edge). xs ++ ys) (sym (edges_with vertices one)) (edges_of-numbered vertices all)

pub pairs_below : (count : ℕ) (all : List StepEdges) → HaveNumbers count all → All (AreEndsBelow count) (numbered_edges all)
pairs_below count [] numbered = All-nil (AreEndsBelow count)
pairs_below count (one ∷ all) numbered =
    let here = All-head (IsNumbered count) one all numbered in
    All-append (AreEndsBelow count) (map (λ (number : ℕ). (one.from, number)) one.to) (numbered_edges all)
    (All-map (AreEndsBelow count) (λ (number : ℕ). (one.from, number)) one.to (λ k d below. (here.from, here.to k d below)))
    (pairs_below count all (All-tail (IsNumbered count) one all numbered))

-- The first of the edges that are left, and those after it.
pub next_below : (count : ℕ) (pairs : List NumberedEdge) (pair : NumberedEdge) (rest : List NumberedEdge)
    → pairs ≡ pair ∷ rest → All (AreEndsBelow count) pairs
    → IsBelow count pair.0 × (pair.1 < count) × All (AreEndsBelow count) rest
next_below count pairs pair rest is below =
    let all : All (AreEndsBelow count) (pair ∷ rest) = rw is at below in
    let here : AreEndsBelow count pair = All-head (AreEndsBelow count) pair rest all in
    (here.0, here.1, All-tail (AreEndsBelow count) pair rest all)
