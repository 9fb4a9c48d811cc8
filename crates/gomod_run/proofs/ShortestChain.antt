-- What `chain` prints is a shortest walk.
use Rattle.std.proofs.Common.{◌≡◌, ◌∙◌, ◌≤◌, ℕ, suc, List, length, refl, arith, inl, inr, length-append}
use Rattle.gm_graph_select.specs.declared.step.Step.{Step}
use Rattle.gm_graph_select.specs.Chains.{IsChain, Leads, along, at_main, begins, goes_on}
use Rattle.gm_graph_select.specs.Graph.{Edges}
use Rattle.gm_graph_select.proofs.Lawful.{shortest}
use Rattle.gm_graph.specs.Run.{IsEdge}
use Rattle.gm_graph_cache.specs.Sayings.{run_of}
use Rattle.gomod_texts.specs.QueryLaws.{PrintedChainIsShortest, IsWalk, further, here}
use Rattle.gomod_texts.proofs.PrintedList.{not_refused, printed_run}

pub chain_walk : (E : Edges) {s : Step} {steps : List Step} → IsChain E s steps → IsWalk E s steps
chain_walk E begins = here
chain_walk E (goes_on {s} {y} {steps} chain before) = further (chain_walk E chain) before.is_edge

-- a walk has one more step than it has edges
walk_edges : (E : Edges) {s : Step} {steps : List Step} → IsWalk E s steps → (n : ℕ) × (length steps ≡ suc n) × Leads E s n
walk_edges E here = (0, refl, at_main)
walk_edges E (further {s} {y} {steps} walk edge) =
    let (n, long, leads) = walk_edges E walk in
    (suc n, length-append steps _ ∙ omega (arith, long), along leads edge)

no_shorter : (E : Edges) (s : Step) (steps others : List Step) → IsChain E s steps → IsWalk E s others → length steps ≤ length others
no_shorter E s steps others chain walk =
    let (n, long, level) = shortest E s _ chain in
    let (m, far, leads) = walk_edges E walk in
    let least = level.least m leads in
    omega (arith, long, far, least)

pub chain_is_shortest : PrintedChainIsShortest
chain_is_shortest path run outcome is ends =
    let (main, table, found, (rows, list, shows)) = printed_run _ run _ is ends in
    let edges = IsEdge (run_of main table _) in
    elim shows [
      | inl (s, steps, entry, chain, says) ↦
          (main, table, rows, s, steps, found, list, entry, says, chain_walk edges chain, (λ others walk. no_shorter edges s steps _ chain walk))
      | inr (unlisted, says) ↦ absurd (not_refused _ _ says ends)
    ]
