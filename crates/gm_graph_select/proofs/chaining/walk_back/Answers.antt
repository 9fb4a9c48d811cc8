use Rattle.std.proofs.Common.{◌≡◌, ◌∙◌, ◌++◌, ◌∷◌, [], List, ap, arith, reverse}
use Rattle.gm_name.specs.ModuleVersion.{ModuleVersion, module_at}
use Rattle.gm_graph_select.specs.Graph.{among}
use Rattle.gm_graph_select.specs.declared.step.Step.{Step}
use Rattle.gm_graph_select.specs.declared.step.Step.TheVariants.{Main, Of}
use Rattle.gm_graph_select.specs.Private.Numbering.{steps_of}
use Rattle.gm_graph_select.specs.Private.Searching.{visited_step}
use Rattle.gm_graph_select.proofs.BreadthFirst.{back_begins, back_done, back_more}
use Rattle.gm_graph_select.proofs.chaining.walk_back.Goals as goal

pub back-init : goal.back-init
back-init c =
    let first : c.push_step.new.steps.items ≡ Of (module_at c.args.graph.now.vertices c.args.goal) ∷ [] =
    c.in_ok-push_step.ensures ∙ ap (λ (l : List Step). l ++ Of c.vertex.result.now ∷ []) c.new-steps.ensures.items
    ∙ ap (λ (x : ModuleVersion). Of x ∷ []) c.vertex.ensures in
    record {
      inside = let some = c.requires.traced.some in omega (arith, some);
      chain = back_begins (among c.args.graph.now.edges) (steps_of c.args.graph.now) c.args.visits.now
          (module_at c.args.graph.now.vertices c.args.goal) _ c.push_step.new.steps.items first c.requires.traced.last;
    }

pub back-preserved : goal.back-preserved
back-preserved c =
    let k = c.back.place in
    let (below, chain) = back_more (among c.args.graph.now.edges) (steps_of c.args.graph.now) c.args.visits.now
    (module_at c.args.graph.now.vertices c.args.goal) k c.in-Some.vertex.now c.back.steps.items
    c.push_step-in-Some.new.steps.items (c.requires.traced.each k c.back.invariant.inside) c.in-Some.ensures.some
    c.in_ok-push_step-2.ensures c.back.invariant.chain in
    record { inside = let room = c.back.invariant.inside in omega (arith, below, room); chain = chain }

pub returns : goal.returns
returns c =
    let E = among c.args.graph.now.edges in
    let steps = steps_of c.args.graph.now in
    let visits = c.args.visits.now in
    let all : c.reverse.new.self.items ≡ reverse (c.back.steps.items ++ Main ∷ []) = c.reverse.ensures.items ∙ ap reverse c.in_ok-push.ensures.items in
    back_done E steps visits (module_at c.args.graph.now.vertices c.args.goal) (visited_step steps visits c.back.place)
    c.back.steps.items c.reverse.new.self.items c.in_default.ensures.none all c.back.invariant.chain
