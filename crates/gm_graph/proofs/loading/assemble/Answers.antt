use Rattle.gm_graph_select.specs.Adjacency.{sources_of}
use Rattle.gm_graph.specs.Private.Gathering.{steps_by}
use Rattle.gm_graph.proofs.Ends.{ends_are}
use Rattle.gm_graph.proofs.Rooted.{are_reached, sorted_rooted}
use Rattle.gm_graph.proofs.loading.assemble.Goals as goal

pub new-requires : goal.new-requires
new-requires c =
    let steps = steps_by c.args.parts c.args.findings.places.items in
    let told = c.in_ok-graph.ensures in
    are_reached _ _ (sorted_rooted _ _ told.edges c.requires.rooted)
    (c.in_ok-rows.ensures (ends_are _ (sources_of c.args.parts.modules.items steps) _ _ told.edges told.vertices c.requires.sources))
    told.ascending

pub returns-clause-faults : goal.returns-clause-faults
returns-clause-faults c = rw c.new.ensures.faults (rw (c.deref-2.ensures.value, c.deref-3.ensures.value) at c.in_ok-faults.ensures)

pub returns-clause-ascending : goal.returns-clause-ascending
returns-clause-ascending c = rw c.new.ensures.edges c.in_ok-graph.ensures.ascending

pub returns-clause-edges : goal.returns-clause-edges
returns-clause-edges c = rw c.new.ensures.edges c.in_ok-graph.ensures.edges

pub returns-clause-rows : goal.returns-clause-rows
returns-clause-rows c =
    let steps = steps_by c.args.parts c.args.findings.places.items in
    let told = c.in_ok-graph.ensures in
    rw (c.new.ensures.edges, c.new.ensures.rows)
    (c.in_ok-rows.ensures (ends_are _ (sources_of c.args.parts.modules.items steps) _ _ told.edges told.vertices c.requires.sources))
