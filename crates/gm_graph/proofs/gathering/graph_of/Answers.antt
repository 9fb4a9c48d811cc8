use Rattle.gm_graph.proofs.Gathered.{lists_apart, lists_below, sources_below, steps_once}
use Rattle.gm_graph.proofs.gathering.graph_of.Goals as goal

pub new-requires : goal.new-requires
new-requires c =
    let parts = c.args.parts in
    let places = c.args.places.items in
    rw (c.into_lists-modules.ensures.modules, c.into_lists-modules.ensures.numbers, c.in_ok-lists.ensures.spans, c.in_ok-lists.ensures.sources) (record {
      few = parts.few;
      distinct = parts.distinct;
      apart = lists_apart parts;
      sources = sources_below parts places c.requires;
      lists = lists_below parts;
      once = steps_once parts places c.requires;
    })

pub returns-clause-edges : goal.returns-clause-edges
returns-clause-edges c =
    rw (c.into_lists-modules.ensures.modules, c.into_lists-modules.ensures.numbers, c.in_ok-lists.ensures.spans, c.in_ok-lists.ensures.sources)
    at c.new.ensures.edges

pub returns-clause-vertices : goal.returns-clause-vertices
returns-clause-vertices c =
    rw (c.into_lists-modules.ensures.modules, c.into_lists-modules.ensures.numbers, c.in_ok-lists.ensures.spans, c.in_ok-lists.ensures.sources)
    at c.new.ensures.vertices
