use Rattle.std.proofs.Common.{◌∙◌, ◌++◌, List, [], Err, Ok, append-nil, append_assoc, ap, refl, sym}
use Rattle.gm_graph_select.specs.EdgeList.{edge_of_ref}
use Rattle.gm_graph_select.specs.declared.step.Edge.{Edge}
use Rattle.gomod_texts.proofs.Waiting.{gives_more, no_more, took_given, took_part}
use Rattle.gomod_texts.specs.GraphQuery.{edge_line, graph_text}
use Rattle.gomod_texts.proofs.edges.write_edges.Goals as goal

pub returns-in_err-give_edge : goal.returns-in_err-give_edge
returns-in_err-give_edge g c =
    let main = c.args.main.now in
    let given = c.edges.invariant.0 in
    let whole = graph_text main c.args.edges in
    let fault = c.in_err-give_edge.field-0.0 in
    let split = c.edges.invariant.2 ∙ ap (λ (es : List Edge). given ++ graph_text main es) c.in-Some.ensures.steps in
    took_part _ _ [] c.give_edge.new.buffer whole fault c.from_residual.result refl c.from_residual.ensures.0
    (no_more _ _ _ [] c.edges.buffer c.give_edge.new.buffer given (edge_line main (edge_of_ref c.in-Some.edge)) (graph_text main c.next.new.self)
    whole fault (Err fault) refl split c.edges.invariant.1 c.in_err-give_edge.ensures)

pub edges-preserved : goal.edges-preserved
edges-preserved g c =
    let main = c.args.main.now in
    let given = c.edges.invariant.0 in
    let next = edge_line main (edge_of_ref c.in-Some.edge) in (
      given ++ next,
      gives_more _ _ _ [] c.edges.buffer c.give_edge.new.buffer given next _ (Ok tt) refl c.edges.invariant.1 c.in_ok-give_edge.ensures,
      c.edges.invariant.2 ∙ ap (λ (es : List Edge). given ++ graph_text main es) c.in-Some.ensures.steps
          ∙ sym (append_assoc given next (graph_text main c.next.new.self)),
    )

pub returns : goal.returns
returns g c =
    let main = c.args.main.now in
    let given = c.edges.invariant.0 in
    let whole = c.edges.invariant.2 ∙ ap (λ (es : List Edge). given ++ graph_text main es) c.in-None.ensures.steps.0 ∙ append-nil given in
    rw whole (took_given _ _ _ [] c.edges.buffer given tt c.end.result refl c.edges.invariant.1 c.end.ensures.ended)
