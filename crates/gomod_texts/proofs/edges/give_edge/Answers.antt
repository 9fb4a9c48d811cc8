use Rattle.gomod_texts.proofs.WrittenLines.{edge_in_pieces}
use Rattle.gomod_texts.proofs.edges.give_edge.Goals as goal

pub returns : goal.returns
returns g c =
    rw (edge_in_pieces c.step_pieces.result.0.now c.step_pieces.result.1.now c.step_pieces.result.2.now _
    c.args.edge.to.now.0 c.args.edge.to.now.1 c.step_pieces.ensures)
    (rw (c.as_str.ensures.text, c.as_str-2.ensures.text, c.path.ensures.path, c.version.ensures) at c.give_line.ensures)
