use Rattle.gm_file.specs.Main.{replacement_in}
use Rattle.gm_graph_select.specs.Graph.{among}
use Rattle.gm_graph_select.proofs.LastVersions.{listed}
use Rattle.gm_graph.proofs.rows.build_list.Goals as goal

pub returns : goal.returns
returns c = λ ends.
    let main = c.args.main.now in
    let edges = among c.args.graph.now.edges in
    rw c.in_ok-rows.ensures
    (listed (replacement_in main)
    (rw c.path.ensures at c.selected-selected.ensures c.args.graph.now.edges ends))
