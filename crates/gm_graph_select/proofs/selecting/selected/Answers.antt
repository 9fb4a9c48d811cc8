use Rattle.gm_graph_select.specs.Graph.{among}
use Rattle.gm_graph_select.proofs.LastVersions.{are_selected}
use Rattle.gm_graph_select.proofs.selecting.selected.Goals as goal

pub returns : goal.returns
returns c = λ edges ends.
    rw c.among.ensures
    (are_selected c.args.main.now c.args.ends.now c.requires (among edges) ends)
