use Rattle.gm_graph.proofs.Mapped.{faults_listed}
use Rattle.gm_graph.proofs.gathering.fault_list.Goals as goal

pub returns : goal.returns
returns c =
    let map = c.in_ok-map.ensures in
    let list = c.in_ok-list.ensures in
    rw list.faults (faults_listed c.in_ok-map.map list.ordered c.args.modules.now c.args.faults.now map.only map.each)
