use Rattle.std.proofs.Common.{Err}
use Rattle.gm_graph.proofs.FoundFiles.{fault_noted}
use Rattle.gm_graph.proofs.Adding.{adds_none}
use Rattle.gm_graph.proofs.visiting.add_fault.Goals as goal

pub returns-clause-adds : goal.returns-clause-adds
returns-clause-adds c = λ cache run visited worklist marks ready below says.
    let old = c.args.findings.now in
    let new = c.note_fault.new.self in
    let noted = c.in_ok-note_fault.ensures in
    let number = c.args.one.number in
    record {
      ready = record {
        worklist_is = ready.worklist_is;
        followed = ready.followed;
        found = fault_noted old new number c.args.class noted.put c.note_fault.ensures.places cache run visited c.args.one.depth ready.found below says;
      };
      follows = record { said = Err c.args.class; says = says; adds = adds_none _ _ };
    }
