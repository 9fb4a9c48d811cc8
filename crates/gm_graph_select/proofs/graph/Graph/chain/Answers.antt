use Rattle.gm_graph_select.specs.BuildList.{entries_in}
use Rattle.gm_graph_select.proofs.RestRows.{entry_listed, one_entry}
use Rattle.gm_graph_select.proofs.graph.Graph.chain.Goals as goal

pub returns-in_default-clause-not_listed : goal.returns-in_default-clause-not_listed
returns-in_default-clause-not_listed g c = λ e (s, entry, reached).
    c.in_default.ensures.none (entry_listed c.args.main.now (entries_in c.args.rows.now) c.args.path.now s entry)

pub returns-in_default-2-clause-not_listed : goal.returns-in_default-2-clause-not_listed
returns-in_default-2-clause-not_listed g c = λ e (s, entry, reached).
    let same = one_entry c.args.main.now (entries_in c.args.rows.now) c.args.path.now s c.in-Some.entry.now entry c.in-Some.ensures.some in
    let none = rw c.in_default-2.is at c.in_ok-steps.ensures.none in
    none (rw⁻¹ same reached)
