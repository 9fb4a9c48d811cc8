use Rattle.std.proofs.lemmas.Result.{IfOk-weaker}
use Rattle.gm_file.specs.Views.{right_view}
use Rattle.gm_graph_select.specs.BuildList.{entries_in}
use Rattle.gm_graph_select.proofs.RestRows.{entry_seen, member_seen, path_unseen}
use Rattle.gm_graph_select.proofs.Listing.{reached_entry}
use Rattle.gm_graph.proofs.loaded.Loaded.chain.Goals as goal

pub returns-clause-chain : goal.returns-clause-chain
returns-clause-chain c = rw (← c.self.view_is, ← c.deref.ensures.value) (IfOk-weaker c.chain.result _ _
    (λ steps (s, is, chain). (s, entry_seen right_view c.deref.result.now is, chain)) c.chain.ensures.chain)

pub returns-clause-not_listed : goal.returns-clause-not_listed
returns-clause-not_listed c = rw (← c.self.view_is, ← c.deref.ensures.value) (λ err has.
    let rows = c.deref.result.now in
    let are = rw (← c.deref.ensures.value) at c.self.invariant in
    reached_entry c.self.inside.graph.edges (entries_in rows) (λ entry there. are.reached _ (member_seen right_view rows entry there))
    (c.chain.ensures.not_listed err) (path_unseen right_view rows has))
