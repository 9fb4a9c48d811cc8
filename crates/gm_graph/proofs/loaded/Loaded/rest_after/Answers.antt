use Rattle.std.proofs.lemmas.Result.{IfOk-weaker, on_err_weaker}
use Rattle.gm_file.specs.Views.{right_view}
use Rattle.gm_graph_select.proofs.RestRows.{path_unseen, rest_seen}
use Rattle.gm_graph.proofs.loaded.Loaded.rest_after.Goals as goal

pub returns-clause-rest : goal.returns-clause-rest
returns-clause-rest c = rw (← c.self.view_is, ← c.deref.ensures.value) (IfOk-weaker c.rest_after.result _ _
    (λ left is. rest_seen right_view c.deref.result.now left is) c.rest_after.ensures.rest)

pub returns-clause-not_listed : goal.returns-clause-not_listed
returns-clause-not_listed c = rw (← c.self.view_is, ← c.deref.ensures.value) (on_err_weaker c.rest_after.result
    (λ none has. none (path_unseen right_view c.deref.result.now has)) c.rest_after.ensures.not_listed)
