use Rattle.std.proofs.Common.{◌∙◌, ap, sym}
use Rattle.gm_graph_select.specs.BuildList.{entries_in}
use Rattle.gm_graph_select.proofs.RestRows.{behind_from, behind_more, at_found, not_found}
use Rattle.gm_graph_select.proofs.row.row_at.Goals as goal
use Rattle.gm_name.proofs.Texts.{bytes_eq-differ, bytes_eq-same}

pub rows-init : goal.rows-init
rows-init g c = record { can = tt; finite = tt; behind = behind_from (sym (ap entries_in c.all-rest.ensures)) }

pub returns-then-eq-clause-some : goal.returns-then-eq-clause-some
returns-then-eq-clause-some g c = at_found (ap entries_in c.in-Some.ensures.steps)
    (sym c.path_of.ensures ∙ bytes_eq-same _ _ (sym c.eq.ensures ∙ c.if-eq.true)) c.rows.invariant.behind

pub rows-preserved : goal.rows-preserved
rows-preserved g c = record {
  can = tt;
  finite = tt;
  behind = behind_more (ap entries_in c.in-Some.ensures.steps)
      (λ is. bytes_eq-differ c.path_of.result.now c.args.path.now (sym c.eq.ensures ∙ c.if-eq.false) (c.path_of.ensures ∙ is))
      c.rows.invariant.behind;
}

pub returns-clause-none : goal.returns-clause-none
returns-clause-none g c = not_found (ap entries_in c.in_default.ensures.steps.0) c.rows.invariant.behind
