use Rattle.gm_graph_select.specs.BuildList.{entries_in}
use Rattle.gm_graph_select.proofs.RestRows.{IsRemainder}
use Rattle.gm_graph_select.proofs.row.row_at.Given as goal

abbrev pub invariant-rows : goal.invariant-rows
invariant-rows g l = record {
  can : (goal.iterator-rows g).can_next l.rest;
  finite : (goal.iterator-rows g).is_finite l.rest;
  behind : IsRemainder l.main (entries_in l.rows) l.path (entries_in l.rest);
}
