use Rattle.std.proofs.Common.{◌≤◌, ◌-◌, []}
use Rattle.gm_graph.specs.Private.Asking.{AsksInTurn}
use Rattle.gm_graph_cache.specs.Cached.{file_count, main_in, run_in, sums_in, turns_in}
use Rattle.gm_graph.specs.Private.TurnVisits.{IsReady}
use Rattle.gm_graph.proofs.Stepping.{IsAt}
use Rattle.gm_graph.proofs.loading.visit_all.Given as goal

abbrev pub invariant-turns : goal.invariant-turns
invariant-turns g l = record {
  state : IsAt (main_in l.fn.cache) (sums_in l.fn.cache) l.cache (g.F.Asks.state l.files).asked l.worklist l.at;
  ready : IsReady l.cache (run_in l.cache (g.F.Asks.state l.files).asked) (turns_in l.cache) l.worklist l.followed l.findings;
  asks : AsksInTurn (main_in l.fn.cache) (sums_in l.fn.cache) (g.F.Asks.may_answer l.fn.files) (g.F.Asks.may_answer l.files)
      (g.F.Asks.state l.fn.files) (g.F.Asks.state l.files) [];
  few : file_count l.cache ≤ l.at;
}

abbrev pub decreases-turns : goal.decreases-turns
decreases-turns g l = 131072 - l.at
