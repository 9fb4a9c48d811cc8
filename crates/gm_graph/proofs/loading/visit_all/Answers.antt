use Rattle.std.proofs.Common.{◌∙◌, [], Err, ap, arith, refl, subst, sym}
use Rattle.gm_file.specs.Main.{Main, without_excluded}
use Rattle.gm_graph.specs.Private.Turns.{OverflowsWith}
use Rattle.gm_graph.proofs.Dues.{refused_same}
use Rattle.gm_graph.proofs.FoundFiles.{nothing_found}
use Rattle.gm_graph.proofs.InTurn.{asked_in_turn, in_turn_by, many_in_turn, nothing_asked, stepped}
use Rattle.gm_graph.proofs.Loads.{too_many_first}
use Rattle.gm_graph.proofs.DoneTurns.{few_turns}
use Rattle.gm_graph.proofs.Stepping.{first_step, last_step, number_here}
use Rattle.gm_graph.proofs.loading.visit_all.Goals as goal

pub turns-init : goal.turns-init
turns-init g c =
    record {
      state = first_step _ _ _ c.requires.asked c.requires.knows c.requires.lent c.in_ok-worklist.ensures.first;
      ready = record {
        worklist_is = c.in_ok-worklist.ensures.first.worklist_is;
        followed = λ file by. absurd (c.new-followed.ensures file by);
        found = nothing_found _ c.new-findings.ensures.places c.new-findings.ensures.faults _ _ _ c.requires.lent;
      };
      asks = nothing_asked _ _ _ _ c.requires.asked;
      few = omega (arith, c.requires.none);
    }

pub turns-smaller : goal.turns-smaller
turns-smaller g c = let few = few_turns c.turns.invariant.state.worklist_is in omega arith

pub turns-preserved : goal.turns-preserved
turns-preserved g c =
    let one = c.index-one.result.now in
    let visited = c.in_ok-visit.ensures.visited in
    let invariant = c.turns.invariant in
    record {
      state = stepped one invariant.state (omega arith) c.index-one.ensures c.in_ok-visit.ensures.asks visited;
      ready = visited.adds.ready;
      asks = asked_in_turn one invariant.state (omega arith) c.index-one.ensures c.in_ok-visit.ensures.asks invariant.asks;
      few = omega (arith, invariant.few, visited.has.count);
    }

pub returns-clause-opened : goal.returns-clause-opened
returns-clause-opened g c = last_step c.turns.invariant.state c.turns.invariant.ready.found (omega arith)

pub returns-clause-asks : goal.returns-clause-asks
returns-clause-asks g c = c.turns.invariant.asks

pub returns-clause-too_many : goal.returns-clause-too_many
returns-clause-too_many g c = λ e. absurd (cc e)

pub visit-requires : goal.visit-requires
visit-requires g c =
    let state = c.turns.invariant.state in
    record {
      knows = state.knows;
      ready = c.turns.invariant.ready;
      below = number_here c.index-one.result.now state.worklist_is (omega arith) c.index-one.ensures;
      few = omega (arith, c.turns.invariant.few, few_turns state.worklist_is);
    }

pub returns-in_err-visit-clause-asks : goal.returns-in_err-visit-clause-asks
returns-in_err-visit-clause-asks g c =
    rw (refused_same c.from_residual-in_err-visit.result c.in_err-visit.field-0.0 c.from_residual-in_err-visit.ensures.1)
    (asked_in_turn c.index-one.result.now c.turns.invariant.state (omega arith) c.index-one.ensures c.in_err-visit.ensures.asks c.turns.invariant.asks)

pub returns-in_err-visit-clause-too_many : goal.returns-in_err-visit-clause-too_many
returns-in_err-visit-clause-too_many g c = λ e.
    many_in_turn c.index-one.result.now c.turns.invariant.state (omega arith) c.index-one.ensures c.in_err-visit.ensures.asks
    (c.in_err-visit.ensures.too_many (ap Err (sym (rw e at c.from_residual-in_err-visit.ensures.1))))

-- ---- the main file requires too many vertices, or memory ran out

pub returns-in_err-worklist-clause-asks : goal.returns-in_err-worklist-clause-asks
returns-in_err-worklist-clause-asks g c =
    let same = refused_same _ _ c.from_residual.ensures.1 in
    in_turn_by refl refl (sym (same ∙ c.in_err-worklist.ensures.not_refused)) (nothing_asked _ _ _ _ c.requires.asked)

pub returns-in_err-worklist-clause-too_many : goal.returns-in_err-worklist-clause-too_many
returns-in_err-worklist-clause-too_many g c = λ e.
    let over = c.in_err-worklist.ensures.too_many (ap Err (sym (rw e at c.from_residual.ensures.1))) in
    too_many_first _ _ _ c.requires.asked
    (subst (λ (main : Main). OverflowsWith [] (without_excluded main main.requirements)) (sym c.requires.main) over)
