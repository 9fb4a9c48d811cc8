use Rattle.std.proofs.Common.{◌<◌, ◌∙◌, None, arith, get_or, length, sym}
use Rattle.std.proofs.lemmas.List.{get_or-map, length-map}
use Rattle.gm_graph_select.specs.declared.adjacency.Source.{Source}
use Rattle.gm_graph_select.specs.Adjacency.{StepEdges, by_step, step_edges}
use Rattle.gm_graph_select.specs.Private.Marking.{named_by}
use Rattle.gm_graph_select.proofs.Marks.{both_marked, next_named}
use Rattle.gm_graph_select.proofs.marking.mark_sources.Goals as goal

pub mark_one-requires : goal.mark_one-requires
mark_one-requires c =
    let none : Source = record { from = None; list = 0 } in
    rw c.loop-one.invariant.marks.count (c.requires.sources c.loop-one.one-index none c.loop-one-test.true)

pub loop-one-preserved : goal.loop-one-preserved
loop-one-preserved c =
    let lists = c.args.lists.now in
    let sources = c.args.sources.now in
    let at = c.loop-one in
    let i = at.one-index in
    let none : Source = record { from = None; list = 0 } in
    let one = get_or sources i none in
    let named : StepEdges = step_edges lists one in
    let inside : i < length (by_step lists sources) = omega (arith, c.loop-one-test.true, length-map sources (step_edges lists)) in
    record {
      marks = next_named named_by (by_step lists sources) i named inside
          (sym (get_or-map (step_edges lists) sources i none named c.loop-one-test.true)) at.invariant.marks
          (both_marked c.mark_one.ensures c.mark_list.ensures.marks);
      count = c.mark_list.ensures.count ∙ at.invariant.count;
      passed = c.mark_list.ensures.passed;
    }
