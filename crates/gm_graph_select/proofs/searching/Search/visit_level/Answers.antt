use Rattle.std.proofs.Common.{◌≡◌, ◌∙◌, take, arith}
use Rattle.std.proofs.lemmas.Grind.{common_steps}
use Rattle.std.proofs.lemmas.List.{get_or_default}
use Rattle.std.proofs.lemmas.List.Elements.{Contains-get_or}
use Rattle.gm_graph_select.specs.Graph.{among}
use Rattle.gm_graph_select.specs.Private.Numbering.{steps_of}
use Rattle.gm_graph_select.specs.Private.Searching.{visit_at}
use Rattle.gm_graph_select.proofs.BreadthFirst.{goal_found, level_begins, traced_more, visit_made}
use Rattle.gm_graph_select.proofs.searching.Search.visit_level.Goals as goal

pub loop-visit-init : goal.loop-visit-init
loop-visit-init c =
    let (level, h) = c.requires.searched in
    record { traced = λ v there. (h.each v there).1; followed = λ level h. level_begins c.requires.graph h }

pub visit-requires-clause-size : goal.visit-requires-clause-size
visit-requires-clause-size c = let (level, h) = c.requires.searched in (c.loop-visit.invariant.followed level h).found.count ∙ h.size

pub visit-requires-clause-inside : goal.visit-requires-clause-inside
visit-requires-clause-inside c =
    (c.loop-visit.invariant.traced (visit_at c.args.due.now c.loop-visit.visit-index)
    (Contains-get_or c.args.due.now c.loop-visit.visit-index (record { number = 0; before = 0 })
    (omega arith))).0

pub returns-then-branch-clause-found : goal.returns-then-branch-clause-found
returns-then-branch-clause-found c = λ e.
    let (level, h) = c.requires.searched in
    let due = c.args.due.now in
    let i = c.loop-visit.visit-index in
    let v = visit_at due i in
    goal_found c.requires.graph h i v (omega arith) (get_or_default due i (record { number = 0; before = 0 }) v (omega arith))
    c.loop-visit.self c.visit.new.self (c.loop-visit.invariant.followed level h) c.in_ok-visit.ensures.visits
    (c.loop-visit.invariant.traced v (Contains-get_or due i (record { number = 0; before = 0 }) (omega arith)))
    (c.in_ok-visit.ensures.found c.if-branch.true)

pub loop-visit-preserved : goal.loop-visit-preserved
loop-visit-preserved c =
    let due = c.args.due.now in
    let i = c.loop-visit.visit-index in
    let v = visit_at due i in
    let so = c.loop-visit.invariant in
    let (new, ends) = c.in_ok-visit.ensures.missed c.if-branch.false in
    record {
      traced = λ w h. rw c.in_ok-visit.ensures.visits
          (traced_more (among c.args.graph.now.edges) (steps_of c.args.graph.now) c.loop-visit.self.visits.items v w (so.traced w h));
      followed = λ level h. visit_made c.requires.graph h i v (omega arith)
          (get_or_default due i (record { number = 0; before = 0 }) v (omega arith)) c.loop-visit.self c.visit.new.self
          (so.followed level h) c.in_ok-visit.ensures.visits
          (so.traced v (Contains-get_or due i (record { number = 0; before = 0 }) (omega arith))) new ends;
    }

pub returns-clause-missed : goal.returns-clause-missed
returns-clause-missed c = λ e level h.
    let graph = c.args.graph.now in
    let whole : take c.loop-visit.visit-index c.args.due.now ≡ c.args.due.now = grind (arith, common_steps) in
    rw⁻¹ whole (c.loop-visit.invariant.followed level h)
