use Rattle.std.proofs.Common.{◌∙◌, suc, List, ap, subst, sym, arith, vec_len}
use Rattle.std.proofs.lemmas.Bool.{eqb-false}
use Rattle.gm_name.specs.ModuleVersion.{module_at}
use Rattle.gm_graph_select.specs.declared.searching.Search.{Search}
use Rattle.gm_graph_select.specs.declared.searching.Visit.{Visit}
use Rattle.gm_graph_select.specs.Private.Searching.{IsFollowed, count_left}
use Rattle.gm_graph_select.proofs.BreadthFirst.{first_level, level_more, no_due, not_reached}
use Rattle.gm_graph_select.proofs.searching.visits_to.Goals as goal

pub levels-init : goal.levels-init
levels-init c =
    let graph = c.args.graph.now in
    let made = c.in_ok-search.ensures in (
      0,
      first_level graph (module_at graph.vertices c.args.goal) c.in_ok-search.search c.in_ok-due.due.items c.requires.graph
          c.in_ok-due.ensures.items made.found made.visits made.next made.passed,
    )

pub levels-smaller : goal.levels-smaller
levels-smaller c =
    let graph = c.args.graph.now in
    let goal = module_at graph.vertices c.args.goal in
    let (level, h) = c.levels.invariant in
    let f = c.in_ok-visit_level.ensures.missed c.if-branch.false level
    (rw c.deref.ensures.value h) in
    let some = eqb-false (vec_len c.levels.due) 0 (sym c.is_empty.ensures ∙ c.levels-test.true) in
    let long = c.levels.due.ok.0 in
    let kept = ap (λ (s : Search). count_left s.is_found.items) c.take_level-due.ensures.others in
    let count = f.count in
    omega (arith, c.take_level-due.ensures.fewer, some, long, count, kept)

pub levels-preserved : goal.levels-preserved
levels-preserved c =
    let graph = c.args.graph.now in
    let goal = module_at graph.vertices c.args.goal in
    let (level, h) = c.levels.invariant in
    let f = c.in_ok-visit_level.ensures.missed c.if-branch.false level
    (rw c.deref.ensures.value h) in
    let made = subst (λ (due : List Visit). IsFollowed graph goal level c.levels.search.is_found.items due c.visit_level.new.self)
    c.deref.ensures.value f in
    let next = c.take_level-due.ensures in
    (suc level, level_more c.requires.graph h made next.others next.none next.members next.ascending)

pub returns-clause-none : goal.returns-clause-none
returns-clause-none c =
    let (level, h) = c.levels.invariant in
    not_reached c.requires.graph h
    (no_due c.levels.due.items (vec_len c.levels.due) (omega (arith, c.levels.due.ok.0)) (sym c.is_empty.ensures ∙ c.levels-test.false))
