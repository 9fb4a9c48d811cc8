use Rattle.std.proofs.Common.{◌≡◌, ◌≢◌, ◌+◌, ◌∙◌, [], false, List, ℕ, ap, get_or, length, refl, take, subst, sym, arith}
use Rattle.std.specs.Prelude.{All}
use Rattle.std.proofs.lemmas.Grind.{common_steps}
use Rattle.std.proofs.lemmas.List.{length-map}
use Rattle.std.proofs.lemmas.List.Elements.{Contains-get_or}
use Rattle.gm_name.specs.ModuleVersion.{module_at}
use Rattle.gm_graph_select.specs.declared.searching.Search.{Search}
use Rattle.gm_graph_select.specs.declared.step.Step.TheVariants.{Of}
use Rattle.gm_graph_select.specs.Private.Marking.{HasMark}
use Rattle.gm_graph_select.specs.Private.Searching.{IsEdgeTo}
use Rattle.gm_graph_select.proofs.BreadthFirst.{both_new, ends_found, ends_later, list_passed, none_new, rank_followed}
use Rattle.gm_graph_select.proofs.NumberedSteps.{step_of_rank}
use Rattle.gm_graph_select.proofs.RankedLists.{in_mapped}
use Rattle.gm_graph_select.proofs.searching.Search.visit.Goals as goal

pub returns-in_default-clause-missed : goal.returns-in_default-clause-missed
returns-in_default-clause-missed c = λ e.
    let old = c.args.self.now in (
      none_new (length old.visits.items) _ old _ refl refl,
      (λ passed. (
        passed,
        ends_found c.requires.graph c.args.goal c.requires.goal old.is_found.items []
            (λ k d below. absurd (omega (arith, below))) c.args.visit.number c.in_default.ensures.none,
      )),
    )

pub returns-then-has_passed-clause-missed : goal.returns-then-has_passed-clause-missed
returns-then-has_passed-clause-missed c = λ e.
    let old = c.args.self.now in (
      none_new (length old.visits.items) _ old _ refl refl,
      (λ passed. (
        passed,
        passed c.args.visit.number c.in-Some.list c.requires.inside c.in-Some.ensures.some (sym c.has_passed.ensures ∙ c.if-has_passed.true),
      )),
    )

pub loop-rank-init : goal.loop-rank-init
loop-rank-init c = record {
  visits = c.in_ok-push.ensures.items;
  passed = refl;
  new = none_new (length c.args.self.now.visits.items) _ c.args.self.now _ refl refl;
  each = λ k d below. absurd (omega (arith, below));
}

pub returns-then-rank-goal-clause-found : goal.returns-then-rank-goal-clause-found
returns-then-rank-goal-clause-found c = λ e.
    let graph = c.args.graph.now in
    let number = c.args.visit.number in
    let k = c.loop-rank.rank-index in
    let ranks = c.ranks_in-ranks.result.now in
    let leaving = c.ranks_in-ranks.ensures number c.requires.inside c.in-Some.ensures.some in
    rw⁻¹ c.if-rank-goal.true
    ((leaving.each (module_at graph.vertices (get_or ranks k 0))).0
    (in_mapped (module_at graph.vertices) ranks (get_or ranks k 0) (Contains-get_or ranks k 0 (omega arith))))

pub follow-requires : goal.follow-requires
follow-requires c =
    let vertices = c.args.graph.now.vertices in
    let leaving = c.ranks_in-ranks.ensures c.args.visit.number c.requires.inside c.in-Some.ensures.some in
    let inside = leaving.within c.loop-rank.rank-index 0 (omega arith) in
    let size = c.loop-rank.invariant.new.found.count ∙ c.requires.size in
    omega (arith, inside, size, length-map vertices Of)

pub loop-rank-preserved : goal.loop-rank-preserved
loop-rank-preserved c =
    let graph = c.args.graph.now in
    let number = c.args.visit.number in
    let old = c.args.self.now in
    let mid = c.loop-rank.self in
    let new = c.follow.new.self in
    let k = c.loop-rank.rank-index in
    let ranks = c.ranks_in-ranks.result.now in
    let rank = get_or ranks k 0 in
    let leaving = c.ranks_in-ranks.ensures number c.requires.inside c.in-Some.ensures.some in
    let inside = leaving.within k 0 (omega arith) in
    let edge : IsEdgeTo graph number (rank + 1) = (
      omega (arith, inside, length-map graph.vertices Of),
      module_at graph.vertices rank,
      step_of_rank graph.vertices rank inside,
      (leaving.each (module_at graph.vertices rank)).0 (in_mapped (module_at graph.vertices) ranks rank (Contains-get_or ranks k 0 (omega arith))),
    ) in
    let place : c.len-before.result ≡ length old.visits.items = omega (arith, c.len-before.ensures, old.visits.ok.0) in
    let followed = c.in_ok-follow.ensures.followed in
    record {
      visits = ap (λ (s : Search). s.visits.items) c.follow.ensures.others ∙ c.loop-rank.invariant.visits;
      passed = ap (λ (s : Search). s.is_passed) c.follow.ensures.others ∙ c.loop-rank.invariant.passed;
      new = both_new (length old.visits.items) (IsEdgeTo graph number) old mid new (λ (n : ℕ). n ≡ rank + 1)
          (λ n same. rw same edge) c.loop-rank.invariant.new
          (rw⁻¹ place followed);
      each = rank_followed c.args.goal mid.is_found.items new.is_found.items ranks k c.follow.ensures.found
          (omega arith) c.if-rank-goal.false c.loop-rank.invariant.each;
    }

pub returns-clause-size : goal.returns-clause-size
returns-clause-size c =
    ap (λ (s : Search). length s.is_found.items) c.pass.ensures.others ∙ c.loop-rank.invariant.new.found.count ∙ c.requires.size

pub returns-clause-visits : goal.returns-clause-visits
returns-clause-visits c = ap (λ (s : Search). s.visits.items) c.pass.ensures.others ∙ c.loop-rank.invariant.visits

pub returns-clause-missed : goal.returns-clause-missed
returns-clause-missed c = λ e.
    let graph = c.args.graph.now in
    let goal = module_at graph.vertices c.args.goal in
    let number = c.args.visit.number in
    let list = c.in-Some.list in
    let old = c.args.self.now in
    let mid = c.loop-rank.self in
    let new = c.pass.new.self in
    let ranks = c.ranks_in-ranks.result.now in
    let so = c.loop-rank.invariant in
    let whole : take c.loop-rank.rank-index ranks ≡ ranks = grind (arith, common_steps) in
    let same : new.is_found.items ≡ mid.is_found.items = ap (λ (s : Search). s.is_found.items) c.pass.ensures.others in
    let each = subst (λ (rs : List ℕ). All (λ (rank : ℕ). (rank ≢ c.args.goal) × HasMark mid.is_found.items (rank + 1)) rs) whole so.each in (
      both_new (length old.visits.items) (IsEdgeTo graph number) old mid new (IsEdgeTo graph number) (λ n is. is) so.new
          (none_new (length old.visits.items) (IsEdgeTo graph number) mid new same (ap (λ (s : Search). s.next.items) c.pass.ensures.others)),
      (λ passed. (
        rw same
            (rw c.pass.ensures.passed
            (list_passed c.requires.graph c.args.goal c.requires.goal mid.is_found.items ranks each mid.is_passed.items list c.ranks_in-ranks.ensures
            (λ other place low has mark. ends_later graph goal other so.new.found
            (passed other place low has (sym (ap (λ v. get_or v.items place false) so.passed) ∙ mark))))),
        rw same
            (ends_found c.requires.graph c.args.goal c.requires.goal mid.is_found.items ranks each number
            (c.ranks_in-ranks.ensures number c.requires.inside c.in-Some.ensures.some)),
      )),
    )
