use Rattle.std.proofs.Common.{◌≡◌, ℕ, List, Result, Ok, Err, arith, map, subst, sym}
use Rattle.std.specs.Prelude.{All, Contains, IfOk, ◌↔◌}
use Rattle.gm_name.specs.ModuleVersion.{ModuleVersion, pair_cmp}
use Rattle.gm_graph_select.specs.declared.ranking.Numbered.{Numbered}
use Rattle.gm_graph_select.specs.declared.ranking.Ranking.{Ranking}
use Rattle.gm_graph_select.specs.Order.{IsAscending}
use Rattle.gm_graph_select.specs.Private.Ranking.{IsMarkedModule, IsRanked}
use Rattle.gm_graph_select.proofs.RankedLists.{AreRanks}
use Rattle.gm_graph_select.proofs.Ranks.{few_ordered, marked_modules, numbers_within, one_vertex_each, ranks_are, vertices_ascend}
use Rattle.gm_graph_select.proofs.ranking.ranked.Goals as goal

pub ranking_of-requires-clause-few : goal.ranking_of-requires-clause-few
ranking_of-requires-clause-few c =
    let few = few_ordered c.in_ok-all.ensures c.sort_unstable.new.self.items c.sort_unstable.ensures.permutation in
    omega (arith, few, c.requires.few)

pub ranking_of-requires-clause-within : goal.ranking_of-requires-clause-within
ranking_of-requires-clause-within c =
    rw c.requires.marks
    (numbers_within c.in_ok-all.ensures c.sort_unstable.new.self.items c.sort_unstable.ensures.permutation)

pub ranking_of-requires-clause-once : goal.ranking_of-requires-clause-once
ranking_of-requires-clause-once c = one_vertex_each c.in_ok-all.ensures c.sort_unstable.new.self.items c.sort_unstable.ensures.permutation

-- what holds of these vertices holds of those of the ranking
of_vertices : {E : Type 0} (made : Result Ranking E) (xs : List ModuleVersion) (Q : List ModuleVersion → Type 0)
    → IfOk made (λ ranking. ranking.vertices.items ≡ xs) → Q xs → IfOk made (λ ranking. Q ranking.vertices.items)
of_vertices (Ok ranking) xs Q is q = subst Q (sym is) q
of_vertices (Err e) xs Q is q = tt

-- what holds of these vertices and any such ranks holds of the ranking
of_ranking : {E : Type 0} (made : Result Ranking E) (xs : List ModuleVersion) (all : List Numbered) (Q : List ModuleVersion → List ℕ → Type 0)
    → IfOk made (λ ranking. ranking.vertices.items ≡ xs)
    → IfOk made (λ ranking. All (IsRanked ranking.vertices.items ranking.ranks.items) all)
    → ((ranks : List ℕ) → All (IsRanked xs ranks) all → Q xs ranks) → IfOk made (λ ranking. Q ranking.vertices.items ranking.ranks.items)
of_ranking (Ok ranking) xs all Q is each f =
    let ranks = ranking.ranks.items in
    rw is (f ranks (rw⁻¹ is each))
of_ranking (Err e) xs all Q is each f = tt

abbrev vertices_in : List Numbered → List ModuleVersion
vertices_in all = map (λ (one : Numbered). one.vertex) all

pub returns-clause-vertices : goal.returns-clause-vertices
returns-clause-vertices c =
    let all = c.sort_unstable.new.self.items in
    of_vertices c.ranking_of.result (vertices_in all) (λ xs. (x : ModuleVersion)
    → Contains xs x ↔ IsMarkedModule c.args.modules.items c.args.is_vertex.now x) c.ranking_of.ensures.vertices
    (marked_modules c.in_ok-all.ensures all c.sort_unstable.ensures.permutation)

pub returns-clause-ascending : goal.returns-clause-ascending
returns-clause-ascending c =
    let all = c.sort_unstable.new.self.items in
    of_vertices c.ranking_of.result (vertices_in all) (IsAscending pair_cmp) c.ranking_of.ensures.vertices
    (vertices_ascend c.in_ok-all.ensures all c.sort_unstable.ensures.permutation c.sort_unstable.ensures.sorted c.requires.distinct)

pub returns-clause-count : goal.returns-clause-count
returns-clause-count c = rw⁻¹ c.requires.marks c.ranking_of.ensures.count

pub returns-clause-ranks : goal.returns-clause-ranks
returns-clause-ranks c =
    let all = c.sort_unstable.new.self.items in
    of_ranking c.ranking_of.result (vertices_in all) all
    (AreRanks c.args.modules.items c.args.is_vertex.now) c.ranking_of.ensures.vertices c.ranking_of.ensures.ranks
    (λ ranks each. ranks_are c.in_ok-all.ensures all c.sort_unstable.ensures.permutation ranks each c.requires.marks)
