use Rattle.std.proofs.Common.{List, ap, arith, map, rules, of_calls, subst, ◌∙◌}
use Rattle.std.specs.List.Sorted.{IsPermutation}
use Rattle.std.proofs.lemmas.List.{take_at}
use Rattle.std.proofs.lemmas.Fn.{always_returns_same}
use Rattle.gm_graph_select.specs.declared.adjacency.Source.{Source}
use Rattle.gm_graph_select.specs.Private.Adjacency.{source_by_ranks}
use Rattle.gm_graph_select.proofs.adjacency.sources_by_ranks.Goals as goal

pub returns : goal.returns
returns c =
    let ranks = c.args.ranks.now in
    let new = c.rank_sources.new.sources in
    record {
      permutation = subst (λ (xs : List Source). IsPermutation xs c.sort_unstable_by_key.new.self.items)
          (take_at new _ c.args.sources.len (omega (arith, c.rank_sources.auto.sources, c.deref_mut.ensures.len))
          ∙ c.rank_sources.ensures ∙ ap (λ (xs : List Source). map (λ (one : Source). source_by_ranks ranks one) xs)
          c.deref_mut.ensures.value)
          c.sort_unstable_by_key.ensures.permutation;
      sorted = c.sort_unstable_by_key.ensures.sorted (λ (one : Source). one.from) (always_returns_same _ _ _ (λ a r f k. search (rules, of_calls)));
    }
