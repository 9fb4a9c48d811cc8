use Rattle.std.proofs.Common.{◌≡◌, Bool, rules, of_calls, subst}
use Rattle.std.specs.List.{IsAllAdjacentAnswer}
use Rattle.std.specs.Ordering.{is_lt}
use Rattle.std.proofs.lemmas.Fn.{always_returns_same}
use Rattle.gm_graph_select.proofs.Sorts.{from_adjacent, not_ascending}
use Rattle.gm_graph_select.proofs.sorting.is_ascending.Goals as goal

pub returns-clause-yes : goal.returns-clause-yes
returns-clause-yes g c = λ is. from_adjacent g.met.T.Ord.total c.args.items.now
    (subst (λ (r : Bool). IsAllAdjacentAnswer (λ x y b. b ≡ is_lt (g.T.Ord.cmp x y)) c.args.items.now r) is
    (c.is_sorted_by.ensures.cases (λ x y. is_lt (g.T.Ord.cmp x y))
    (always_returns_same _ _ _ (λ a r f k. search (rules, of_calls)))))

pub returns-clause-no : goal.returns-clause-no
returns-clause-no g c = λ isnt up.
    let (k, below, low) = subst (λ (r : Bool). IsAllAdjacentAnswer (λ x y b. b ≡ is_lt (g.T.Ord.cmp x y))
    c.args.items.now r) isnt (c.is_sorted_by.ensures.cases (λ x y. is_lt (g.T.Ord.cmp x y))
    (always_returns_same _ _ _ (λ a r f k. search (rules, of_calls)))) in
    not_ascending g.T.Ord.cmp c.args.items.now k below low up
