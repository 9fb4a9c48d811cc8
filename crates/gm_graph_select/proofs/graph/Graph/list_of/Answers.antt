use Rattle.std.proofs.Common.{◌≡◌, ◌<◌, ◌∙◌, List, ap, get_or, length, rules, of_calls, subst, sym}
use Rattle.std.specs.List.Sorted.{IsNonDecreasingBy, IsPartitionPoint}
use Rattle.std.specs.Ordering.{nat_cmp, ordering_index}
use Rattle.std.specs.declared.cmp.Ordering.TheVariants.{Less, Equal, Greater}
use Rattle.std.proofs.lemmas.Fn.{always_returns_same}
use Rattle.gm_graph_select.specs.declared.adjacency.Source.{Source}
use Rattle.gm_graph_select.specs.Adjacency.{GraphView}
use Rattle.gm_graph_select.specs.Private.Numbering.{number_left, steps_of}
use Rattle.gm_graph_select.proofs.NumberedSteps.{source_found, source_not_found}
use Rattle.gm_graph_select.proofs.graph.Graph.list_of.Goals as goal

pub returns-in-Ok-clause-some : goal.returns-in-Ok-clause-some
returns-in-Ok-clause-some c =
    let sources = c.self.inside.sources.items in
    let number = c.args.number in
    let place = c.in-Ok.place in
    let one = c.index.result.now in
    let inside : place < length sources = rw⁻¹ c.deref.ensures.value c.in-Ok.ensures.bound in
    let equal : nat_cmp (number_left one) number ≡ Equal =
    ap (λ (o : Source). nat_cmp (number_left o) number) (c.index.ensures ∙ ap (λ (xs : List Source). get_or xs place one) (sym c.deref.ensures.value))
    ∙ c.in-Ok.ensures.position (λ (o : Source). number_left o) (always_returns_same _ _ _ (λ a r f k. search (rules, of_calls))) one in
    rw⁻¹ c.self.view_is
    (source_found c.self.inside.lists sources c.self.invariant number place one inside c.index.ensures equal)

pub returns-in-Err-clause-none : goal.returns-in-Err-clause-none
returns-in-Err-clause-none c =
    let number = c.args.number in
    let i = c.in-Err.field-0 in
    let below = subst (λ (g : GraphView). number < length (steps_of g)) (sym c.self.view_is) c.requires in
    let says = c.in-Err.ensures.position (λ (o : Source). number_left o) (always_returns_same _ _ _ (λ a r f k. search (rules, of_calls))) in
    let says_all = subst (λ (xs : List Source). IsNonDecreasingBy
    (λ (y : Source). ordering_index (nat_cmp (number_left y) number)) xs
    → IsPartitionPoint (λ (y : Source). nat_cmp (number_left y) number ≡ Less)
    (λ (y : Source). nat_cmp (number_left y) number ≡ Greater) xs i) c.deref.ensures.value says in
    rw⁻¹ c.self.view_is
    (source_not_found c.self.inside.lists c.self.inside.sources.items c.self.invariant
    number i says_all below)
