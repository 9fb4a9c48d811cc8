use Rattle.std.proofs.Common.{◌<◌, ◌∙◌, List, ap, get_or, length, subst}
use Rattle.gm_graph_select.specs.declared.number_lists.Span.{Span}
use Rattle.gm_graph_select.proofs.Parts.{all_within}
use Rattle.gm_graph_select.proofs.number_lists.NumberLists.at.Goals as goal

pub part-requires : goal.part-requires
part-requires c =
    let size = length c.self.inside.numbers.items in
    let place = c.args.place in
    let span = c.in-Some.span.now in
    let read = c.in-Some.ensures.lookup in
    let is = read.1 ∙ ap (λ (xs : List Span). get_or xs place span) c.deref.ensures.value in
    let inside = subst (λ (xs : List Span). place < length xs) c.deref.ensures.value read.3.0 in
    rw (ap length c.deref-in-Some.ensures.value)
    (rw is (all_within c.self.inside.spans.items 0 size c.self.invariant place span inside))
