use Rattle.std.proofs.Common.{◌<◌, ◌∙◌, arith, get_or, length, sym}
use Rattle.std.proofs.lemmas.List.{get_or-map, get_or_default, length-map}
use Rattle.gm_graph_select.specs.declared.number_lists.Span.{Span}
use Rattle.gm_graph_select.specs.Spans.{part_at}
use Rattle.gm_graph_select.proofs.Parts.{all_apart, all_ranked, one_ranked, part_is, within_now}
use Rattle.gm_graph_select.proofs.number_lists.rank_parts.Goals as goal

pub rank_part-requires-clause-within : goal.rank_part-requires-clause-within
rank_part-requires-clause-within c =
    let at = c.loop-span in
    let none : Span = record { start = 0; end = 0 } in
    let one = get_or at.spans at.span-index none in
    within_now at.invariant one
    (omega (arith, at.invariant.count)) (get_or_default at.spans at.span-index none one (omega arith))

pub rank_part-requires-clause-numbered : goal.rank_part-requires-clause-numbered
rank_part-requires-clause-numbered c =
    let old = c.args.numbers.now in
    let spans = c.args.spans.now in
    let at = c.loop-span in
    let none : Span = record { start = 0; end = 0 } in
    let one = get_or at.spans at.span-index none in
    let inside : at.span-index < length spans = omega (arith, at.invariant.count) in
    let here = get_or-map (part_at old) spans at.span-index one (part_at old one) inside in
    rw⁻¹ (here ∙ sym (part_is at.invariant one inside
    (get_or_default at.spans at.span-index none one (omega arith))))
    (c.requires.numbered at.span-index (part_at old one) (omega (arith, inside, length-map spans (part_at old))))

pub loop-span-preserved : goal.loop-span-preserved
loop-span-preserved c =
    let at = c.loop-span in
    let none : Span = record { start = 0; end = 0 } in
    let one = get_or at.spans at.span-index none in
    one_ranked at.invariant one
    (omega (arith, at.invariant.count)) (get_or_default at.spans at.span-index none one (omega arith))
    c.rank_part.new.numbers c.rank_part.result c.rank_part.ensures

pub returns-clause-apart : goal.returns-clause-apart
returns-clause-apart c =
    let at = c.loop-span in
    all_apart at.invariant (omega (arith, at.invariant.count))

pub returns-clause-ranks : goal.returns-clause-ranks
returns-clause-ranks c =
    let at = c.loop-span in
    all_ranked at.invariant (omega (arith, at.invariant.count))
