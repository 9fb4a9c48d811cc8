use Rattle.std.proofs.Common.{◌≡◌, ◌∙◌, arith, false, inl, inr, length, of_calls, replicate, rules}
use Rattle.std.proofs.lemmas.List.{take_at}
use Rattle.gm_graph_select.specs.Adjacency.{by_step}
use Rattle.gm_graph_select.specs.Private.Marking.{AreMarked, numbers_named}
use Rattle.gm_graph_select.proofs.Marks.{none_marked}
use Rattle.gm_graph_select.proofs.marking.marks_of.Goals as goal

pub returns-clause-marks : goal.returns-clause-marks
returns-clause-marks c = λ number.
    let last = c.mark_sources.new.marks in
    let named = numbers_named (by_step c.args.lists.now c.args.sources.now) in
    let size : length last ≡ c.in_ok-marks.marks.len = omega (arith, c.mark_sources.ensures.count, c.deref_mut.ensures.len) in
    let none : c.in_ok-marks.marks.items ≡ replicate c.args.count false = search (rules, of_calls) in
    let are : AreMarked (replicate c.args.count false) named last =
    rw⁻¹ (c.deref_mut.ensures.value ∙ none) c.mark_sources.ensures in
    let whole = take_at last _ c.in_ok-marks.marks.len size in (
      (λ h. elim ((are.each number).0 (rw⁻¹ whole h)) [
        | inl marked ↦ absurd (none_marked c.args.count number marked)
        | inr found ↦ found
      ]),
      (λ found. rw whole ((are.each number).1 (inr found))),
    )
