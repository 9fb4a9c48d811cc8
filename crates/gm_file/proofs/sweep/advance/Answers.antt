use Rattle.std.proofs.Common.{◌≡◌, ◌∙◌, ◌<◌, ap, arith, length, slice_index_or, sym, map}
use Rattle.std.proofs.lemmas.List.{get_or-map, length-map}
use Rattle.gm_file.specs.Private.Swept.{ends_view}
use Rattle.gm_file.proofs.Sweeping.{swept_more}
use Rattle.gm_file.proofs.sweep.advance.Goals as goal

pub ends-preserved : goal.ends-preserved
ends-preserved c =
    let xs = c.args.ends.now in
    let x = c.index-ends-next.result in
    let within : c.ends.next < length (map ends_view xs) = omega (arith, length-map xs ends_view) in
    let item : ends_view x ≡ slice_index_or (map ends_view xs) c.ends.next (ends_view x) =
    ap ends_view c.index-ends-next.is ∙ sym (get_or-map ends_view xs c.ends.next x (ends_view x) c.ends-test.true) in
    swept_more (map ends_view xs) c.args.version.now c.ends.next _ (ends_view x) c.higher_end.result.now c.ends.invariant within item
    (rw c.borrowed.ensures at (sym c.is_at_most.ensures ∙ c.if-not-is_at_most.false)) c.higher_end.ensures
