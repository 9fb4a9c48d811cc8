use Rattle.std.proofs.Common.{map, rules, subst, refl}
use borrow.Author.Tests.{tests}
use Rattle.std.proofs.lemmas.List.Filters.{dedup_is}
use Rattle.std.proofs.lemmas.Iterator.Consumers.{YieldsList-end}
use Rattle.std.proofs.lemmas.Iterator.Splits.{YieldsList-from_slice_split}
use Rattle.gm_name.specs.Lines.{first_word, is_line_end}
use Rattle.gm_store.specs.Private.Versions.{HoldsListable}
use Rattle.gm_store.proofs.Listing.{line_more, listed_from}
use Rattle.gm_store.proofs.versions.list.versions_of.Goals as goal

pub loop-line-preserved : goal.loop-line-preserved
loop-line-preserved c =
    line_more c.args.path.now c.loop-line.yielded c.in-Some.line c.push_listable.new.versions.items (c.in_ok-push_listable.ensures _ c.loop-line.invariant)

pub returns : goal.returns
returns c =
    let start = c.into_iter-line-iterator.ensures.into_iter_gives in
    let end = YieldsList-end (YieldsList-from_slice_split {s = c.into_iter-line-iterator.result} _ is_line_end
    {f = c.split-line-items.result.pred} c.args.text.now (rw start c.split-line-items.ensures.rest)
    (rw start c.split-line-items.ensures.done) (rw start refl) (λ x r q k. search (rules, tests)))
    c.loop-line.yielded _ c.loop-line.yielded_by _ _ c.in-None.is c.next.ensures.steps in
    rw (dedup_is _ _ _ c.dedup.ensures.filtered)
    (listed_from c.args.path.now c.args.text.now c.loop-line.versions.items _
    (subst (λ lines. HoldsListable c.args.path.now (map first_word lines) c.loop-line.versions.items) end.0
    c.loop-line.invariant) c.sort_versions.ensures.permutation c.sort_versions.ensures.sorted)
