use Rattle.std.proofs.Common.{◌≡◌, ◌∙◌, Ok, ap, false, map, refl, rules, subst, sym}
use borrow.Author.Tests.{tests}
use Rattle.std.proofs.lemmas.Iterator.Consumers.{YieldsList-end}
use Rattle.std.proofs.lemmas.Iterator.Splits.{YieldsList-from_slice_split}
use Rattle.std.specs.List.{list_any}
use Rattle.gm_name.specs.Lines.{fields, is_line_end, lines}
use Rattle.gm_store_sums.specs.Order.{triple}
use Rattle.gm_store_sums.proofs.Summing.{HoldsGiven, holds_all, is_invalid, line_added, valid_all, valid_more}
use Rattle.gm_store_sums.proofs.sum_lines.sums_of.Goals as goal

pub loop-line-preserved : goal.loop-line-preserved
loop-line-preserved c = (
  line_added c.loop-line.yielded c.in-Some.line (map triple c.loop-line.sums.items) _ c.loop-line.invariant.0
      (c.in_ok-push_sum.ensures.added (ap Ok c.if-not-branch.false)),
  valid_more c.loop-line.yielded c.in-Some.line c.loop-line.invariant.1 (sym c.if-not-branch.false ∙ c.in_ok-push_sum.ensures.valid),
)

-- at the end the lines so far are those of the text
ended : (c : goal.In-None) → map (λ line. line.now) c.loop-line.yielded ≡ lines c.args.text.now
ended c =
    let start = c.into_iter-line-iterator.ensures.into_iter_gives in
    let end = YieldsList-end (YieldsList-from_slice_split {s = c.into_iter-line-iterator.result} _ is_line_end
    {f = c.split-line-items.result.pred} c.args.text.now (rw start c.split-line-items.ensures.rest)
    (rw start c.split-line-items.ensures.done) (rw start refl) (λ x r q k. search (rules, tests)))
    c.loop-line.yielded _ c.loop-line.yielded_by _ _ c.in-None.is c.next.ensures.steps in
    end.0

pub returns-clause-sums : goal.returns-clause-sums
returns-clause-sums c =
    holds_all c.args.text.now (map triple c.loop-line.sums.items)
    (subst (λ lines. HoldsGiven (map fields lines) (map triple c.loop-line.sums.items)) (ended c)
    c.loop-line.invariant.0)

pub returns-clause-valid : goal.returns-clause-valid
returns-clause-valid c = valid_all c.args.text.now (subst (λ lines. list_any is_invalid lines ≡ false) (ended c) c.loop-line.invariant.1)
