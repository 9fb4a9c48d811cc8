use Rattle.std.proofs.Common.{◌∙◌, rules, sym}
use borrow.Author.Tests.{tests}
use Rattle.std.proofs.lemmas.List.Sorted.{IsPartitionPoint-from_clause}
use Rattle.std.specs.Ordering.{is_le}
use Rattle.gm_store_sums.specs.Order.{triple}
use Rattle.gm_store_sums.specs.Private.Lines.{key_cmp}
use Rattle.gm_store_sums.proofs.Finding.{ends_after, ends_at, parted_up_to}
use Rattle.gm_store_sums.proofs.sum_table.lines_up_to.Goals as goal

pub returns-clause-point : goal.returns-clause-point
returns-clause-point c =
    IsPartitionPoint-from_clause (λ line. is_le (key_cmp (triple line) (c.args.path.now, c.args.version.now)))
    c.args.lines.now _ c.partition_point.ensures.partitioned
    (parted_up_to c.args.lines.now c.args.path.now c.args.version.now c.requires.order)
    (λ a r q k. search (rules, tests))

pub returns-then-not-is_for-clause-point : goal.returns-then-not-is_for-clause-point
returns-then-not-is_for-clause-point c =
    ends_at c.args.lines.now c.args.path.now c.args.version.now c.args.start c.requires.order c.requires.point
    (λ line within. sym c.if-not-is_for.true ∙ c.is_for.ensures.same line within)

pub returns-then-not-is_for-2-clause-point : goal.returns-then-not-is_for-2-clause-point
returns-then-not-is_for-2-clause-point c =
    ends_after c.args.lines.now c.args.path.now c.args.version.now c.args.start c.requires.order c.requires.point
    (c.is_for.ensures.within c.if-not-is_for.false)
    (λ line. sym c.if-not-is_for.false ∙ c.is_for.ensures.same line (c.is_for.ensures.within c.if-not-is_for.false))
    (λ line within. sym c.if-not-is_for-2.true ∙ c.is_for-2.ensures.same line within)
