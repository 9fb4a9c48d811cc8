use Rattle.std.proofs.Common.{rules}
use borrow.Author.Tests.{tests}
use Rattle.std.proofs.lemmas.List.Sorted.{IsPartitionPoint-from_clause}
use Rattle.std.specs.Ordering.{is_lt}
use Rattle.gm_store_sums.specs.Order.{triple}
use Rattle.gm_store_sums.specs.Private.Lines.{key_cmp}
use Rattle.gm_store_sums.proofs.Finding.{parted_before}
use Rattle.gm_store_sums.proofs.sum_table.lines_before.Goals as goal

pub returns-clause-point : goal.returns-clause-point
returns-clause-point c =
    IsPartitionPoint-from_clause (λ line. is_lt (key_cmp (triple line) (c.args.path.now, c.args.version.now)))
    c.args.lines.now _ c.partition_point.ensures.partitioned
    (parted_before c.args.lines.now c.args.path.now c.args.version.now c.requires)
    (λ a r q k. search (rules, tests))
