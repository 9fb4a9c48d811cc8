use Rattle.std.proofs.Common.{map}
use Rattle.std.proofs.lemmas.List.Sorted.{IsPermutation-map}
use Rattle.gm_store_sums.specs.Order.{triple}
use Rattle.gm_store_sums.proofs.Summing.{holds_moved, says}
use Rattle.gm_store_sums.proofs.sum_table.SumTable.read.Goals as goal

pub returns-clause-ok : goal.returns-clause-ok
returns-clause-ok c = λ path version hash. says c.args.text.now path version hash _
    (holds_moved c.args.text.now (map triple c.in-Ok-Some.lines.items) _
    (IsPermutation-map triple _ _ c.sort_unstable.ensures.permutation)
    (rw c.in-Ok-Some.field-0-is at c.in-Ok-Some.ensures.sums))
