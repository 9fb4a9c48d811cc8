use Rattle.std.proofs.Common.{◌∙◌, ap}
use Rattle.std.proofs.lemmas.List.{take_all}
use Rattle.gm_file.specs.Views.{interval_views}
use Rattle.gm_file.proofs.Ascending.{sorted_from}
use Rattle.gm_file.proofs.sweep.sorted_ends.Goals as goal

pub returns : goal.returns
returns c =
    sorted_from (interval_views c.args.intervals.now) c.loop-interval.ends.items c.sort_unstable.new.self.items
    (c.loop-interval.invariant ∙ ap interval_views (take_all c.loop-interval.interval-index c.args.intervals.now c.loop-interval-test.false))
    c.sort_unstable.ensures.permutation c.sort_unstable.ensures.sorted
