use Rattle.page.proofs.Listed.{each_part_counts}
use Rattle.page.proofs.each_part_counts.Goals as goal

pub returns : goal.returns
returns c = each_part_counts
