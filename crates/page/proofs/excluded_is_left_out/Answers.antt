use Rattle.page.proofs.Listed.{excluded_is_left_out}
use Rattle.page.proofs.excluded_is_left_out.Goals as goal

pub returns : goal.returns
returns c = excluded_is_left_out
