use Rattle.page.proofs.Listed.{own_path_is_left_out}
use Rattle.page.proofs.own_path_is_left_out.Goals as goal

pub returns : goal.returns
returns c = own_path_is_left_out
