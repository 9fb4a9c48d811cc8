use Rattle.gm_syntax.proofs.Changes.{block_goes_out_at}
use Rattle.gm_syntax.proofs.laws.blocks_may_be_removed.Goals as goal

pub returns : goal.returns
returns c = λ lines inner behind from to verb suffix last le d is e f. block_goes_out_at lines inner behind from to verb suffix last le d is e f
