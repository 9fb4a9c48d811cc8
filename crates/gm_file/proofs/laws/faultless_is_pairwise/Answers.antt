use Rattle.gm_file.proofs.Pairwise as pairwise
use Rattle.gm_file.proofs.laws.faultless_is_pairwise.Goals as goal

pub returns : goal.returns
returns c = pairwise.faultless_is_pairwise
