use Rattle.gm_file.proofs.Pairwise as pairwise
use Rattle.gm_file.proofs.laws.clash_is_mutual.Goals as goal

pub returns : goal.returns
returns c = pairwise.clash_is_mutual
