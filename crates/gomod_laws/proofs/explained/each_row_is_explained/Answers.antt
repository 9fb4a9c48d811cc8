use Rattle.gomod_laws.proofs.ExplainedRows.{each_row_is_explained}
use Rattle.gomod_laws.proofs.explained.each_row_is_explained.Goals as goal

pub returns : goal.returns
returns c = each_row_is_explained
