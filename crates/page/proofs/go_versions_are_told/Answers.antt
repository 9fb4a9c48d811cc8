use Rattle.page.proofs.Table.{go_versions_are_told}
use Rattle.page.proofs.go_versions_are_told.Goals as goal

pub returns : goal.returns
returns c = go_versions_are_told
