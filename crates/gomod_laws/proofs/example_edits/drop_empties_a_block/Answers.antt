use Rattle.std.proofs.Common.{refl}
use Rattle.gm_file.specs.Directives.{directive_of, item_at}
use Rattle.gm_file_edit.specs.Edited.{with_change, lines_after}
use Rattle.gm_file_edit.specs.Fates.{remaining}
use Rattle.gomod_laws.proofs.example_edits.drop_empties_a_block.Goals as goal

pub returns : goal.returns
unfolding lines_after with_change remaining item_at directive_of
returns c = refl
