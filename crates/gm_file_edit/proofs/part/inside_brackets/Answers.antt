use Rattle.gm_file_edit.proofs.Cuts.{open-boundary}
use Rattle.gm_file_edit.proofs.part.inside_brackets.Goals as goal

pub split_at-requires : goal.split_at-requires
split_at-requires c = open-boundary c.args.text.now c.utf8.text c.requires
