use Rattle.std.proofs.lemmas.Str.Pattern.{split_once_first}
use Rattle.gm_file_edit.proofs.Cuts.{cut-is}
use Rattle.gm_file_edit.proofs.part.split_at.Goals as goal

pub returns : goal.returns
returns c =
    cut-is c.args.sign c.args.text.now c.split_once.result
    (split_once_first c.args.sign c.args.text.now c.split_once.result c.split_once.ensures.cases c.requires)
