use Rattle.std.proofs.Common.{◌∙◌, ap}
use Rattle.gm_file_edit.specs.Edits.{trim, without_trailing}
use Rattle.gm_file_edit.proofs.Trimming.{leading-cut, trailing-cut}
use Rattle.gm_file_edit.proofs.part.trim.Goals as goal

pub returns : goal.returns
unfolding trim
returns c =
    trailing-cut c.trim_start_matches.result.now c.trim_end_matches.result.now c.trim_end_matches.ensures.matches
    ∙ ap without_trailing (leading-cut c.args.text.now c.trim_start_matches.result.now c.trim_start_matches.ensures.matches)
