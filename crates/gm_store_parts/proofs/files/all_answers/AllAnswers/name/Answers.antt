use Rattle.std.proofs.Common.{arith}
use Rattle.std.proofs.lemmas.Grind.{common_steps}
use Rattle.std.proofs.lemmas.Option.{slice_get-map, slice_get-get_or}
use Rattle.gm_store_parts.proofs.files.all_answers.AllAnswers.name.Goals as goal

pub returns : goal.returns
returns c = grind (arith, common_steps, slice_get-map, slice_get-get_or)
