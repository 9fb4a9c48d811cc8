use Rattle.gm_syntax.proofs.Readings.{reading_of, reads_as}
use Rattle.gm_syntax.proofs.laws.texts_are_read_in_order.Goals as goal

pub returns : goal.returns
returns c = λ text lines finish. (reading_of text lines finish, reads_as text lines finish)
