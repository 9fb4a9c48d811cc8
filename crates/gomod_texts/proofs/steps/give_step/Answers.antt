use Rattle.gomod_texts.proofs.WrittenLines.{step_in_pieces}
use Rattle.gomod_texts.proofs.steps.give_step.Goals as goal

pub returns : goal.returns
returns g c =
    rw (step_in_pieces c.step_pieces.result.0.now c.step_pieces.result.1.now c.step_pieces.result.2.now _
    (rw c.vertex_of.ensures at c.step_pieces.ensures)) c.give_line.ensures
