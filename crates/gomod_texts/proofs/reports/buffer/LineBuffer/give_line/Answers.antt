use Rattle.std.proofs.Common.{[], append-nil, refl, sym}
use Rattle.gomod_texts.proofs.Waiting.{gives_end, gives_more, gives_no_end, gives_waiting}
use Rattle.gomod_texts.proofs.reports.buffer.LineBuffer.give_line.Goals as goal
use Rattle.gomod_texts.proofs.reports.buffer.LineBuffer.give_line.Goals.{then-remaining_capacity-size+in_ok-end, else-remaining_capacity-size}

pub returns-in_err-end : goal.returns-in_err-end
returns-in_err-end g c =
    gives_no_end _ _ c.args.self.now c.args.self.now c.end.new.self _ c.in_err-end.field-0.0
    c.from_residual.result refl c.from_residual.ensures.0 c.in_err-end.ensures.ended

-- nothing was given yet, though what waited may have been written
pub returns-then-remaining_capacity-size-2 : goal.returns-then-remaining_capacity-size-2
returns-then-remaining_capacity-size-2 g c =
    gives_more _ _ _ c.args.self.now c.if-remaining_capacity-size.self c.give_long.new.self [] _ _ c.give_long.result refl
    (elim c.if-remaining_capacity-size.branch [
      | then-remaining_capacity-size+in_ok-end w ↦ rw (w.self-is, w.sink-is, w.in_ok-end.ensures.empty) (gives_end _ _ _ tt w.in_ok-end.ensures.ended)
      | else-remaining_capacity-size w ↦ rw (w.self-is, w.sink-is) (gives_waiting _ _ _ [] (sym (append-nil _)))
    ]) c.give_long.ensures
