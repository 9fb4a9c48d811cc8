use Rattle.std.proofs.Common.{take, Ok}
use Rattle.std.specs.List.{flat_map}
use Rattle.gm_store_parts.specs.declared.sinks.WriteFault.{WriteFault}
use Rattle.gomod_texts.proofs.reports.buffer.LineBuffer.give_long.Given as goal
use Rattle.gomod_texts.specs.Private.Giving.{IsGiven}

-- the pieces so far were given
abbrev pub invariant-pieces : goal.invariant-pieces
invariant-pieces g l = IsGiven {E = WriteFault} (g.R.Sink.state l.fn.sink) l.fn.self (g.R.Sink.state l.sink) l.self
    (flat_map (λ piece. piece.now) (take l.piece-index l.pieces)) (Ok tt)
