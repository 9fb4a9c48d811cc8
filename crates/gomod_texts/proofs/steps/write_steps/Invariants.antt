use Rattle.std.proofs.Common.{[], Ok, take}
use Rattle.gm_store_parts.specs.declared.sinks.WriteFault.{WriteFault}
use Rattle.gomod_texts.proofs.steps.write_steps.Given as goal
use Rattle.gomod_texts.specs.Private.Giving.{IsGiven}
use Rattle.gomod_texts.specs.ChainQuery.{chain_text}

-- the lines of the steps so far were given
abbrev pub invariant-steps : goal.invariant-steps
invariant-steps g l = IsGiven {E = WriteFault} (g.O.Sink.state l.fn.sink) [] (g.O.Sink.state l.sink) l.buffer
    (chain_text l.main (take l.step-index l.steps)) (Ok tt)
