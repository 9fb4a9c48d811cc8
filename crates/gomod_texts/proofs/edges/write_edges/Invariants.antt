use Rattle.std.proofs.Common.{◌≡◌, ◌++◌, [], List, Ok, ℕ}
use Rattle.gm_store_parts.specs.declared.sinks.WriteFault.{WriteFault}
use Rattle.gomod_texts.proofs.edges.write_edges.Given as goal
use Rattle.gomod_texts.specs.Private.Giving.{IsGiven}
use Rattle.gomod_texts.specs.GraphQuery.{graph_text}

-- lines were given, and those of the remaining edges are the rest of the text
abbrev pub invariant-edges : goal.invariant-edges
invariant-edges g l = (given : List ℕ)
    × IsGiven {E = WriteFault} (g.O.Sink.state l.fn.sink) [] (g.O.Sink.state l.sink) l.buffer given (Ok tt)
    × (graph_text l.main l.fn.edges ≡ given ++ graph_text l.main l.edge-iterator)
