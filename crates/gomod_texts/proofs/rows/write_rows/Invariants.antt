use Rattle.std.proofs.Common.{[], Ok, take}
use Rattle.std.specs.List.{flat_map}
use Rattle.gm_store_parts.specs.declared.sinks.WriteFault.{WriteFault}
use Rattle.gomod_texts.proofs.rows.write_rows.Given as goal
use Rattle.gomod_texts.proofs.WrittenLines.{row_line}
use Rattle.gomod_texts.specs.Private.Giving.{IsGiven}

-- the lines of the rows so far were given
abbrev pub invariant-rows : goal.invariant-rows
invariant-rows g l = IsGiven {E = WriteFault} (g.O.Sink.state l.fn.sink) [] (g.O.Sink.state l.sink) l.buffer
    (flat_map (row_line l.main) (take l.row-index l.rows)) (Ok tt)
