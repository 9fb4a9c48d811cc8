-- Views of a sink over a writer.
use Rattle.std.specs.Prelude.{ℕ}
use Rattle.gm_store_parts.specs.declared.sinks.writer.StdSink.{StdSink}

-- the writer
abbrev pub writer_of : {W : Type 0} → StdSink W → W
writer_of sink = sink.writer

-- how often it has failed
abbrev pub failures_of : {W : Type 0} → StdSink W → ℕ
failures_of sink = sink.faults
