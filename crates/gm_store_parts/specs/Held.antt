-- Views of a sink in memory.
use Rattle.std.specs.Prelude.{ℕ, ◌-◌, List, length, Some}
use Rattle.gm_store_parts.specs.declared.sinks.memory.MemorySink.{MemorySink}
use Rattle.gm_store_parts.specs.Taken.{SinkState}

-- the bytes taken so far
abbrev pub held_in : MemorySink → List ℕ
held_in sink = sink.bytes.items

-- how many more bytes it takes
abbrev pub room_in : MemorySink → ℕ
room_in sink = sink.room - length sink.bytes.items

-- how often it has failed
abbrev pub faults_in : MemorySink → ℕ
faults_in sink = sink.faults

-- what is known of it
abbrev pub memory_sink_state : MemorySink → SinkState
memory_sink_state sink = record { taken = Some (held_in sink); room = Some (room_in sink); faults = faults_in sink }
