use Rattle.std.proofs.Common.{◌≡◌, take}
use Rattle.std.specs.String.{string_bytes}
use Rattle.gomod_words.specs.Usage.{shown_bytes}
use Rattle.gomod_words.proofs.usage.shown.Given as goal

-- the text shows the bytes so far
abbrev pub invariant-loop-byte : goal.invariant-loop-byte
invariant-loop-byte l = string_bytes l.text ≡ shown_bytes (take l.byte-index l.bytes)
