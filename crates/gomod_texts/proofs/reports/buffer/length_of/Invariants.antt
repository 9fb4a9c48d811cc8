use Rattle.std.proofs.Common.{◌≡◌, ◌-◌, ◌^◌, length, min, take}
use Rattle.std.specs.List.{flat_map}
use Rattle.gomod_texts.specs.LineParts.{line}
use Rattle.gomod_texts.proofs.reports.buffer.length_of.Given as goal

-- the pieces so far were counted
abbrev pub invariant-loop-piece : goal.invariant-loop-piece
invariant-loop-piece l =
    l.total ≡ min (length (line (flat_map (λ piece. piece.now) (take l.piece-index l.pieces)))) (2 ^ 64 - 1)
