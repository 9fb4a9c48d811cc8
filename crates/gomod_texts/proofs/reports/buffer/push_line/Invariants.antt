use Rattle.std.proofs.Common.{◌≡◌, ◌++◌, take}
use Rattle.std.specs.List.{flat_map}
use Rattle.gomod_texts.proofs.reports.buffer.push_line.Given as goal

-- the pieces so far were appended
abbrev pub invariant-pieces : goal.invariant-pieces
invariant-pieces l = l.text.bytes ≡ l.fn.text.bytes ++ flat_map (λ piece. piece.now) (take l.piece-index l.pieces)
