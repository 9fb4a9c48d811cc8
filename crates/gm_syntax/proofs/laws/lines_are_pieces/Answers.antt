use Rattle.gm_syntax.proofs.TextPieces.{pieces_lines, pieces_are_lines}
use Rattle.gm_syntax.proofs.laws.lines_are_pieces.Goals as goal

pub returns : goal.returns
returns c = λ text pieces. (pieces_lines text pieces, pieces_are_lines text pieces)
