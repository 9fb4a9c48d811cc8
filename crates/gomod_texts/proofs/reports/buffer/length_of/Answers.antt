use Rattle.std.proofs.Common.{◌≡◌, ◌∙◌, ◌+◌, ◌-◌, ◌^◌, ◌++◌, ℕ, List, [], ap, arith, codes, length, length-append, min, take_all}
use Rattle.gomod_texts.specs.LineParts.{line}
use Rattle.gomod_texts.proofs.Waiting.{one_more}
use Rattle.gomod_texts.proofs.reports.buffer.length_of.Goals as goal

-- one more piece
counted : (front piece next : List ℕ) (total : ℕ) → next ≡ front ++ piece → total ≡ min (length (line front)) (2 ^ 64 - 1)
    → min (total + length piece) (2 ^ 64 - 1) ≡ min (length (line next)) (2 ^ 64 - 1)
counted front piece next total joined so =
    omega (arith, ap length joined, length-append front piece, length-append front (codes "\n"), length-append next (codes "\n"))

pub loop-piece-preserved : goal.loop-piece-preserved
loop-piece-preserved c =
    let pieces = c.args.pieces.now in
    let more = one_more (λ piece. piece.now) pieces c.loop-piece.piece-index (record { ref_ptr = (0, 0); now = [] }) c.loop-piece-test.true in
    c.saturating_add-total.ensures ∙ counted _ _ _ c.loop-piece.total more c.loop-piece.invariant

pub returns : goal.returns
returns c = rw (take_all c.loop-piece.piece-index c.args.pieces.now c.loop-piece-test.false) at c.loop-piece.invariant
