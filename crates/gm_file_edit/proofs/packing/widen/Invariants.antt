use Rattle.gm_file_edit.specs.Private.Marks.{block_at, is_behind_gone}
use Rattle.gm_file_edit.proofs.Packs.{IsWidenedTo}
use Rattle.gm_file_edit.proofs.packing.widen.Given as goal

abbrev pub invariant-loop-n : goal.invariant-loop-n
invariant-loop-n l = IsWidenedTo l.lines l.initial.marks.items l.n (block_at l.place) (is_behind_gone l.place) l.marks.items
