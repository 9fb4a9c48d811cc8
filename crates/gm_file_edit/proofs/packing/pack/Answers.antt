use Rattle.std.proofs.Common.{sym, ◌∙◌}
use Rattle.gm_file_edit.proofs.Packs.{all-kept, at-count, pack-is}
use Rattle.gm_file_edit.proofs.KeptBlocks.{in-blocks}
use Rattle.gm_file_edit.proofs.packing.pack.Goals as goal

pub returns-then-not-has_mark : goal.returns-then-not-has_mark
returns-then-not-has_mark c =
    all-kept c.args.marks.items c.args.lines.now (at-count c.args.marks.items c.args.lines.now c.requires)
    (rw c.as_slice.ensures.value at (sym c.has_mark.ensures ∙ c.if-not-has_mark.true))

pub widen-requires : goal.widen-requires
widen-requires c = at-count c.args.marks.items c.args.lines.now c.requires

pub remove_marked-requires-clause-in_blocks : goal.remove_marked-requires-clause-in_blocks
remove_marked-requires-clause-in_blocks c =
    rw c.as_slice-2.ensures.value (in-blocks c.args.marks.items c.widen.new.marks.items c.args.lines.now c.requires c.widen.ensures.len c.widen.ensures.marks)

pub returns : goal.returns
returns c =
    c.remove_marked.ensures
    ∙ pack-is c.args.marks.items c.args.lines.now c.as_slice-2.ensures.value c.widen.ensures.len c.widen.ensures.marks
