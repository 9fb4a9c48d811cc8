use Rattle.std.proofs.Common.{ap, sym}
use Rattle.std.specs.Option.{option_map}
use Rattle.gm_file.specs.Views.{right_view}
use Rattle.gm_file.proofs.Indexed.{inserted-noted}
use Rattle.gm_file.proofs.replacements.note.Goals as goal

pub returns : goal.returns
returns g c = inserted-noted g.K.Ord.cmp c.args.index.now c.insert_copy.new.index c.args.key
    (right_view c.args.right.now) c.insert_copy.result (ap (option_map right_view) (sym c.in_default.ensures.value))
    c.insert_copy.ensures.inserted c.insert_copy.ensures.memory
