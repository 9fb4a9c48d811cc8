use Rattle.std.proofs.Common.{codes}
use Rattle.gomod_texts.proofs.WrittenLines.{row_alone, row_in_pieces}
use Rattle.gomod_texts.proofs.rows.give_row.Goals as goal

pub returns-in-None : goal.returns-in-None
returns-in-None g c =
    let one = c.module_pieces.result in
    rw (c.in-None.is, row_alone one.0.now one.1.now one.2.now _ c.module_pieces.ensures) c.give_line.ensures

pub returns-in-Some : goal.returns-in-Some
returns-in-Some g c =
    let one = c.module_pieces.result in
    let right = c.right_pieces.result in
    rw (
      c.in-Some.is,
      row_in_pieces one.0.now one.1.now one.2.now _ (codes " => ") right.0.now right.1.now right.2.now _
          c.module_pieces.ensures c.right_pieces.ensures,
    ) c.give_line-in-Some.ensures
