use Rattle.gm_syntax.proofs.SimpleLines.{parenthesis_first}
use Rattle.gm_syntax.proofs.simple_line.is_opening_end.Goals as goal

pub split_at-requires : goal.split_at-requires
split_at-requires c =
    let begins = rw c.as_bytes.ensures.value at c.begins_opening.ensures.0 c.if-not-begins_opening.false in
    parenthesis_first _ c.utf8.text begins
