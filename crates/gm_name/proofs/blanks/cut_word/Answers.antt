use Rattle.gm_name.proofs.FieldLemmas.{drop_whole, fields_step, is_cut}
use Rattle.gm_name.proofs.blanks.cut_word.Goals as goal

pub returns-clause-fields : goal.returns-clause-fields
returns-clause-fields c =
    rw (drop_whole c.bytes_before_blank-end.result c.after_blanks-words.result.now, c.bytes_before_blank-end.ensures.count, c.after_blanks-words.ensures)
    (fields_step c.args.line.now)

pub returns-clause-cut : goal.returns-clause-cut
returns-clause-cut c =
    rw (drop_whole c.bytes_before_blank-end.result c.after_blanks-words.result.now, c.bytes_before_blank-end.ensures.count, c.after_blanks-words.ensures)
    (is_cut c.args.line.now)
