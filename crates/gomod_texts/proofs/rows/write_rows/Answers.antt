use Rattle.std.proofs.Common.{◌∙◌, ◌++◌, [], Err, Ok, append-nil, drop, refl, suc, sym, take, take_all}
use Rattle.std.specs.List.{flat_map}
use Rattle.gomod_texts.proofs.Waiting.{around, gives_more, no_more, one_more, took_given, took_part}
use Rattle.gomod_texts.proofs.WrittenLines.{row_line, rows_text}
use Rattle.gomod_texts.proofs.rows.write_rows.Goals as goal

pub returns-in_err-give_row : goal.returns-in_err-give_row
returns-in_err-give_row g c =
    let f = row_line c.args.main.now in
    let rows = c.args.rows.now in
    let at = c.rows.row-index in
    let fault = c.in_err-give_row.field-0.0 in
    let split = sym (append-nil (flat_map f rows)) ∙ around f rows at c.row-item.result [] c.rows-test.true in
    rw (rows_text c.args.main.now rows) (took_part _ _ [] c.give_row.new.buffer (flat_map f rows) fault c.from_residual.result refl c.from_residual.ensures.0
    (no_more _ _ _ [] c.rows.buffer c.give_row.new.buffer (flat_map f (take at rows)) _ (flat_map f (drop (suc at) rows) ++ [])
    (flat_map f rows) fault (Err fault) refl split c.rows.invariant (rw c.row-item.is at c.in_err-give_row.ensures)))

pub rows-preserved : goal.rows-preserved
rows-preserved g c =
    gives_more _ _ _ [] c.rows.buffer c.give_row.new.buffer _ _ _ (Ok tt)
    (one_more (row_line c.args.main.now) c.args.rows.now c.rows.row-index c.row-item.result c.rows-test.true) c.rows.invariant
    (rw c.row-item.is at c.in_ok-give_row.ensures)

pub returns : goal.returns
returns g c =
    rw (rows_text c.args.main.now c.args.rows.now) (took_given _ _ _ [] c.rows.buffer _ tt c.end.result refl
    (rw (take_all c.rows.row-index c.args.rows.now c.rows-test.false) at c.rows.invariant) c.end.ensures.ended)
