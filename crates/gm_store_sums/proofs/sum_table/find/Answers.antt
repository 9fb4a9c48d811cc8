use Rattle.std.proofs.Common.{◌-◌, sym, arith, ◌∙◌}
use Rattle.gm_store_sums.proofs.Finding.{differs, good, line_at, reads_itself, unlisted}
use Rattle.gm_store_sums.proofs.sum_table.find.Goals.{else-has_hash-via-then-has_hash+else-has_hash-2, else-has_hash-via-else-has_hash}
use Rattle.gm_store_sums.proofs.sum_table.find.Goals as goal

pub returns-then-start-end : goal.returns-then-start-end
returns-then-start-end c =
    unlisted c.args.lines.now c.args.path.now c.args.version.now c.args.hash.now c.lines_before-start.result
    c.lines_up_to-end.result c.lines_before-start.ensures.point c.lines_up_to-end.ensures.point
    c.lines_up_to-end.ensures.within c.if-start-end.true

pub returns-then-has_hash-2 : goal.returns-then-has_hash-2
returns-then-has_hash-2 c =
    let lines = c.args.lines.now in
    let start = c.lines_before-start.result in
    let end = c.lines_up_to-end.result in
    let within = c.lines_up_to-end.ensures.within in
    good lines c.args.path.now c.args.version.now c.args.hash.now start end c.lines_before-start.ensures.point c.lines_up_to-end.ensures.point within
    (line_at lines start) (line_at lines (end - 1)) c.requires (omega arith) (reads_itself lines start (omega arith))
    (reads_itself lines (end - 1) (omega arith))
    (sym c.has_hash.ensures ∙ c.if-has_hash.true) (sym c.has_hash-then-has_hash.ensures ∙ c.if-has_hash-2.true)

pub returns-else-has_hash : goal.returns-else-has_hash
returns-else-has_hash c =
    let lines = c.args.lines.now in
    let start = c.lines_before-start.result in
    let end = c.lines_up_to-end.result in
    let within = c.lines_up_to-end.ensures.within in
    elim c.else-has_hash.branch [
      | else-has_hash-via-then-has_hash+else-has_hash-2 w ↦
          differs lines c.args.path.now c.args.version.now c.args.hash.now start end c.lines_before-start.ensures.point c.lines_up_to-end.ensures.point within
          (line_at lines start) (line_at lines (end - 1)) (end - 1) (reads_itself lines start (omega arith)) (reads_itself lines (end - 1) (omega arith))
          (omega arith) (omega arith) (sym w.has_hash-then-has_hash.ensures ∙ w.if-has_hash-2.false)
      | else-has_hash-via-else-has_hash w ↦
          differs lines c.args.path.now c.args.version.now c.args.hash.now start end c.lines_before-start.ensures.point c.lines_up_to-end.ensures.point within
          (line_at lines start) (line_at lines start) start (reads_itself lines start (omega arith)) (reads_itself lines start (omega arith))
          (omega arith) (omega arith) (sym c.has_hash.ensures ∙ w.if-has_hash.false)
    ]
