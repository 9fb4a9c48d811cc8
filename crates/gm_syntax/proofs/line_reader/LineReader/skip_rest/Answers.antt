use Rattle.std.proofs.Common.{[], ◌∷◌, ◌++◌, append_assoc}
use Rattle.std.proofs.lemmas.Result.{err_from_is_err_and}
use Rattle.gm_syntax.specs.LineViews.{line_of}
use Rattle.gm_syntax.specs.LineReading.{HasRead}
use Rattle.gm_syntax.proofs.LineReading.{one_more, no_more}
use Rattle.gm_syntax.proofs.line_reader.LineReader.skip_rest.Goals as goal

pub returns-in_err-line-clause-rest : goal.returns-in_err-line-clause-rest
returns-in_err-line-clause-rest c = λ lines so.
    let read = c.loop-line.invariant.read lines so in
    let told = err_from_is_err_and c.from_residual.result c.from_residual.ensures.1 in
    let here : HasRead c.next.new.self (lines ++ read.0) = rw c.in_err-line.ensures.err read.1 in
    rw (told.1, told.2) (read.0, here, c.in_err-line.ensures.next (lines ++ read.0) read.1)

pub loop-line-preserved : goal.loop-line-preserved
loop-line-preserved c = record {
  source = rw (c.recycle.ensures, c.in_ok-line.ensures.source) c.loop-line.invariant.source;
  read = λ lines so.
      let read = c.loop-line.invariant.read lines so in
      let last = line_of c.in-Some.line ∷ [] in
      let more = one_more c.next.new.self (lines ++ read.0) c.in_ok-line.field-0 c.in-Some.line c.in-Some.is
      (c.in_ok-line.ensures.next (lines ++ read.0) read.1) in (
        read.0 ++ last,
        rw c.recycle.ensures
            (rw (← (append_assoc lines read.0 last)) more),
      );
}

pub returns-clause-rest : goal.returns-clause-rest
returns-clause-rest c = λ lines so.
    let read = c.loop-line.invariant.read lines so in
    let same = rw c.in_default.is at c.in_ok-line.ensures.end in
    let here : HasRead c.next.new.self (lines ++ read.0) = rw same read.1 in
    let end = no_more c.next.new.self (lines ++ read.0) c.in_ok-line.field-0 c.in_default.is (c.in_ok-line.ensures.next (lines ++ read.0) read.1) in
    (read.0, here, end.parsed)
