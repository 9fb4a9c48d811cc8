use Rattle.std.proofs.iter.FirstChar.{cut}
use Rattle.gm_syntax.proofs.SimpleLines.{BeginsBlank, blank_first, one_more_blank}
use Rattle.gm_syntax.proofs.simple_line.after_blanks.Goals as goal

pub split_at-requires : goal.split_at-requires
split_at-requires c =
    let begins = rw c.as_bytes.ensures.value at c.begins_blank.ensures.0 c.loop-rest-test.true in
    blank_first _ c.loop-rest.invariant.utf8 begins

pub loop-rest-preserved : goal.loop-rest-preserved
loop-rest-preserved c =
    let begins : BeginsBlank c.loop-rest.rest.now = rw c.as_bytes.ensures.value at c.begins_blank.ensures.0 c.loop-rest-test.true in
    record {
      utf8 = rw c.split_at.ensures.back (cut c.loop-rest.rest.now 1 c.loop-rest.invariant.utf8
          (blank_first _ c.loop-rest.invariant.utf8 begins)).1;
      blanks = one_more_blank _ _ _ c.loop-rest.invariant.blanks begins c.split_at.ensures.back;
    }
