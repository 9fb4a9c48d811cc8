use Rattle.std.proofs.Common.{◌∙◌, ap, subst, sym}
use Rattle.gm_syntax.specs.LineReading.{Unread}
use Rattle.gm_syntax.specs.LineViews.{line_of, plain_lines}
use Rattle.gm_file.specs.Private.SimpleLines.{AreReadSofar}
use Rattle.gm_file.proofs.Keeping.{keeps_both}
use Rattle.gm_file.proofs.SimpleLines.{sofar-more}
use Rattle.gm_file.proofs.dep_lines.read_all.Goals as goal

pub loop-reader-preserved : goal.loop-reader-preserved
loop-reader-preserved c =
    let so = c.in_ok-read_simple_lines.ensures.read in
    let left = c.next.new.self in
    let said = c.read_line-read.new.self in
    let read = rw c.in-Some.is at (c.in_ok-line.ensures.next so.0 so.1) in
    let next = sofar-more left so.0 said (line_of c.in-Some.line, read, c.in_default-read.ensures.read (plain_lines so.0) so.2) in
    record {
      kept = keeps_both (keeps_both c.loop-reader.invariant.kept c.read_simple_lines.ensures.kept) c.read_line-read.ensures.kept;
      source = ap (λ (here : Unread). here.source) c.recycle.ensures ∙ c.in_ok-line.ensures.source
          ∙ c.in_ok-read_simple_lines.ensures.source ∙ c.loop-reader.invariant.source;
      before = c.in_default-read.ensures.before ∙ c.read_simple_lines.ensures.before ∙ c.loop-reader.invariant.before;
      found = c.in_default-read.ensures.found;
      read = subst (λ (here : Unread). AreReadSofar here said) (sym c.recycle.ensures) next;
    }
