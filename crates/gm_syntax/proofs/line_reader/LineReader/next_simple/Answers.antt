use Rattle.gm_syntax.specs.LineReading.{Unread, HasRead}
use Rattle.gm_syntax.proofs.LineReading.{IsCut, unread}
use Rattle.gm_syntax.proofs.SimpleLines.{simple_read}
use Rattle.gm_syntax.proofs.line_reader.LineReader.next_simple.Goals as goal

pub returns-clause-read : goal.returns-clause-read
returns-clause-read c = λ lines so.
    let left : Unread = unread c.self.inside.text.now c.self.inside.rest.now c.self.inside.place in
    let old : HasRead left lines = rw c.self.view_is so in
    let e = c.split_first_line.ensures in
    let cut : IsCut left c.split_first_line.result.0.now c.split_first_line.result.1.now =
    record {
      lines = e.lines;
      no_line_feed = e.no_line_feed;
      shorter = e.shorter;
      in_range = e.in_range;
      front_is =
          e.front;
      suffix = e.suffix;
      line_feed = e.line_feed;
    } in
    simple_read left lines c.split_first_line.result.0.now c.split_first_line.result.1.now old cut c.args.verb.now
    c.in_ok-line.line c.after_simple-self-inside.result c.after_simple-self-inside.ensures c.in_ok-line.ensures
