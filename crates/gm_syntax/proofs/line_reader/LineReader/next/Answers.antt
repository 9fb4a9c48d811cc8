use Rattle.std.proofs.Common.{◌≡◌, ℕ, [], inl, ap, sym, ◌∙◌}
use Rattle.std.proofs.lemmas.List.{nil_from_length}
use Rattle.std.proofs.lemmas.Bool.{eqb-true}
use Rattle.gm_syntax_words.specs.Lines.{lines_of}
use Rattle.gm_syntax_words.specs.ReadLine.{fault_at}
use Rattle.gm_syntax.specs.LineViews.{line_of}
use Rattle.gm_syntax.specs.LineReading.{HasRead}
use Rattle.gm_syntax.proofs.Lines.{lines_nil}
use Rattle.gm_syntax.proofs.LineReading.{unread, read_more, read_fault, read_end, read_open}
use Rattle.gm_syntax.proofs.line_reader.LineReader.next.Goals as goal

pub returns-then-is_inside-clause-next : goal.returns-then-is_inside-clause-next
returns-then-is_inside-clause-next c = λ lines so.
    let none : lines_of c.self.inside.rest.now ≡ [] = rw (nil_from_length c.self.inside.rest.now (eqb-true _ 0 (sym c.is_empty.ensures
    ∙ c.if-is_empty.true))) lines_nil in
    let old : HasRead (unread c.self.inside.text.now c.self.inside.rest.now c.self.inside.place) lines =
    rw c.self.view_is so in
    rw c.opened.ensures (inl (rw (← c.self.view_is)
    (read_open old none (sym c.is_inside.ensures ∙ c.if-is_inside.true))))

pub returns-then-is_empty-clause-next : goal.returns-then-is_empty-clause-next
returns-then-is_empty-clause-next c = λ lines so.
    let none : lines_of c.self.inside.rest.now ≡ [] = rw (nil_from_length c.self.inside.rest.now (eqb-true _ 0 (sym c.is_empty.ensures
    ∙ c.if-is_empty.true))) lines_nil in
    let old : HasRead (unread c.self.inside.text.now c.self.inside.rest.now c.self.inside.place) lines =
    rw c.self.view_is so in
    rw (← c.self.view_is) (read_end old none (sym c.is_inside.ensures ∙ c.if-is_inside.false))

pub returns-in-Ok-clause-next : goal.returns-in-Ok-clause-next
returns-in-Ok-clause-next c = λ lines so.
    let old : HasRead (unread c.self.inside.text.now c.self.inside.rest.now c.self.inside.place) lines =
    rw c.self.view_is so in
    let e = c.split_first_line.ensures in
    read_more old c.split_first_line.result.0.now c.split_first_line.result.1.now (line_of c.in-Ok.line)
    c.after-self-inside.result c.after-self-inside.ensures (record {
      lines = e.lines;
      no_line_feed = e.no_line_feed;
      shorter = e.shorter;
      in_range = e.in_range;
      front_is = e.front;
      suffix = e.suffix;
      line_feed = e.line_feed;
    }) c.in-Ok.ensures.read c.in-Ok.ensures.placed c.in-Ok.ensures.numbered c.in-Ok.ensures.filled

pub returns-in-Err-clause-next : goal.returns-in-Err-clause-next
returns-in-Err-clause-next c = λ lines so.
    let old : HasRead (unread c.self.inside.text.now c.self.inside.rest.now c.self.inside.place) lines =
    rw c.self.view_is so in
    rw (c.at_line.ensures ∙ ap (λ (n : ℕ). fault_at n c.in-Err.fault) c.number.ensures)
    (read_fault old c.split_first_line.result.0.now c.split_first_line.result.1.now c.in-Err.fault c.split_first_line.ensures.lines c.in-Err.ensures.read)
