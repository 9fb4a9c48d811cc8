use Rattle.std.proofs.Common.{◌≡◌, ap, ◌∙◌}
use Rattle.std.proofs.lemmas.Result.{err_from_is_err_and}
use Rattle.std.specs.Option.{option_map}
use Rattle.gm_syntax.specs.LineViews.{line_of, plain}
use Rattle.gm_file.proofs.DepReading.{dep-fault, dep-more, word-behind, word_of}
use Rattle.gm_file.proofs.dep_lines.DepLines.read_line.Goals as goal

pub returns-in_err-read_line-clause-read : goal.returns-in_err-read_line-clause-read
returns-in_err-read_line-clause-read c = λ lines so.
    let block = option_map (λ t. t.now.word) c.as_ref-block.result in
    let same : block ≡ word_of c.args.self.now.block = word-behind c.as_ref-block.result ∙ ap word_of c.as_ref-block.ensures.value in
    let p = err_from_is_err_and c.from_residual.result c.from_residual.ensures.1 in
    rw (p.1, p.2) (dep-fault lines (plain (line_of c.args.line.now)) block c.args.self.now c.read_line.new.self
    c.in_err-read_line.field-0.0 so same c.in_err-read_line.ensures.added)

pub returns-clause-read : goal.returns-clause-read
returns-clause-read c = λ lines so.
    let block = option_map (λ t. t.now.word) c.as_ref-block.result in
    let same : block ≡ word_of c.args.self.now.block = word-behind c.as_ref-block.result ∙ ap word_of c.as_ref-block.ensures.value in
    dep-more lines (plain (line_of c.args.line.now)) block c.args.self.now (record { block = c.pass_line.new.block; fields = c.read_line.new.self }) so same
    c.in_ok-read_line.ensures.found c.in_ok-read_line.ensures.added c.in_ok-pass_line.ensures
