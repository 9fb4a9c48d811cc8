use Rattle.std.proofs.Common.{◌≡◌, ap, ◌∙◌}
use Rattle.std.specs.Option.{option_map}
use Rattle.gm_syntax.specs.LineViews.{line_of, plain}
use Rattle.gm_file.proofs.DepReading.{word-behind, word_of}
use Rattle.gm_file.proofs.Retracted.{retractions-more}
use Rattle.gm_file.proofs.retractions.Retractions.read_line.Goals as goal

pub returns-clause-read : goal.returns-clause-read
returns-clause-read c = λ lines so.
    let block = option_map (λ t. t.now.word) c.as_ref-block.result in
    let same : block ≡ word_of c.args.self.now.block = word-behind c.as_ref-block.result ∙ ap word_of c.as_ref-block.ensures.value in
    retractions-more lines (plain (line_of c.args.line.now)) block c.args.self.now
    (record { block = c.pass_line.new.block; intervals = c.add_retraction.new.intervals }) so same
    c.in_ok-add_retraction.ensures.read c.in_ok-pass_line.ensures
