use Rattle.std.proofs.Common.{Err, sym, ◌∙◌, codes}
use Rattle.gm_syntax.specs.LineViews.{plain_lines}
use Rattle.gm_syntax.specs.SimpleLines.{pair_line, triple_line}
use Rattle.gm_file.proofs.SimpleLines.{blank-said, closing-said, opening-said, pair-in-block, required-next, single-next, triple-outside, triple-refused, words-said}
use Rattle.gm_file.specs.declared.fault.DirectiveKind.TheVariants.{WrongArguments}
use Rattle.gm_file.specs.declared.fault.LineFault.TheVariants as line
use Rattle.gm_file.proofs.dep_lines.DepLines.read_simple.Goals as goal

pub returns-in-Blank-clause-read : goal.returns-in-Blank-clause-read
returns-in-Blank-clause-read c = λ lines left so read.
    blank-said lines left c.args.self.now so (rw c.in-Blank.is at read)

pub returns-then-is_some-clause-read : goal.returns-then-is_some-clause-read
returns-then-is_some-clause-read c = λ lines left so read.
    let first = c.in-Pair.first.now in
    let second = c.in-Pair.second.now in
    let opened = sym c.is_some.ensures ∙ c.if-is_some.true in
    words-said lines left (pair_line first second) _ c.read.result
    (λ suffix. required-next (plain_lines lines) first second _ suffix c.args.self.now
    (pair-in-block c.args.self.now.block first second suffix c.requires.block opened) so
    c.read.new.self c.read.result c.requires.found c.read.ensures.items c.read.ensures.read)
    (rw c.in-Pair.is at read)

pub returns-else-is_some-clause-read : goal.returns-else-is_some-clause-read
returns-else-is_some-clause-read c = λ lines left so read.
    let first = c.in-Pair.first.now in
    let second = c.in-Pair.second.now in
    words-said lines left (pair_line first second) _ c.read_single.result
    (λ suffix. single-next (plain_lines lines) first second suffix c.args.self.now c.read_single.new.self c.read_single.result
    (sym c.is_some.ensures ∙ c.if-is_some.false) so c.read_single.ensures.found c.read_single.ensures.added)
    (rw c.in-Pair.is at read)

pub returns-then-is_some-2-clause-read : goal.returns-then-is_some-2-clause-read
returns-then-is_some-2-clause-read c = λ lines left so read.
    let path = c.in-PairAfter.path.now in
    let version = c.in-PairAfter.version.now in
    let opened = sym c.is_some-in-PairAfter.ensures ∙ c.if-is_some-2.true in
    words-said lines left (triple_line (codes "require") path version) c.args.self.now (Err (line.Kind WrongArguments))
    (λ suffix. triple-refused (plain_lines lines) path version suffix c.args.self.now c.requires.block opened so)
    (rw c.in-PairAfter.is at read)

pub returns-else-is_some-2-clause-read : goal.returns-else-is_some-2-clause-read
returns-else-is_some-2-clause-read c = λ lines left so read.
    let path = c.in-PairAfter.path.now in
    let version = c.in-PairAfter.version.now in
    words-said lines left (triple_line (codes "require") path version) _ c.read-in-PairAfter.result
    (λ suffix. required-next (plain_lines lines) path version _ suffix c.args.self.now
    (triple-outside c.args.self.now.block path version suffix (sym c.is_some-in-PairAfter.ensures ∙ c.if-is_some-2.false)) so
    c.read-in-PairAfter.new.self c.read-in-PairAfter.result c.requires.found c.read-in-PairAfter.ensures.items c.read-in-PairAfter.ensures.read)
    (rw c.in-PairAfter.is at read)

pub returns-in-Opening-clause-block : goal.returns-in-Opening-clause-block
returns-in-Opening-clause-block c = λ lines left read.
    let it = rw c.in-Opening.is at read in
    rw c.set_block.ensures it.0

pub returns-in-Opening-clause-read : goal.returns-in-Opening-clause-read
returns-in-Opening-clause-read c = λ lines left so read.
    let it = rw c.in-Opening.is at read in
    rw c.set_block.ensures (opening-said lines left c.args.self.now so c.in-Opening.verb it.0 it.1)

pub returns-in-Closing-clause-read : goal.returns-in-Closing-clause-read
returns-in-Closing-clause-read c = λ lines left so read.
    rw c.set_block-in-Closing.ensures (closing-said lines left c.args.self.now so (rw c.in-Closing.is at read))
