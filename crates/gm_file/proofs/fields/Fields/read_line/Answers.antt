use Rattle.gm_file.specs.DirectiveViews.{directive_view}
use Rattle.gm_file.specs.VerbViews.{mode_view}
use Rattle.gm_file.proofs.LineSaid.{line-added}
use Rattle.gm_file.proofs.fields.Fields.read_line.Goals as goal

pub returns-in-Some-clause-added : goal.returns-in-Some-clause-added
returns-in-Some-clause-added c =
    let read = rw c.in-Some.is at c.in_ok-directive.ensures.read in
    line-added (mode_view c.args.mode) c.args.self.now c.add.new.self _ (directive_view c.in-Some.directive) c.add.result read.0 c.add.ensures.added
