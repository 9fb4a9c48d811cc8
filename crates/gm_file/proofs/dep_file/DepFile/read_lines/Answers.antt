use Rattle.std.proofs.Common.{refl, ◌∙◌}
use Rattle.gm_syntax.specs.LineViews.{line_views, plain_lines}
use Rattle.gm_file.proofs.Whole.{dependency-is, lax-sound}
use Rattle.gm_file.proofs.dep_file.DepFile.read_lines.Goals as goal

pub returns-in-Ok-clause-ok : goal.returns-in-Ok-clause-ok
returns-in-Ok-clause-ok c =
    let lines = plain_lines (line_views c.args.lines.now) in
    let said = c.read_document-read.new.said in
    let so = c.in-Ok.ensures.ok in (
      c.of_fields-file.ensures.dependency ∙ dependency-is lines said.fields _ so.read refl,
      lax-sound lines said.fields so.read,
    )
