use Rattle.std.proofs.Common.{refl}
use Rattle.gm_syntax.specs.LineViews.{plain_lines}
use Rattle.gm_file.proofs.Whole.{main-held, main-sound, none-declared}
use Rattle.gm_file.proofs.main_file.MainFile.of_fields.Goals as goal

pub returns-in_default-clause-fault : goal.returns-in_default-clause-fault
returns-in_default-clause-fault c = none-declared (plain_lines c.args.doc) c.args.fields c.requires.read c.in_default.is

pub invariant_of-result : goal.invariant_of-result
invariant_of-result c =
    rw (c.new-main.ensures, c.into_pairs-requirements.ensures)
    (main-held c.args.doc c.args.fields c.in-Some.declared c.unwrap_or-go.result c.requires.read c.in-Some.is
    c.unwrap_or-go.ensures)

pub returns-clause-ok : goal.returns-clause-ok
returns-clause-ok c =
    (refl, main-sound (plain_lines c.args.doc) c.args.fields c.in-Some.declared c.requires.read c.in-Some.is)
