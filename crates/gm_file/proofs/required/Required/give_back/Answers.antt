use Rattle.std.proofs.Common.{◌∙◌, ap, sym}
use Rattle.gm_file.specs.Private.Requirements.{items_in}
use Rattle.gm_file.proofs.ListEnds.{given_back}
use Rattle.gm_file.proofs.required.Required.give_back.Goals as goal

pub returns : goal.returns
returns c = λ before is.
    let here = c.in-End in
    given_back here.list c.replace-before.new.dest before here.before
    (sym (ap items_in here.is) ∙ c.self.view_is) (rw here.is at c.self.invariant) is
    (c.replace-before.ensures.after ∙ here.list-is)
