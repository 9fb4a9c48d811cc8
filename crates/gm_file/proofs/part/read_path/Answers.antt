use Rattle.std.proofs.Common.{refl}
use Rattle.gm_file.specs.Views.{of_path_fault}
use Rattle.gm_file.proofs.PartKinds.{path-kind, path-sound, refused-as}
use Rattle.gm_file.proofs.part.read_path.Goals as goal

pub returns-in_err-path-clause-read : goal.returns-in_err-path-clause-read
returns-in_err-path-clause-read c =
    rw (refused-as c.from_residual.result (of_path_fault c.in_err-path.field-0.0) c.from_residual.ensures.0 (λ h e. rw e at c.from_residual.ensures.1))
    (path-kind c.args.text.now c.in_err-path.field-0.0 c.in_err-path.ensures.read)

pub returns-clause-read : goal.returns-clause-read
returns-clause-read c = rw c.in_ok-path.ensures.read.0 (refl, path-sound c.args.text.now c.in_ok-path.ensures.read.1)
