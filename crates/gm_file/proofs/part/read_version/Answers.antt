use Rattle.std.proofs.Common.{refl}
use Rattle.gm_file.specs.Views.{of_version_fault}
use Rattle.gm_file.proofs.PartKinds.{refused-as, version-kind, version-sound}
use Rattle.gm_file.proofs.part.read_version.Goals as goal

pub returns-in_err-version-clause-read : goal.returns-in_err-version-clause-read
returns-in_err-version-clause-read c =
    rw (refused-as c.from_residual.result (of_version_fault c.in_err-version.field-0.0) c.from_residual.ensures.0 (λ h e. rw e at c.from_residual.ensures.1))
    (version-kind c.args.text.now c.in_err-version.field-0.0 c.in_err-version.ensures.read)

pub returns-clause-read : goal.returns-clause-read
returns-clause-read c = rw c.in_ok-version.ensures.read.0 (refl, version-sound c.args.text.now c.in_ok-version.ensures.read.1)
