use Rattle.std.proofs.Common.{refl}
use Rattle.gm_file.specs.Views.{of_pair_fault}
use Rattle.gm_file.proofs.PartKinds.{pair-kind, pair-sound, path-sound, refused-as, version-sound}
use Rattle.gm_file.proofs.part.pair_of_texts.Goals as goal

pub returns-in_err-pair-clause-read : goal.returns-in_err-pair-clause-read
returns-in_err-pair-clause-read c =
    rw (refused-as c.from_residual.result (of_pair_fault c.in_err-pair.field-0.0) c.from_residual.ensures.0 (λ h e. rw e at c.from_residual.ensures.1))
    (pair-kind c.args.path.now c.args.version.now c.in_err-pair.field-0.0 c.in_err-pair.ensures.read)

pub returns-clause-read : goal.returns-clause-read
returns-clause-read c =
    let read = c.in_ok-pair.ensures.read in
    rw read.0 (refl, pair-sound c.args.path.now c.args.version.now (path-sound _ read.1) (version-sound _ read.2) read.3)
