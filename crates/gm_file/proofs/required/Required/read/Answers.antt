use Rattle.std.proofs.Common.{refl}
use Rattle.gm_file.proofs.PartKinds.{pair-sound, path-sound, version-sound}
use Rattle.gm_file.proofs.required.Required.read.Goals as goal

pub returns-then-branch-clause-read : goal.returns-then-branch-clause-read
returns-then-branch-clause-read c =
    let known = c.in_ok-push_known.ensures.read c.if-branch.true in
    (refl, pair-sound c.args.path.now c.args.version.now (path-sound _ known.1) (version-sound _ known.2) known.3)
