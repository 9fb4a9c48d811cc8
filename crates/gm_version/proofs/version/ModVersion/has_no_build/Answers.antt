use Rattle.semver.specs.Identifiers.{parts_of}
use Rattle.gm_version.proofs.Versions.{build-cases}
use Rattle.gm_version.proofs.version.ModVersion.has_no_build.Goals as goal

pub returns : goal.returns
returns c =
    rw (← c.self.view_is) (build-cases _ (parts_of c.self.inside.shared.value.read) c.is_empty.result c.self.invariant.0
    c.self.invariant.1 (rw c.deref.ensures at c.is_empty.ensures))
