use Rattle.gm_version.specs.NameText.{text_bytes}
use Rattle.semver.specs.Identifiers.{parts_of}
use Rattle.gm_version.proofs.Versions.{parts-read, version-parts}
use Rattle.gm_version.proofs.version.ModVersion.pre.Goals as goal

pub returns-clause-valid : goal.returns-clause-valid
returns-clause-valid c =
    let text = text_bytes c.self.inside.shared.value.text in
    let valid = (version-parts text c.self.invariant.0).0 in
    let same = parts-read text (parts_of c.self.inside.shared.value.read) c.self.invariant.1 in
    rw (c.as_str.ensures, c.deref.ensures) (rw same at valid.3)
