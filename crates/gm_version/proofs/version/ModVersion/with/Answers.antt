use Rattle.std.proofs.Common.{◌≡◌, rules, ap, ◌∙◌}
use Rattle.semver.proofs.Grammar.{only_identifier-pre}
use Rattle.semver.specs.Identifiers.{build_text, parts_of, pre_text}
use Rattle.gm_version.specs.NameText.{text_bytes}
use Rattle.gm_version.specs.Version.{version_text}
use Rattle.gm_version.proofs.Versions.{IsVersionWith, version-with}
use Rattle.gm_version.proofs.version.ModVersion.with.Goals as goal

same_build : (c : goal.In_ok-shared_of_parts) → build_text c.in_ok-clone.field-0 ≡ build_text c.self.inside.shared.value.read.build
same_build c = search rules

made : (c : goal.In_ok-shared_of_parts) → IsVersionWith (text_bytes c.self.inside.shared.value.text)
    (text_bytes c.in_ok-shared_of_parts.field-0.value.text) (parts_of c.self.inside.shared.value.read) c.args.patch (pre_text c.in-Ok.pre)
made c =
    let pre = only_identifier-pre _ _ c.in-Ok.ensures.ok in
    let read = c.self.inside.shared.value.read in
    let spelled = (rw c.deref.ensures at c.in_ok-shared_of_parts.ensures.text)
    ∙ ap (λ b. version_text (read.major, read.minor, c.args.patch, pre_text c.in-Ok.pre, b)) (same_build c) in
    version-with _ (text_bytes c.in_ok-shared_of_parts.field-0.value.text) (parts_of read) c.args.patch
    (pre_text c.in-Ok.pre) c.self.invariant.0 c.self.invariant.1 c.ranges.patch.fits (rw pre.0 at pre.1) spelled

pub invariant_of-result : goal.invariant_of-result
invariant_of-result c = rw (c.in_ok-shared_of_parts.ensures.read, c.deref.ensures) ((made c).0, rw (same_build c) (made c).1)

pub returns : goal.returns
returns c = rw (← c.self.view_is, (only_identifier-pre _ _ c.in-Ok.ensures.ok).0) (made c).2
