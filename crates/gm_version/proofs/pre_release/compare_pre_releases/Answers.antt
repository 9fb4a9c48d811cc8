use Rattle.std.proofs.Common.{◌≡◌, ◌==◌, sym, ◌∙◌, rules, length, false}
use Rattle.semver.specs.OrderLaws.{pre_cmp-both}
use Rattle.gm_version.proofs.pre_release.compare_pre_releases.Goals as goal

pub returns : goal.returns
returns c =
    let a : (length c.args.one.now == 0) ≡ false = search rules in
    let b : (length c.args.other.now == 0) ≡ false = search rules in
    rw (c.as_bytes.ensures.value, c.as_bytes-2.ensures.value) at c.compare_by_identifiers.ensures ∙ sym (pre_cmp-both _ _ a b)
