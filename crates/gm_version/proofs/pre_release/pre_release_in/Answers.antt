use Rattle.std.proofs.Common.{None, Some, sym}
use Rattle.gm_version.proofs.PreReleases.{version-after_dash, version-before_plus}
use Rattle.gm_version.proofs.pre_release.pre_release_in.Goals as goal

pub returns-in_default : goal.returns-in_default
returns-in_default c = sym (version-after_dash c.args.version.now None c.requires c.in_default.ensures.cases)

pub returns-in-Some-split_once : goal.returns-in-Some-split_once
returns-in-Some-split_once c =
    let rest = version-after_dash c.args.version.now (Some (c.in-Some.field-0-0, c.in-Some.rest)) c.requires c.in-Some.ensures.cases in
    version-before_plus c.args.version.now c.in-Some.rest.now
    (Some (c.in-Some-split_once.pre_release, c.in-Some-split_once.field-0-1)) c.requires rest
    c.in-Some-split_once.ensures.cases

pub returns-in-None : goal.returns-in-None
returns-in-None c =
    let rest = version-after_dash c.args.version.now (Some (c.in-Some.field-0-0, c.in-Some.rest)) c.requires c.in-Some.ensures.cases in
    version-before_plus c.args.version.now c.in-Some.rest.now None c.requires rest c.in-None.ensures.cases
