use Rattle.std.proofs.Common.{◌≡◌, ◌≤◌, ◌==◌, arith, length, rules, slice_index, true, false}
use Rattle.std.proofs.lemmas.List.{drop_all}
use Rattle.semver.specs.Order.{part_length}
use Rattle.semver.proofs.Parts.{part-step, part-stop}
use Rattle.gm_version.proofs.pre_release.identifier_len.Goals as goal

pub bytes-preserved : goal.bytes-preserved
bytes-preserved c =
    let d : (slice_index c.args.text.now c.bytes.place == 46) ≡ false = search rules in
    let step = part-step c.args.text.now c.bytes.place c.bytes-test.true d in
    let inv = c.bytes.invariant in
    omega arith

pub returns-then-text-place-eq46 : goal.returns-then-text-place-eq46
returns-then-text-place-eq46 c =
    let d : (slice_index c.args.text.now c.bytes.place == 46) ≡ true = search rules in
    let stop = part-stop c.args.text.now c.bytes.place c.bytes-test.true d in
    let inv = c.bytes.invariant in
    omega arith

pub returns : goal.returns
unfolding part_length
returns c =
    let done : length c.args.text.now ≤ c.bytes.place = omega arith in
    let inv = rw (drop_all c.bytes.place c.args.text.now done) at c.bytes.invariant in
    omega arith
