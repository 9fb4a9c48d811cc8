use Rattle.std.proofs.Common.{◌≡◌, ◌∙◌, None, Some, Ok, Err, inl, inr, lit<, drop, sym}
use Rattle.std.proofs.lemmas.Bool.{false≢true}
use Rattle.std.proofs.lemmas.Result.{err_from_is_err_and}
use Rattle.std.proofs.lemmas.Str.Pattern.{strip_prefix_char}
use Rattle.semver.specs.Identifiers.{parts_of}
use Rattle.semver.specs.Parse.{version_parts}
use Rattle.gm_version.specs.Version.{HasPlainBuild}
use Rattle.gm_version.proofs.Refusals.{memory-version}
use Rattle.gm_version.proofs.Versions.{version-built, version-none, version-read, version-v}
use Rattle.gm_version.proofs.version.ModVersion.parse.Goals as goal

pub returns-in_default : goal.returns-in_default
returns-in_default c =
    let v = strip_prefix_char 118 c.args.text.now None c.in_default.ensures.cases (lit< tt) in
    version-v c.args.text.now v

pub returns-then-not-has_plain_build : goal.returns-then-not-has_plain_build
returns-then-not-has_plain_build c =
    let v = strip_prefix_char 118 c.args.text.now (Some c.in-Some.rest) c.in-Some.ensures.cases (lit< tt) in
    let built : ¬ (HasPlainBuild (parts_of c.in-Ok.read)) = λ plain. false≢true (sym c.if-not-has_plain_build.true ∙ c.has_plain_build.ensures.1 plain) in
    version-built c.args.text.now c.in-Some.rest.now (parts_of c.in-Ok.read) v c.in-Ok.ensures.ok built

pub invariant_of-result : goal.invariant_of-result
invariant_of-result c =
    let v = strip_prefix_char 118 c.args.text.now (Some c.in-Some.rest) c.in-Some.ensures.cases (lit< tt) in
    let read = version-read c.args.text.now c.in-Some.rest.now (parts_of c.in-Ok.read) v c.in-Ok.ensures.ok in
    let plain = c.has_plain_build.ensures.0 c.if-not-has_plain_build.false in
    let again : version_parts (drop 1 c.args.text.now) ≡ Ok (parts_of c.in-Ok.read) = rw v c.in-Ok.ensures.ok in
    rw (c.in_ok-shared_of_text-in-Ok.ensures.text, c.in_ok-shared_of_text-in-Ok.ensures.read) ((parts_of c.in-Ok.read, read.0, plain, read.1), again)

pub returns-in_ok-shared_of_text-in-Ok : goal.returns-in_ok-shared_of_text-in-Ok
returns-in_ok-shared_of_text-in-Ok c =
    let v = strip_prefix_char 118 c.args.text.now (Some c.in-Some.rest) c.in-Some.ensures.cases (lit< tt) in
    let read = version-read c.args.text.now c.in-Some.rest.now (parts_of c.in-Ok.read) v c.in-Ok.ensures.ok in
    let plain = c.has_plain_build.ensures.0 c.if-not-has_plain_build.false in
    (c.in_ok-shared_of_text-in-Ok.ensures.text, (parts_of c.in-Ok.read, read.0, plain, read.1))

pub returns-then-is_short : goal.returns-then-is_short
returns-then-is_short c =
    let v = strip_prefix_char 118 c.args.text.now (Some c.in-Some.rest) c.in-Some.ensures.cases (lit< tt) in
    let unread : version_parts c.in-Some.rest.now ≡ Err c.in-Err.error = elim c.in-Err.ensures.err [
      | inl memory ↦ absurd (false≢true (sym c.if-is_out_of_memory.false ∙ c.is_out_of_memory.ensures.1 memory))
      | inr grammar ↦ grammar
    ] in
    let none = version-none c.args.text.now c.in-Some.rest.now c.in-Err.error v unread in
    (inr (rw v (c.is_short.ensures.0 c.if-is_short.true)), none.0)

pub returns-else-is_short : goal.returns-else-is_short
returns-else-is_short c =
    let v = strip_prefix_char 118 c.args.text.now (Some c.in-Some.rest) c.in-Some.ensures.cases (lit< tt) in
    let unread : version_parts c.in-Some.rest.now ≡ Err c.in-Err.error = elim c.in-Err.ensures.err [
      | inl memory ↦ absurd (false≢true (sym c.if-is_out_of_memory.false ∙ c.is_out_of_memory.ensures.1 memory))
      | inr grammar ↦ grammar
    ] in
    let none = version-none c.args.text.now c.in-Some.rest.now c.in-Err.error v unread in
    (none.0, λ other. false≢true (sym c.if-is_short.false ∙ c.is_short.ensures.1 (rw v at (none.1 other))))

pub returns-in_err-shared_of_text-in-Ok : goal.returns-in_err-shared_of_text-in-Ok
returns-in_err-shared_of_text-in-Ok c =
    let p = err_from_is_err_and c.from_residual.result c.from_residual.ensures.1 in
    let v = strip_prefix_char 118 c.args.text.now (Some c.in-Some.rest) c.in-Some.ensures.cases (lit< tt) in
    let read = version-read c.args.text.now c.in-Some.rest.now (parts_of c.in-Ok.read) v c.in-Ok.ensures.ok in
    rw (p.1, p.2) (parts_of c.in-Ok.read, read.0, read.1)

pub returns-then-is_out_of_memory : goal.returns-then-is_out_of_memory
returns-then-is_out_of_memory c =
    let v = strip_prefix_char 118 c.args.text.now (Some c.in-Some.rest) c.in-Some.ensures.cases (lit< tt) in
    memory-version c.args.text.now c.in-Some.rest.now c.in-Err.error v c.in-Err.ensures.refused (c.is_out_of_memory.ensures.0 c.if-is_out_of_memory.true)
