use Rattle.std.proofs.Common.{◌≡◌, None, Some, lit<, sym, ◌∙◌}
use Rattle.std.proofs.lemmas.Str.Pattern.{split_once_first}
use Rattle.gm_file.specs.GoVersions.{last_number, second_number}
use Rattle.gm_file.proofs.GoTexts.{dot-none, second-cut}
use Rattle.gm_file.proofs.go_version.second_number.Goals as goal

pub returns-in-None : goal.returns-in-None
unfolding second_number
returns-in-None c =
    let none = split_once_first 46 c.args.text.now None c.in-None.ensures.cases (lit< tt) in
    rw (dot-none c.args.text.now none) c.last_number.ensures

pub returns-in_err-last_number-in-Some : goal.returns-in_err-last_number-in-Some
returns-in_err-last_number-in-Some c =
    let some = split_once_first 46 c.args.text.now (Some (c.in-Some.second, c.in-Some.third)) c.in-Some.ensures.cases (lit< tt) in
    let cut = second-cut c.args.text.now c.in-Some.second.now c.in-Some.third.now some.0 some.1 some.2 in
    let given : last_number c.in-Some.third.now ≡ None = sym c.last_number-in-Some.ensures ∙ c.in_err-last_number-in-Some.was in
    rw (cut, given) c.from_residual.ensures

pub returns-in_ok-last_number-in-Some : goal.returns-in_ok-last_number-in-Some
returns-in_ok-last_number-in-Some c =
    let some = split_once_first 46 c.args.text.now (Some (c.in-Some.second, c.in-Some.third)) c.in-Some.ensures.cases (lit< tt) in
    let cut = second-cut c.args.text.now c.in-Some.second.now c.in-Some.third.now some.0 some.1 some.2 in
    let given : last_number c.in-Some.third.now ≡ Some c.in_ok-last_number-in-Some.field-0 =
    sym c.last_number-in-Some.ensures ∙ c.in_ok-last_number-in-Some.was in
    rw (cut, given) c.small_number.ensures
