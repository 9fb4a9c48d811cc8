use Rattle.std.proofs.Common.{ℕ, List, Some, Err, ap, subst, sym, ◌∙◌}
use Rattle.std.proofs.lemmas.Result.{err_from_is_err_and}
use Rattle.gm_file.specs.declared.fault.DirectiveKind.TheVariants.{WrongArguments}
use Rattle.gm_file.specs.Faults.{path_kinds}
use Rattle.gm_file.specs.Private.Reading.{IsPartRead, left_text_view}
use Rattle.gm_file.proofs.Arrows.{left-path-fault, left-version-fault, right-path-fault, right-version-fault, sound-part}
use Rattle.gm_file.proofs.Keeping.{keeps_both}
use Rattle.gm_file.proofs.sides.replace_by_module.Goals as goal

pub returns-in_err-left_path-clause-read : goal.returns-in_err-left_path-clause-read
returns-in_err-left_path-clause-read c =
    let p = err_from_is_err_and c.from_residual.result c.from_residual.ensures.1 in
    rw (p.1, p.2) (left-path-fault (left_text_view c.args.left.now) c.args.path.now c.args.version.now c.in_err-left_path.field-0.0
    (subst (λ (text : List ℕ). IsPartRead {X = List ℕ} {Y = List ℕ} (λ x. x) WrongArguments path_kinds (Some text)
    (Err c.in_err-left_path.field-0.0)) c.as_str.ensures.value c.in_err-left_path.ensures.read))

pub returns-in_err-path-clause-read : goal.returns-in_err-path-clause-read
returns-in_err-path-clause-read c =
    let p = err_from_is_err_and c.from_residual-in_err-path.result c.from_residual-in_err-path.ensures.1 in
    rw (p.1, p.2) (right-path-fault (left_text_view c.args.left.now) c.args.path.now c.args.version.now c.in_err-path.field-0.0
    (sound-part path_kinds _ _ (ap Some (sym c.as_str.ensures.value) ∙ c.in_ok-left_path.ensures.read.0)
    c.in_ok-left_path.ensures.read.1) c.in_err-path.ensures.read)

pub returns-in_err-left_version-clause-read : goal.returns-in_err-left_version-clause-read
returns-in_err-left_version-clause-read c =
    let p = err_from_is_err_and c.from_residual-in_err-left_version.result c.from_residual-in_err-left_version.ensures.1 in
    rw (p.1, p.2) (left-version-fault (left_text_view c.args.left.now) c.args.path.now c.args.version.now c.in_err-left_version.field-0.0
    (sound-part path_kinds _ _ (ap Some (sym c.as_str.ensures.value) ∙ c.in_ok-left_path.ensures.read.0) c.in_ok-left_path.ensures.read.1)
    (sound-part path_kinds _ _ c.in_ok-path.ensures.read.0 c.in_ok-path.ensures.read.1) c.in_err-left_version.ensures.read)

pub returns-in_err-version-clause-read : goal.returns-in_err-version-clause-read
returns-in_err-version-clause-read c =
    let p = err_from_is_err_and c.from_residual-in_err-version.result c.from_residual-in_err-version.ensures.1 in
    rw (p.1, p.2) (right-version-fault (left_text_view c.args.left.now) c.args.path.now c.args.version.now _ _ _ c.in_err-version.field-0.0
    (ap Some (sym c.as_str.ensures.value) ∙ c.in_ok-left_path.ensures.read.0) c.in_ok-left_path.ensures.read.1
    c.in_ok-path.ensures.read.0 c.in_ok-path.ensures.read.1 c.in_ok-left_version.ensures.read.0
    c.in_ok-left_version.ensures.read.1 c.in_err-version.ensures.read)

pub returns-in_err-left_version-clause-kept : goal.returns-in_err-left_version-clause-kept
returns-in_err-left_version-clause-kept c = keeps_both (keeps_both c.read_path.ensures.kept c.read_path-2.ensures.kept) c.read_left_version.ensures.kept

pub returns-in_err-version-clause-kept : goal.returns-in_err-version-clause-kept
returns-in_err-version-clause-kept c = keeps_both (keeps_both
    (keeps_both c.read_path.ensures.kept c.read_path-2.ensures.kept) c.read_left_version.ensures.kept)
    c.read_version.ensures.kept

pub returns-then-not-does_left_fit-clause-kept : goal.returns-then-not-does_left_fit-clause-kept
returns-then-not-does_left_fit-clause-kept c = keeps_both
    (keeps_both (keeps_both c.read_path.ensures.kept c.read_path-2.ensures.kept) c.read_left_version.ensures.kept)
    c.read_version.ensures.kept

pub returns-clause-kept : goal.returns-clause-kept
returns-clause-kept c = keeps_both (keeps_both (keeps_both c.read_path.ensures.kept c.read_path-2.ensures.kept)
    c.read_left_version.ensures.kept) c.read_version.ensures.kept
