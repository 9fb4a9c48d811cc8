use Rattle.std.proofs.Common.{◌+◌, ◌++◌, codes, drop, ap, ◌∙◌, sym, refl, arith}
use Rattle.std.proofs.lemmas.Str.Pattern.{rfind_char}
use Rattle.gm_store.specs.Relative.{at_root, below_folder, here}
use Rattle.gm_store.proofs.MainFolder.{take_drop-at, no_later_slash, no_slash_anywhere, whole_take}
use Rattle.gm_store.proofs.folders.main_folder.folder_text.Goals as goal

pub returns-in-None : goal.returns-in-None
returns-in-None c =
    let none = rfind_char 47 c.args.file.now c.rfind.result c.rfind.ensures.cases (omega arith) in
    here (no_slash_anywhere c.args.file.now (rw c.in-None.is at none)) refl

pub returns-in-Some-eq0 : goal.returns-in-Some-eq0
returns-in-Some-eq0 c =
    let told = rfind_char 47 c.args.file.now c.rfind.result c.rfind.ensures.cases (omega arith) in
    let last = rw (c.in-Some-eq0.is, c.in-Some-eq0.field-0-test) at told in
    at_root (drop 1 c.args.file.now) (take_drop-at c.args.file.now 0 last.0 last.1) (no_later_slash c.args.file.now 0 last.0 last.2) refl

pub returns-in-Some : goal.returns-in-Some
returns-in-Some c =
    let told = rfind_char 47 c.args.file.now c.rfind.result c.rfind.ensures.cases (omega arith) in
    let last = rw c.in-Some.is at told in
    let at = c.in-Some.at in
    let some = c.in-Some.at-test.1 in
    let counted = c.range.ensures.len in
    below_folder (drop (at + 1) c.args.file.now) (omega arith)
    (take_drop-at c.args.file.now at last.0 last.1 ∙ ap
    (λ front. front ++ codes "/" ++ drop (at + 1) c.args.file.now)
    (whole_take c.args.file.now at ∙ sym c.range.ensures.value)) (no_later_slash c.args.file.now at last.0 last.2)
