use Rattle.std.proofs.Common.{List, sym, ◌≡◌, ℕ}
use Rattle.std.proofs.lemmas.Result.{IfOk-weaker}
use Rattle.std.proofs.lemmas.Str.{IsUtf8-nil}
use Rattle.std.specs.Option.{option_copied}
use Rattle.std.specs.Str.{IsUtf8}
use Rattle.gm_syntax_words.specs.Tokens.{Placed}
use Rattle.gm_syntax.specs.Document.{Line}
use Rattle.gm_file.specs.Main.{IsMainFile, IsMainOf, Main, main_of}
use Rattle.gomod_outcomes.specs.Runs.{ComesTo}
use Rattle.gomod_outcomes.proofs.CommandOutcomes.{loading_comes, main_told, refused_read, sums_told}
use Rattle.gomod_outcomes.proofs.PassedOn.{passed_text}
use Rattle.gomod_outcomes.proofs.Utf8Texts.{comes_utf8}
use Rattle.gomod_outcomes.proofs.queries.answering.answer.Goals as goal

pub returns-in_err-read_bytes-clause-comes : goal.returns-in_err-read_bytes-clause-comes
returns-in_err-read_bytes-clause-comes g c =
    passed_text (ComesTo _ _ _ _ _ _ _) _ _ c.from_residual.ensures.1
    (refused_read c.args.query _ _ _ _ _ c.requires
    (main_told c.args.file.now (option_copied c.args.sums) c.in_err-read_bytes.field-0.0 c.in_err-read_bytes.ensures.fault))

valid : (bytes : List ℕ) (lines : List (Line Placed)) (main : Main) → IsMainOf bytes lines → main ≡ main_of lines → IsMainFile bytes main
valid bytes lines main is said = (lines, is, sym said)

pub returns-in_err-table-clause-comes : goal.returns-in_err-table-clause-comes
returns-in_err-table-clause-comes g c =
    passed_text (ComesTo _ _ _ _ _ _ _) _ _ c.from_residual-in_err-table.ensures.1
    (refused_read c.args.query _ _ _ _ _ c.requires
    (sums_told c.args.file.now (option_copied c.args.sums) _ _ (valid _ _ _ c.in_ok-read_bytes.ensures.ok c.into_module-main.ensures) c.in_err-table.ensures))

pub loaded_outcome-requires : goal.loaded_outcome-requires
loaded_outcome-requires g c = IfOk-weaker c.load_module-loaded.result _ _ (λ loaded is. is.main_is) c.load_module-loaded.ensures.loaded

pub returns-clause-comes : goal.returns-clause-comes
returns-clause-comes g c =
    let load = rw c.as_ref.ensures.value at c.load_module-loaded.ensures in
    loading_comes c.args.query _ _ _ _ (record { main_file = valid _ _ _ c.in_ok-read_bytes.ensures.ok c.into_module-main.ensures; sums = c.in_ok-table.ensures }) _ _ _ _ load.asks load.served
    c.load_module-loaded.result _ load.loaded load.too_many load.device load.refused c.loaded_outcome.ensures

pub returns-in_err-read_bytes-clause-utf8 : goal.returns-in_err-read_bytes-clause-utf8
returns-in_err-read_bytes-clause-utf8 g c = passed_text (λ outcome. IsUtf8 outcome.text) _ _ c.from_residual.ensures.1 IsUtf8-nil

pub returns-in_err-table-clause-utf8 : goal.returns-in_err-table-clause-utf8
returns-in_err-table-clause-utf8 g c = passed_text (λ outcome. IsUtf8 outcome.text) _ _ c.from_residual-in_err-table.ensures.1 IsUtf8-nil

pub returns-clause-utf8 : goal.returns-clause-utf8
returns-clause-utf8 g c =
    comes_utf8 c.args.query _ _ _ _ _ _ _ _ (valid _ _ _ c.in_ok-read_bytes.ensures.ok c.into_module-main.ensures) c.folders_are_utf8.ensures (returns-clause-comes g c)
