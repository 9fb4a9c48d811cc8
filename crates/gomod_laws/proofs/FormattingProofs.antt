-- The proofs of the laws of formatting.
use Rattle.std.proofs.Common.{◌≡◌, ◌≤◌, ℕ, List, [], length, None, Ok, refl, sym, ap, subst, ◌∙◌, IsUtf8}
use Rattle.gm_syntax_words.specs.Tokens.{Placed}
use Rattle.gm_syntax.specs.Document.{Line}
use Rattle.gm_syntax.specs.Layout.{layout}
use Rattle.gm_syntax.specs.LineViews.{plain_lines}
use Rattle.gm_syntax.specs.Parsed.{IsParsedAs}
use Rattle.gm_file.specs.Directives.{Strict, directives}
use Rattle.gm_file.specs.Fields.{first}
use Rattle.gm_file.specs.Main.{Main, IsMainFile}
use Rattle.gomod_texts.specs.Queries.{longest}
use Rattle.gomod_texts.specs.Outcome.{Outcome, text_outcome}
use Rattle.gomod_texts.proofs.OneRead.{same_lines}
use Rattle.gomod_words.specs.declared.usage.Command.TheVariants.{Fmt}
use Rattle.gomod_outcomes.specs.Fmt.{FmtEnds, bad_syntax, laid_out}
use Rattle.gomod_laws.proofs.FilesOnce.{fmt_once}
use Rattle.gomod_laws.specs.FormattingLaws.{FormattingChangesNoBuild, IsFormatted, LayoutsAreFormatted}
use Rattle.gomod_laws.proofs.Ended.{Ends}
use Rattle.gomod_laws.proofs.FormattingBlanks.{main_said, no_fault_again, same_said}
use Rattle.gomod_laws.proofs.FormattingRead.{parsed_layout}
use Rattle.gomod_laws.proofs.LineOrderProofs.{queries_move}
use Rattle.gomod_laws.proofs.LineOrderRuns.{same_outcome}
use Rattle.gomod_laws.proofs.LineOrderSame.{says_itself}
use Rattle.gomod_texts.proofs.PrintedList.{not_refused}

-- ---- what a main file says

-- a main file and its layout say the same
pub layout_main : (file : List ℕ) (lines : List (Line Placed)) (main : Main) → IsParsedAs file (Ok lines)
    → IsUtf8 (layout (plain_lines lines)) → length (layout (plain_lines lines)) ≤ longest → IsMainFile file main
    → IsMainFile (layout (plain_lines lines)) main
layout_main file lines main parsed utf8 short (others, (read, sound), says) =
    let layout_is = parsed_layout _ _ parsed utf8 short in
    let same = same_lines _ _ _ read parsed in
    let none = rw same at sound in
    let said =
    same_said (plain_lines lines) (plain_lines layout_is.doc) layout_is.same_filled ∙ ap (directives Strict) (sym same) in
    (layout_is.doc, (layout_is.parsed, no_fault_again _ _ layout_is.same_filled none), ap main_said said ∙ says)

-- ---- what `fmt` prints

-- `fmt` prints the layout of the lines that were read
pub record IsLayoutOf (file text : List ℕ) : Type 0 where
  pub lines : List (Line Placed)
  pub parsed : IsParsedAs file (Ok lines)
  pub text_is : text ≡ layout (plain_lines lines)

laid : (file text : List ℕ) → FmtEnds file (text_outcome text) → IsLayoutOf file text
laid file text (laid_out lines parsed says) = record { lines = lines; parsed = parsed; text_is = ap (λ o. o.text) says }
laid file text (bad_syntax fault place parsed named says) = absurd (not_refused _ _ says refl)

pub fmt_printed : (file text : List ℕ) → IsFormatted file text → IsLayoutOf file text
fmt_printed file text has = laid _ _ has.0

pub formatting_changes_no_build : FormattingChangesNoBuild
formatting_changes_no_build command file text main sums asked answered before after query is formatted short alike one two =
    let found = fmt_printed _ _ formatted in
    let low : length (layout (plain_lines found.lines)) ≤ longest = rw found.text_is at short in
    let also : IsMainFile text main = rw found.text_is (layout_main _ _ _ found.parsed (subst IsUtf8 found.text_is formatted.1) low is) in
    same_outcome _ _ _ _ _ _ _ _ query (queries_move file text sums main main is also (says_itself _)) alike one.0 two.0

-- the only outcome of `fmt` is the layout of the lines
pub fmt_is : (file : List ℕ) (lines : List (Line Placed)) (outcome : Outcome) → IsParsedAs file (Ok lines)
    → Ends Fmt file None [] outcome → text_outcome (layout (plain_lines lines)) ≡ outcome
fmt_is file lines outcome parsed has = fmt_once _ _ _ (laid_out _ parsed refl) has

pub layouts_are_formatted : LayoutsAreFormatted
layouts_are_formatted file text formatted first short again =
    let found = fmt_printed _ _ first in
    let low : length (layout (plain_lines found.lines)) ≤ longest = rw found.text_is at short in
    let read = parsed_layout _ _ found.parsed (subst IsUtf8 found.text_is first.1) low in
    let parsed : IsParsedAs text (Ok read.doc) = subst (λ (t : List ℕ). IsParsedAs t (Ok read.doc)) (sym found.text_is) read.parsed in
    sym (fmt_is _ _ _ parsed again.0) ∙ ap text_outcome (read.same_layout ∙ sym found.text_is)
