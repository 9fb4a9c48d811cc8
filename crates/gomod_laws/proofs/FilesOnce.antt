-- Bytes are read in one way: as a document, as a main module's file, and as a go.sum. So `fmt` and `edit` have one
-- outcome.
use Rattle.std.proofs.Common.{◌≡◌, ◌≤◌, ◌<◌, ◌∙◌, ◌∷◌, ℕ, List, [], length, Option, Some, None, Result, Ok, Err, sym, ap, refl, arith, inl, inr}
use Rattle.std.specs.List.{filter_map}
use Rattle.std.specs.Str.{IsUtf8}
use Rattle.std.proofs.lemmas.Option.{same_Some}
use Rattle.gm_syntax_words.specs.declared.fault.SyntaxFault.TheVariants as faults
use Rattle.gm_syntax_words.specs.Words.{Word}
use Rattle.gm_syntax_words.specs.Tokens.{Placed}
use Rattle.gm_syntax.specs.Document.{Faulty, Finish, Line, Whole}
use Rattle.gm_syntax.specs.Layout.{layout}
use Rattle.gm_syntax.specs.LineViews.{plain_lines}
use Rattle.gm_syntax.specs.Parsed.{IsText}
use Rattle.gm_syntax.specs.Reader.{IsOnlyText}
use Rattle.gm_file.specs.Directives.{Strict}
use Rattle.gm_file.specs.Faults.{Fault, fault_of}
use Rattle.gm_file.specs.Main.{IsMainFile, IsMainOf, Main}
use Rattle.gm_file.specs.Misreading.{IsMisread}
use Rattle.gm_file.specs.declared.misreading.Misreading.{Misreading}
use Rattle.gm_file.specs.declared.misreading.Misreading.TheVariants as misreading
use Rattle.gm_file_edit.specs.Edits.{Edit as Change, edit_in}
use Rattle.gm_file_edit.proofs.Places.{edited-same}
use Rattle.gm_store_sums.specs.Sums.{Sums}
use Rattle.gomod_outcomes.specs.Edit.{EditEnds, applied, bad_main, edits_outcome, lines_after_all}
use Rattle.gomod_outcomes.specs.Fmt.{FmtEnds, bad_syntax, laid_out}
use Rattle.gomod_texts.specs.Outcome.{Outcome, refusal_outcome, text_outcome}
use Rattle.gomod_texts.specs.Queries.{AreInvalidSums, AreSums}
use Rattle.gomod_texts.specs.Reports.{FaultPlace, bad_sum_line, main_line}
use Rattle.gomod_texts.proofs.OneRead.{same_lines}

-- ---- a document

-- what bytes are: too many, no text, or lines that end in a given state
data Form : Type 0 where
  Long : Form
  Garbled : Form
  Ended : List (Line Word) → Finish → Form

abbrev HasForm : List ℕ → Form → Type 0
HasForm content Long = 16777216 < length content
HasForm content Garbled = (length content ≤ 16777216) × ¬ IsUtf8 content
HasForm content (Ended lines finish) = IsText content × IsOnlyText content lines finish

one_form : (content : List ℕ) (a b : Form) → HasForm content a → HasForm content b → a ≡ b
one_form content Long Long is be = refl
one_form content Long Garbled is be = absurd (omega (arith, is, be.0))
one_form content Long (Ended lines finish) is be = absurd (omega (arith, is, be.0.0))
one_form content Garbled Long is be = absurd (omega (arith, is.0, be))
one_form content Garbled Garbled is be = refl
one_form content Garbled (Ended lines finish) is be = absurd (is.1 be.0.1)
one_form content (Ended lines finish) Long is be = absurd (omega (arith, is.0.0, be))
one_form content (Ended lines finish) Garbled is be = absurd (be.1 is.0.1)
one_form content (Ended lines finish) (Ended others end) is be = let same = is.1.only others end be.1.reads in cc

-- the lines of bytes, or where they are no document
abbrev Meaning : Type 0
Meaning = Result (List (Line Word)) FaultPlace

abbrev meaning_of : Form → Meaning
meaning_of Long = Err (0, misreading.TooMany)
meaning_of Garbled = Err (0, misreading.NotUtf8)
meaning_of (Ended lines Whole) = Ok lines
meaning_of (Ended lines (Faulty number kind)) = Err (number, misreading.Syntax kind)

-- What is made of bytes by their meaning is one thing.
abbrev MadeOf : {A : Type 0} → (Meaning → A) → List ℕ → A → Type 0
MadeOf make content made = (form : Form) × HasForm content form × (make (meaning_of form) ≡ made)

made_once : {A : Type 0} (make : Meaning → A) (content : List ℕ) (a b : A) → MadeOf make content a → MadeOf make content b → a ≡ b
made_once make content a b (form, is, says) (other, be, tells) =
    sym says ∙ ap (λ f. make (meaning_of f)) (one_form _ _ _ is be) ∙ tells

-- ---- `fmt`

abbrev fmt_of : Meaning → Outcome
fmt_of (Ok lines) = text_outcome (layout lines)
fmt_of (Err place) = refusal_outcome (main_line place)

placed : {outcome : Outcome} (here place : FaultPlace) → ◌≡◌ {A = Option FaultPlace} (Some here) (Some place) → outcome ≡ refusal_outcome (main_line place)
    → refusal_outcome (main_line here) ≡ outcome
placed here place same says = ap (λ p. refusal_outcome (main_line p)) (same_Some _ _ same) ∙ sym says

formatted : (file : List ℕ) (outcome : Outcome) → FmtEnds file outcome → MadeOf fmt_of file outcome
formatted file outcome (laid_out lines parsed says) = (Ended (plain_lines lines) Whole, parsed, sym says)
formatted file outcome (bad_syntax faults.NoMemory place read named says) = absurd read
formatted file outcome (bad_syntax faults.TooMany place read named says) = (Long, read, placed _ _ named says)
formatted file outcome (bad_syntax faults.NotUtf8 place read named says) = (Garbled, read, placed _ _ named says)
formatted file outcome (bad_syntax (faults.Syntax number kind) place (text, lines, is) named says) =
    (Ended lines (Faulty number kind), (text, is), placed _ _ named says)

pub fmt_once : (file : List ℕ) (one other : Outcome) → FmtEnds file one → FmtEnds file other → one ≡ other
fmt_once file one other is be = made_once fmt_of _ _ _ (formatted _ _ is) (formatted _ _ be)

-- ---- a main module's file

abbrev unless_faulty : List (Line Word) → Option Fault → Meaning
unless_faulty lines None = Ok lines
unless_faulty lines (Some fault) = Err (fault.0, misreading.Directive fault.1)

abbrev strict_of : Meaning → Meaning
strict_of (Ok lines) = unless_faulty lines (fault_of Strict lines)
strict_of (Err place) = Err place

misread_at : (number : ℕ) (kind : Misreading) → number ≡ 0 → ◌≡◌ {A = Meaning} (Err (0, kind)) (Err (number, kind))
misread_at number kind none = ap (λ n. Err (n, kind)) (sym none)

misread : (content : List ℕ) (place : FaultPlace) → IsMisread Strict content place.0 place.1 → MadeOf strict_of content (Err place)
misread content (number, misreading.TooMany) is = (Long, is.1, misread_at _ _ is.0)
misread content (number, misreading.NotUtf8) is = (Garbled, is.1, misread_at _ misreading.NotUtf8 is.0)
misread content (number, misreading.Syntax kind) is = (Ended is.1 (Faulty number kind), (is.0, is.2), refl)
misread content (number, misreading.Directive kind) is = (Ended (plain_lines is.0) Whole, is.1, ap (unless_faulty (plain_lines is.0)) is.2)

-- an invalid file has exactly one place that is reported
pub one_place : (content : List ℕ) (a b : FaultPlace) → IsMisread Strict content a.0 a.1 → IsMisread Strict content b.0 b.1 → a ≡ b
one_place content a b is be = let same = made_once strict_of _ _ _ (misread _ a is) (misread _ b be) in cc

pub misread_or_lines : (content : List ℕ) (place : FaultPlace) (lines : List (Line Placed))
    → IsMisread Strict content place.0 place.1 → IsMainOf content lines → ⊥
misread_or_lines content place lines is (parsed, sound) =
    let read : MadeOf strict_of content (Ok (plain_lines lines)) = (Ended (plain_lines lines) Whole, parsed, ap (unless_faulty (plain_lines lines)) sound) in
    let same = made_once strict_of _ _ _ (misread _ _ is) read in cc same

pub misread_or_main : (content : List ℕ) (place : FaultPlace) (main : Main) → IsMisread Strict content place.0 place.1 → IsMainFile content main → ⊥
misread_or_main content place main is (lines, other, says) = misread_or_lines _ _ _ is other

-- ---- `edit`

-- the result of operations doesn't depend on where the tokens were
pub in_turn_same : (edits : List Change) (one other : List (Line Placed)) → plain_lines one ≡ plain_lines other
    → plain_lines (lines_after_all edits one) ≡ plain_lines (lines_after_all edits other)
in_turn_same [] one other same = same
in_turn_same (edit ∷ edits) one other same = in_turn_same edits _ _ (edited-same _ _ _ same)

printed_same : (refusals : List (ℕ × List ℕ)) (one other : List (Line Placed)) → plain_lines one ≡ plain_lines other
    → edits_outcome refusals one ≡ edits_outcome refusals other
printed_same [] one other same = ap (λ ls. text_outcome (layout ls)) same
printed_same (refusal ∷ later) one other same = refl

pub edit_once : (texts : List (List ℕ)) (file : List ℕ) (one other : Outcome) → EditEnds texts file one → EditEnds texts file other → one ≡ other
edit_once texts file one other (bad_main here misread says) (bad_main there read tells) =
    says ∙ ap (λ (place : FaultPlace). refusal_outcome (main_line place)) (one_place _ _ _ misread read) ∙ sym tells
edit_once texts file one other (bad_main here misread says) (applied lines main tells) = absurd (misread_or_lines _ _ _ misread main)
edit_once texts file one other (applied lines main says) (bad_main there read tells) = absurd (misread_or_lines _ _ _ read main)
edit_once texts file one other (applied lines main says) (applied others again tells) =
    let edits = filter_map edit_in texts in
    says ∙ printed_same _ _ _ (in_turn_same edits _ _ (same_lines _ _ _ main.0 again.0)) ∙ sym tells

-- ---- a go.sum

pub one_misreport : (sums : Option (List ℕ)) (a b : List ℕ) → AreInvalidSums sums a → AreInvalidSums sums b → a ≡ b
one_misreport None a b is be = absurd is
one_misreport (Some text) a b (inl is) (inl be) = is.1 ∙ sym be.1
one_misreport (Some text) a b (inl is) (inr be) = absurd (omega (arith, is.0, be.0))
one_misreport (Some text) a b (inr is) (inl be) = absurd (omega (arith, is.0, be.0))
one_misreport (Some text) a b (inr is) (inr be) = is.3 ∙ ap bad_sum_line (is.2.1 ∙ sym be.2.1) ∙ sym be.3

pub misread_or_sums : (sums : Option (List ℕ)) (report : List ℕ) (table : Option Sums) → AreInvalidSums sums report → AreSums sums table → ⊥
misread_or_sums None report table is are = is
misread_or_sums (Some text) report None is are = are
misread_or_sums (Some text) report (Some table) (inl is) are = omega (arith, is.0, are.0)
misread_or_sums (Some text) report (Some table) (inr is) are = let first = is.2.0 in let good = are.1 in omega (arith, first, good)
