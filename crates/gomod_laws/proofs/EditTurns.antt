-- What `edit` makes of the lines of a file, operation by operation, and what its text reads as.
use Rattle.std.proofs.Common.{◌≡◌, ◌≤◌, ◌∙◌, ◌++◌, ◌+◌, ℕ, true, List, [], ◌∷◌, length, Option, None, Some, Ok, IsUtf8, ap, inl, inr, refl, subst, sym}
use Rattle.std.specs.Global.{Global, Vec}
use Rattle.std.specs.List.{filter_map}
use Rattle.std.specs.Option.{option_map, option_to_list}
use Rattle.std.specs.Prelude.{String, codes}
use Rattle.std.proofs.lemmas.Bool.{cases_Bool}
use Rattle.std.proofs.lemmas.Option.{same_Some}
use Rattle.gm_syntax_words.specs.Tokens.{Placed}
use Rattle.gm_syntax.specs.Document.{IsDocument, Line}
use Rattle.gm_syntax.specs.Layout.{layout}
use Rattle.gm_syntax.specs.LineViews.{plain_lines}
use Rattle.gm_syntax.specs.Parsed.{IsParsedAs}
use Rattle.gm_file.specs.Directives.{Strict}
use Rattle.gm_file.specs.Faults.{fault_of}
use Rattle.gm_file.specs.Main.{IsMainOf}
use Rattle.gm_file_edit.specs.Edited.{lines_after}
use Rattle.gm_file_edit.specs.Edits.{Edit as Operation, edit_in}
use Rattle.gm_file_edit.specs.Kinds.{is_fit}
use Rattle.gm_file_edit_laws.specs.Laws.{IsEditOf, directives_of}
use Rattle.gm_file_edit.proofs.EditedSound.{edited-document}
use Rattle.gm_file_edit.proofs.Written.{written-sound}
use Rattle.gomod_outcomes.specs.Edit.{applied, bad_main, lines_after_all, edits_outcome, refusal_of, refusals_from}
use Rattle.gomod_texts.specs.Outcome.{Outcome, text_outcome, refusal_outcome}
use Rattle.gomod_texts.specs.Queries.{longest}
use Rattle.gomod_texts.specs.Reports.{edit_line}
use Rattle.gomod_texts.proofs.FolderNames.{read_document}
use Rattle.gomod_words.specs.Usage.{texts_in}
use Rattle.gomod_laws.specs.Runs.{IsEdited}
use Rattle.gomod_laws.proofs.FormattingBlanks.{no_fault_again, same_said}
use Rattle.gomod_laws.proofs.FormattingRead.{layout_read}
use Rattle.gomod_texts.proofs.PrintedList.{not_refused}

-- the lines that operations leave
abbrev pub turned : List (List ℕ) → List (Line Placed) → List (Line Placed)
turned texts lines = lines_after_all (filter_map edit_in texts) lines

-- what `edit` does with operations, the first of which has this number, if those before them leave these lines
abbrev pub outcome_from : ℕ → List (List ℕ) → List (Line Placed) → Outcome
outcome_from number texts lines = edits_outcome (refusals_from number texts) (turned texts lines)

-- what is known of lines between two operations
abbrev pub AreSoundLines : List (Line Placed) → Type 0
AreSoundLines lines = IsDocument (plain_lines lines) × (fault_of Strict (plain_lines lines) ≡ None)

-- the lines of a main file
pub read_sound : (file : List ℕ) (lines : List (Line Placed)) → IsMainOf file lines → AreSoundLines lines
read_sound file lines (parsed, faultless) = (read_document _ _ parsed.1.reads, faultless)

pub edit_sound : (edit : Operation) (lines : List (Line Placed)) → IsEditOf edit lines → AreSoundLines (lines_after edit lines)
edit_sound edit lines is = edited-document _ _ (written-sound _ _ is.0.1) is.1 is.2 is.3

-- ---- one operation

-- an operation is refused, or it is taken
pub data IsTurn (text : List ℕ) : Type 0 where
  is_refused : (kind : List ℕ) → refusal_of (edit_in text) ≡ Some kind → IsTurn text
  is_taken : (operation : Operation) → edit_in text ≡ Some operation → is_fit operation ≡ true → IsTurn text

pub turn_of : (text : List ℕ) → IsTurn text
turn_of text = by_operation _ refl
  where
    by_operation : (read : Option Operation) → edit_in text ≡ read → IsTurn text
    by_operation None written = is_refused _ (ap refusal_of written)
    by_operation (Some operation) written = elim (cases_Bool _) [
      | inl fit ↦ is_taken _ written fit
      | inr misfit ↦ is_refused (codes "Misfit") (rw (written, misfit) refl)
    ]

pub refused_turn : (number : ℕ) (kind text : List ℕ) (texts : List (List ℕ)) (lines : List (Line Placed))
    → refusal_of (edit_in text) ≡ Some kind → outcome_from number (text ∷ texts) lines
    ≡ refusal_outcome (edit_line (number, kind))
refused_turn number kind text texts lines is =
    ap (λ k. edits_outcome (option_to_list (option_map (λ why. (number, why)) k)
    ++ refusals_from (number + 1) texts) (turned (text ∷ texts) lines)) is

pub taken_turn : (number : ℕ) (text : List ℕ) (texts : List (List ℕ)) (lines : List (Line Placed))
    (operation : Operation) → edit_in text ≡ Some operation → is_fit operation ≡ true
    → outcome_from number (text ∷ texts) lines ≡ outcome_from (number + 1) texts (lines_after operation lines)
taken_turn number text texts lines operation written fit = rw (written, fit) refl

-- ---- operations of which none is refused

-- these lines are left by the operations so far, and `edit` prints the text with the others
pub record PrintsFrom (texts : List (List ℕ)) (text : List ℕ) (lines : List (Line Placed)) : Type 0 where
  pub sound : AreSoundLines lines
  pub number : ℕ
  pub prints : outcome_from number texts lines ≡ text_outcome text

-- the first operation is taken
abbrev IsNext : List ℕ → List (List ℕ) → List ℕ → List (Line Placed) → Operation → Type 0
IsNext first texts text lines operation = (edit_in first ≡ Some operation) × IsEditOf operation lines × PrintsFrom texts text (lines_after operation lines)

next : (first : List ℕ) (texts : List (List ℕ)) (text : List ℕ) (lines : List (Line Placed))
    → PrintsFrom (first ∷ texts) text lines → (operation : Operation) × IsNext first texts text lines operation
next first texts text lines from = elim (turn_of first) [
  | is_refused kind is ↦ absurd (not_refused _ _ (sym from.prints ∙ refused_turn from.number _ _ _ lines is) refl)
  | is_taken operation written fit ↦
      let edit : IsEditOf operation lines = ((first, written), fit, from.sound.0, from.sound.1) in
      let prints = sym (taken_turn from.number _ texts lines _ written fit) ∙ from.prints in
      (operation, (written, edit, record { sound = edit_sound _ _ edit; number = from.number + 1; prints = prints }))
]

pub next_is : (first : List ℕ) (texts : List (List ℕ)) (text : List ℕ) (lines : List (Line Placed))
    (operation : Operation) → edit_in first ≡ Some operation → PrintsFrom (first ∷ texts) text lines
    → IsNext first texts text lines operation
next_is first texts text lines operation written from =
    let (other, is) = next _ _ _ _ from in
    subst (IsNext first texts text lines) (same_Some _ _ (sym is.0 ∙ written)) is

after_all : (earlier rest : List (List ℕ)) (text : List ℕ) (lines : List (Line Placed))
    → PrintsFrom (earlier ++ rest) text lines → PrintsFrom rest text (turned earlier lines)
after_all [] rest text lines from = from
after_all (first ∷ earlier) rest text lines from =
    let (operation, is) = next _ _ _ _ from in
    let turn : turned (first ∷ earlier) lines ≡ turned earlier (lines_after operation lines) = rw is.0 refl in
    subst (PrintsFrom rest text) (sym turn) (after_all earlier _ text _ is.2)

-- ---- what `edit` prints

-- the lines of the file, and what is left to do after the first operations
pub edited_from : (operations : Vec (String Global)) (earlier rest : List (List ℕ)) (file text : List ℕ)
    → texts_in operations ≡ earlier ++ rest → IsEdited operations file text
    → (lines : List (Line Placed)) × IsMainOf file lines × PrintsFrom rest text (turned earlier lines)
edited_from operations earlier rest file text given prints = elim (rw given at prints.0) [
  | bad_main place malformed says ↦ absurd (not_refused _ _ says refl)
  | applied lines main says ↦ (lines, main, after_all _ _ _ _ (record { sound = read_sound _ _ main; number = 1; prints = sym says }))
]

-- a text that is the layout of sound lines reads as lines that hold the same directives
pub text_lines : (lines : List (Line Placed)) (text : List ℕ) → PrintsFrom [] text lines → IsUtf8 text → length text ≤ longest
    → (doc : List (Line Placed)) × IsMainOf text doc × (directives_of doc ≡ directives_of lines)
text_lines lines text from utf8 short =
    let is : layout (plain_lines lines) ≡ text = ap (λ o. o.text) from.prints in
    let read = layout_read _ from.sound.0 (subst IsUtf8 (sym is) utf8) (rw is short) in
    let parsed : IsParsedAs text (Ok read.doc) = subst (λ t. IsParsedAs t (Ok read.doc)) is read.parsed in (
      read.doc,
      (parsed, no_fault_again _ _ read.same_filled from.sound.1),
      same_said (plain_lines lines) (plain_lines read.doc) read.same_filled,
    )
