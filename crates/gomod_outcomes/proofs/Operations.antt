-- Operations of `edit`.
use Rattle.std.proofs.Common.{◌≡◌, ◌∙◌, ◌∷◌, ◌+◌, ℕ, Bool, List, [], IfErr, Option, Some, None, Ok, Err, Result, ap, codes, false, if◌then◌else◌, inl, inr, refl, true}
use Rattle.std.specs.Prelude.{IsErrAnd, IsOk, OnOk}
use Rattle.std.specs.List.{cons_option, filter_map}
use Rattle.gm_syntax_words.specs.Tokens.{Placed}
use Rattle.gm_syntax.specs.Document.{Line}
use Rattle.gm_syntax.specs.Layout.{layout}
use Rattle.gm_syntax.specs.LineViews.{plain_lines}
use Rattle.gm_file_edit.specs.Edited.{lines_after}
use Rattle.gm_file_edit.specs.Edits.{Edit, edit_in}
use Rattle.gm_file_edit.specs.Kinds.{is_fit}
use Rattle.gm_file_edit.specs.declared.fault.EditFault.{EditFault}
use Rattle.gm_file_edit.specs.declared.fault.EditFault.TheVariants.{NoMemory, Misfit}
use Rattle.gomod_texts.specs.Outcome.{OrNoMemory, Outcome, text_outcome, refusal_outcome, report_outcome}
use Rattle.gm_file.specs.Main.{IsMainOf}
use Rattle.gm_file.specs.Misreading.{IsMisread}
use Rattle.gm_file.specs.Directives.{Strict}
use Rattle.gomod_texts.specs.Reports.{FaultPlace, main_line}
use Rattle.gomod_texts.specs.declared.reports.report.Report.{Report}
use Rattle.gomod_outcomes.specs.Edit.{EditEnds, applied, bad_main, lines_after_all, refusal_of, refusals_from}
use Rattle.gomod_outcomes.specs.Private.Refusals.{IsRefusedOperation, report_by_edit}

-- an operation that has been parsed and is not applied
pub not_applied : (number : ℕ) (text : List ℕ) (edit : Edit) (fault : EditFault) (told : Report)
    → edit_in text ≡ Some edit → (◌≡◌ {A = Result (Unit {0}) EditFault} (Err fault) (Err Misfit) → is_fit edit ≡ false)
    → told ≡ report_by_edit number fault → OrNoMemory (IsRefusedOperation number (edit_in text)) (report_outcome told)
not_applied number text edit NoMemory told parsed misfit is = inr (ap report_outcome is)
not_applied number text edit Misfit told parsed misfit is =
    let unfit : refusal_of (Some edit) ≡ Some (codes "Misfit") = ap (λ fit. if fit then None else Some (codes "Misfit")) (misfit refl) in
    inl (codes "Misfit", ap refusal_of parsed ∙ unfit, ap report_outcome is)

-- what a fit operation is refused for
fits : (fit : Bool) → (fit ≡ false → ⊥) → (if fit then None else Some (codes "Misfit")) ≡ None
fits true fit = refl
fits false fit = absurd (fit refl)

-- an operation that was parsed, by the result of applying it
module _ (number : ℕ) (text : List ℕ) (edit : Edit) (parsed : edit_in text ≡ Some edit) where
  pub op_accepted : (made : Result (Unit {0}) EditFault) (result : Result (Unit {0}) Report) → OnOk result (IsOk made)
      → (is_fit edit ≡ false → ◌≡◌ {A = Result (Unit {0}) EditFault} made (Err Misfit)) → OnOk result (refusal_of (edit_in text) ≡ None)
  op_accepted made (Err told) ok unfit = tt
  op_accepted (Err fault) (Ok u) ok unfit = absurd (cc ok)
  op_accepted (Ok v) (Ok u) ok unfit = ap refusal_of parsed ∙ fits _ (λ e. absurd (cc (unfit e)))

  pub op_applied : (old new : List (Line Placed)) (made : Result (Unit {0}) EditFault) (result : Result (Unit {0}) Report) → OnOk result (IsOk made)
      → OnOk made (new ≡ lines_after edit old) → OnOk result (new ≡ lines_after_all (filter_map edit_in (text ∷ [])) old)
  op_applied old new made (Err told) ok is = tt
  op_applied old new (Err fault) (Ok u) ok is = absurd (cc ok)
  op_applied old new (Ok v) (Ok u) ok is = rw parsed is

  pub op_refused : (made : Result (Unit {0}) EditFault) (result : Result (Unit {0}) Report)
      → IfErr result (λ told. IsErrAnd made (λ fault. told ≡ report_by_edit number fault))
      → (◌≡◌ {A = Result (Unit {0}) EditFault} made (Err Misfit) → is_fit edit ≡ false)
      → IfErr result (λ told. OrNoMemory (IsRefusedOperation number (edit_in text)) (report_outcome told))
  op_refused made (Ok u) err unfit = tt
  op_refused (Ok v) (Err told) err unfit = absurd err
  op_refused (Err fault) (Err told) err unfit = not_applied number text _ fault _ parsed unfit err

-- ---- the operations in turn

-- one that is accepted has no refusal
pub next_refusals : (number : ℕ) (text : List ℕ) (later : List (List ℕ)) → refusal_of (edit_in text) ≡ None
    → refusals_from number (text ∷ later) ≡ refusals_from (number + 1) later
next_refusals number text later none = rw none

-- those after it apply to what it left
pub next_lines : (text : List ℕ) (later : List (List ℕ)) (lines : List (Line Placed)) → lines_after_all (filter_map edit_in (text ∷ later)) lines
    ≡ lines_after_all (filter_map edit_in later) (lines_after_all (filter_map edit_in (text ∷ [])) lines)
next_lines text later lines = by_option _
  where
    by_option : (o : Option Edit) → lines_after_all (cons_option o (filter_map edit_in later)) lines
        ≡ lines_after_all (filter_map edit_in later) (lines_after_all (cons_option o []) lines)
    by_option None = refl
    by_option (Some edit) = refl

-- ---- how `edit` ends

-- the first fault of the file is reported
pub bad_file : (texts : List (List ℕ)) (file : List ℕ) (outcome : Outcome)
    → OrNoMemory (λ outcome. (place : FaultPlace) × IsMisread Strict file place.0 place.1
    × (outcome ≡ refusal_outcome (main_line place))) outcome
    → OrNoMemory (EditEnds texts file) outcome
bad_file texts file outcome (inl (place, misread, says)) = inl (bad_main place misread says)
bad_file texts file outcome (inr memory) = inr memory

-- the first operation that is refused is reported
pub one_refused : (texts : List (List ℕ)) (file : List ℕ) (lines : List (Line Placed)) (number : ℕ) (text : List ℕ)
    (later : List (List ℕ)) (outcome : Outcome) → IsMainOf file lines
    → refusals_from 1 texts ≡ refusals_from number (text ∷ later)
    → OrNoMemory (IsRefusedOperation number (edit_in text)) outcome → OrNoMemory (EditEnds texts file) outcome
one_refused texts file lines number text later outcome main same (inl (kind, is, says)) =
    inl (applied lines main (rw (same, is) says))
one_refused texts file lines number text later outcome main same (inr memory) = inr memory

-- no operation is refused, and the layout of what they leave is printed
pub all_applied : (texts : List (List ℕ)) (file : List ℕ) (lines last : List (Line Placed)) (text : List ℕ) → IsMainOf file lines → refusals_from 1 texts ≡ []
    → lines_after_all (filter_map edit_in texts) lines ≡ last → text ≡ layout (plain_lines last) → EditEnds texts file (text_outcome text)
all_applied texts file lines last text main none same is =
    applied _ main (rw (none, same) (ap text_outcome is))
