use Rattle.std.proofs.Common.{◌≡◌, ◌∙◌, ◌+◌, ◌∷◌, ℕ, List, ap, arith, drop, inl, map, refl, rules, string_bytes, sym}
use Rattle.std.proofs.Math.ListN.{drop_of_length-le}
use Rattle.std.specs.List.{filter_map}
use Rattle.gm_file_edit.specs.Edits.{edit_in}
use Rattle.gm_marked_items.proofs.Kept.{drop-next}
use Rattle.gomod_outcomes.specs.Edit.{EditEnds, lines_after_all, refusals_from}
use Rattle.gomod_texts.specs.Outcome.{OrNoMemory}
use Rattle.gomod_outcomes.proofs.Operations.{all_applied, bad_file, next_lines, next_refusals, one_refused}
use Rattle.gomod_outcomes.proofs.PassedOn.{passed}
use Rattle.gomod_outcomes.proofs.edit.edit_outcome.Goals as goal
use Rattle.gomod_outcomes.proofs.edit.edit_outcome.Goals.{After-as_str}

pub returns-in_err-editor : goal.returns-in_err-editor
returns-in_err-editor c =
    passed (OrNoMemory (EditEnds (map string_bytes c.args.operations.now) c.args.file.now)) c.in_err-editor.field-0.0
    c.from_residual.result c.from_residual.ensures.1 (bad_file _ _ _ c.in_err-editor.ensures)

pub loop-n-init : goal.loop-n-init
loop-n-init c = record { refusals = refl; lines = refl }

-- the text of this operation, and those of the later ones
texts : (c : After-as_str) → map string_bytes (drop c.loop-n.n c.args.operations.now)
    ≡ c.as_str.result.now ∷ map string_bytes (drop (c.loop-n.n + 1) c.args.operations.now)
texts c =
    ap (map string_bytes) (drop-next c.args.operations.now c.loop-n.n c.index-operations-n.result c.loop-n-test.true c.index-operations-n.is)
    ∙ ap (λ (text : List ℕ). text ∷ map string_bytes (drop (c.loop-n.n + 1) c.args.operations.now)) (sym c.as_str.ensures.value)

pub loop-n-preserved : goal.loop-n-preserved
loop-n-preserved c =
    let n = c.loop-n.n in
    let later = map string_bytes (drop (n + 1) c.args.operations.now) in
    let here = texts (goal.at.loop-n-preserved c).After-as_str in
    record {
      refusals = c.loop-n.invariant.refusals ∙ ap (refusals_from (n + 1)) here
          ∙ next_refusals (n + 1) c.as_str.result.now later c.in_ok-apply_text.ensures.accepted;
      lines = c.loop-n.invariant.lines ∙ ap (λ (rest : List (List ℕ)). lines_after_all (filter_map edit_in rest) c.loop-n.editor) here
          ∙ next_lines c.as_str.result.now later c.loop-n.editor ∙ ap (lines_after_all (filter_map edit_in later)) (sym c.in_ok-apply_text.ensures.applied);
    }

pub returns-in_err-apply_text : goal.returns-in_err-apply_text
returns-in_err-apply_text c =
    let same = c.loop-n.invariant.refusals ∙ ap (refusals_from (c.loop-n.n + 1)) (texts (goal.at.returns-in_err-apply_text c).After-as_str) in
    passed (OrNoMemory (EditEnds (map string_bytes c.args.operations.now) c.args.file.now)) c.in_err-apply_text.field-0.0
    c.from_residual-in_err-apply_text.result c.from_residual-in_err-apply_text.ensures.1
    (one_refused _ _ c.in_ok-editor.editor (c.loop-n.n + 1) c.as_str.result.now _ _ c.in_ok-editor.ensures same c.in_err-apply_text.ensures.refused)

pub returns : goal.returns
returns c =
    let none = ap (map string_bytes) (drop_of_length-le c.args.operations.now {i = c.loop-n.n} (omega (arith, c.loop-n-test.false))) in
    inl (all_applied _ _ c.in_ok-editor.editor c.into_doc.result (string_bytes c.in_ok-format.field-0) c.in_ok-editor.ensures
    (c.loop-n.invariant.refusals ∙ ap (refusals_from (c.loop-n.n + 1)) none)
    (c.loop-n.invariant.lines ∙ ap (λ (rest : List (List ℕ)). lines_after_all (filter_map edit_in rest) c.loop-n.editor) none ∙ sym c.into_doc.ensures.lines)
    (search rules))
