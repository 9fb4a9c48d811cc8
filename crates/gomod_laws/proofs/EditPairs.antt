-- Two operations of `edit`: one that the other undoes, and two in either order.
use Rattle.std.proofs.Common.{◌≡◌, ◌≤◌, ◌∙◌, ◌++◌, ℕ, true, List, [], ◌∷◌, length, Some, ap, refl, subst, sym}
use Rattle.std.specs.Global.{Global, Vec}
use Rattle.std.specs.List.{filter_map, list_any}
use Rattle.std.specs.List.Sorted.{IsPermutation}
use Rattle.std.specs.Prelude.{IfSome, String, false}
use Rattle.std.proofs.lemmas.List.Sorted.{Contains-permutation, IsPermutation-sym}
use Rattle.gm_syntax_words.specs.Tokens.{Placed}
use Rattle.gm_syntax_words.specs.Words.{Word}
use Rattle.gm_syntax.specs.Document.{Line}
use Rattle.gm_syntax.specs.Layout.{layout}
use Rattle.gm_syntax.specs.LineViews.{plain_lines}
use Rattle.gm_file.specs.Directives.{Directive, Strict, directives}
use Rattle.gm_file_edit.specs.About.{about}
use Rattle.gm_file_edit.specs.Edited.{lines_after}
use Rattle.gm_file_edit.specs.Edits.{Edit as Operation, Set, ModuleIs, GoIs, RequireAt, ReplaceWith, Add, Exclude, Retract, Drop, edit_in}
use Rattle.gm_file_edit.specs.Kinds.{is_fit}
use Rattle.gm_file_edit_laws.specs.Laws.{IsEditOf, directives_of}
use Rattle.gm_file_edit_laws.specs.UndoingEdits.{undone_by}
use Rattle.gm_file_edit_laws.proofs.EitherOrder.{either-order}
use Rattle.gm_file_edit.proofs.Places.{edited-same}
use Rattle.gm_file_edit_laws.proofs.UndoingDrops.{drop-undoes-layout}
use Rattle.gm_file.specs.Main.{IsMainOf}
use Rattle.gomod_texts.specs.Queries.{longest}
use Rattle.gomod_texts.specs.Outcome.{text_outcome}
use Rattle.gomod_texts.proofs.OneRead.{same_lines}
use Rattle.gomod_outcomes.specs.Edit.{applied, bad_main}
use Rattle.gomod_laws.specs.EditPairLaws.{EitherOrderChangesNoBuild, UndoneIsFormatted}
use Rattle.gomod_laws.specs.LineOrderLaws.{HoldTheSame}
use Rattle.gomod_laws.specs.Runs.{IsEdited}
use Rattle.gomod_words.specs.Usage.{texts_in}
use Rattle.gomod_laws.proofs.FilesOnce.{in_turn_same, misread_or_lines}
use Rattle.gomod_laws.proofs.EditTurns.{edited_from, next_is, read_sound, taken_turn, text_lines, turned}
use Rattle.gomod_laws.proofs.FormattingProofs.{fmt_is}
use Rattle.gomod_laws.proofs.LineOrderLines.{lines_in_any_order}

-- ---- an operation undone

-- a drop is always fit
drop_fits : (put : Operation) → IfSome (undone_by put) (λ undo. is_fit undo ≡ true)
drop_fits (Set (ModuleIs path)) = tt
drop_fits (Set (GoIs text)) = tt
drop_fits (Set (RequireAt p)) = refl
drop_fits (Set (ReplaceWith r)) = refl
drop_fits (Add (Exclude p)) = refl
drop_fits (Add (Retract ends)) = refl
drop_fits (Drop t) = tt

pub undone_is_formatted : UndoneIsFormatted
undone_is_formatted operations put file edited_to formatted are fit targets one other =
    elim (rw are.given at one.0) [
      | bad_main place malformed says ↦ absurd (misread_or_lines _ _ _ malformed targets.is_main)
      | applied lines main says ↦
          let sound = read_sound _ _ main in
          let absent : list_any (about put) (directives_of lines) ≡ false =
          ap (λ (ls : List (Line Word)). list_any (about put) (directives Strict ls))
          (same_lines _ _ _ main.0 targets.is_main.0) ∙ targets.none in
          let undo_fits = rw are.undoes at (drop_fits put) in
          let states : edited_to ≡ text_outcome (layout (plain_lines lines)) =
          says ∙ taken_turn 1 _ (are.second ∷ []) lines _ are.puts fit
          ∙ taken_turn 2 are.second [] (lines_after put lines) are.undo are.drops undo_fits
          ∙ ap text_outcome (drop-undoes-layout put are.undo lines ((are.first, are.puts), fit, sound.0, sound.1) are.undoes absent) in
          (states ∙ fmt_is _ _ _ main.0 other.0, layout _, states)
    ]

-- ---- two operations in either order

-- the lines of the file, which all operations but the last two turn, and what the text reads as
last_two : (operations : Vec (String Global)) (file text : List ℕ) (earlier : List (List ℕ)) (first second : List ℕ)
    (one other : Operation) → texts_in operations ≡ earlier ++ first ∷ second ∷ [] → edit_in first ≡ Some one
    → edit_in second ≡ Some other
    → IsEdited operations file text → length text ≤ longest
    → (lines doc : List (Line Placed)) × IsMainOf file lines × IsEditOf one (turned earlier lines) × IsMainOf text doc
    × (directives_of doc ≡ directives_of (lines_after other (lines_after one (turned earlier lines))))
last_two operations file text earlier first second one other given first_is second_is prints short =
    let (lines, main, from) = edited_from operations _ _ _ _ given prints in
    let then = next_is _ _ _ _ _ first_is from in
    let last = next_is second [] text (lines_after one (turned earlier lines)) other second_is then.2 in
    let (doc, reread, said) = text_lines _ _ last.2 prints.1 short in
    (lines, doc, main, then.1, reread, said)

pub either_order_changes_no_build : EitherOrderChangesNoBuild
either_order_changes_no_build command operations swapped one other file text also sums asked answered before after query
    swap apart prints too short low alike run rerun =
    let (lines, doc, main, edit, reread, said) = last_two operations _ _ _ _ _ _
    _ swap.given swap.first_is swap.second_is prints short in
    let (others, again, main_too, edit_too, reread_too, said_too) =
    last_two swapped _ _ _ _ _ _ _ swap.in_other_order swap.second_is
    swap.first_is too low in
    let front = turned swap.earlier lines in
    let beside = turned swap.earlier others in
    let same = in_turn_same (filter_map edit_in swap.earlier) _ _ (same_lines _ _ _ main_too.0 main.0) in
    let ends = said_too ∙ ap (directives Strict) (edited-same one _ _ (edited-same other _ _ same)) in
    let orders = either-order one other front edit (edit_too.0, edit_too.1, edit.2, edit.3) apart in
    let are : IsPermutation (directives_of doc) (directives_of again) =
    subst (λ (ds : List Directive). IsPermutation ds (directives_of again)) (sym said)
    (subst (IsPermutation (directives_of (lines_after other (lines_after one front)))) (sym ends) orders) in
    let hold : HoldTheSame (plain_lines doc) (plain_lines again) =
    (λ d. (Contains-permutation _ _ d are, Contains-permutation _ _ d (IsPermutation-sym _ _ are))) in
    lines_in_any_order command text also doc again sums asked answered before after query reread reread_too hold alike run rerun
