-- An operation of `edit` that is given twice, directly one after the other.
use Rattle.std.proofs.Common.{◌≡◌, ◌<◌, ◌∙◌, ◌++◌, ◌+◌, ℕ, List, [], ◌∷◌, length, None, arith, refl, subst, sym, inl, inr}
use Rattle.std.specs.Global.{Global, Vec}
use Rattle.std.specs.Prelude.{String}
use Rattle.gm_syntax_words.specs.Tokens.{Placed}
use Rattle.gm_syntax.specs.Document.{Line}
use Rattle.gm_file_edit.specs.Edited.{lines_after}
use Rattle.gm_file_edit_laws.proofs.SecondOperations.{second-operation}
use Rattle.gomod_outcomes.specs.Edit.{applied, bad_main}
use Rattle.gomod_texts.specs.Outcome.{Outcome}
use Rattle.gomod_laws.proofs.FilesOnce.{edit_once}
use Rattle.gomod_words.specs.declared.usage.Command.TheVariants.{Edit}
use Rattle.gomod_laws.specs.EditTwiceLaws.{AreOneOrRefuseALater, LastTwiceIsOnce, RefuseALater, RepeatsOne, TwiceIsOnceOrRefused, TwicePrintsAsOnce}
use Rattle.gomod_laws.proofs.Ended.{Ends}
use Rattle.gomod_laws.proofs.EditTurns.{AreSoundLines, edit_sound, is_refused, is_taken, outcome_from, read_sound, refused_turn, taken_turn, turn_of}
use Rattle.gomod_texts.proofs.PrintedList.{not_refused}

-- the outcomes are one, or a later operation is refused in both; they are one if there is no later operation
abbrev AreAlike : List (List ℕ) → ℕ → Outcome → Outcome → Type 0
AreAlike later number first second = ((later ≡ []) → first ≡ second) × AreOneOrRefuseALater number first second

-- operations after one more than before
later_alike : (later : List (List ℕ)) (before number : ℕ) (lines : List (Line Placed)) → before < number
    → AreAlike later before (outcome_from number later lines) (outcome_from (number + 1) later lines)
later_alike [] before number lines low = ((λ nothing. refl), inl refl)
later_alike (text ∷ later) before number lines low = elim (turn_of text) [
  | is_refused kind is ↦
      let refused : RefuseALater before _ _ = record {
        refusal = (number, kind);
        is_later = low;
        refused_once = refused_turn number _ _ later lines is;
        refused_twice = refused_turn (number + 1) _ _ later lines is;
      } in
      ((λ nothing. absurd cc), inr refused)
  | is_taken operation written fit ↦
      rw (taken_turn number _ later lines _ written fit, taken_turn (number + 1) _ later lines _ written fit)
      ((λ nothing. absurd cc), (later_alike later before (number + 1) (lines_after operation lines) (omega (arith, low))).1)
]

module _ (text : List ℕ) (later : List (List ℕ)) where
  -- an operation that is taken leaves the second time what it left the first time
  here_alike : (number : ℕ) (lines : List (Line Placed)) → AreSoundLines lines
      → AreAlike later number (outcome_from number (text ∷ later) lines)
      (outcome_from number (text ∷ text ∷ later) lines)
  here_alike number lines sound = elim (turn_of text) [
    | is_refused kind is ↦
        let same = refused_turn number _ _ later lines is ∙ sym (refused_turn number _ _ (text ∷ later) lines is) in
        ((λ nothing. same), inl same)
    | is_taken operation written fit ↦
        let after = lines_after operation lines in
        rw (
          taken_turn number _ later lines _ written fit,
          taken_turn number _ (text ∷ later) lines _ written fit,
          taken_turn (number + 1) _ later after _ written fit,
          second-operation operation lines ((text, written), fit, sound.0, sound.1),
        )
        (later_alike later number (number + 1) after (omega arith))
  ]

  all_alike : (earlier : List (List ℕ)) (at number : ℕ) (lines : List (Line Placed)) → at ≡ length earlier + number → AreSoundLines lines
      → AreAlike later at (outcome_from number (earlier ++ text ∷ later) lines) (outcome_from number (earlier ++ text ∷ text ∷ later) lines)
  all_alike [] at number lines is sound =
      let here : number ≡ at = omega (arith, is) in
      subst (λ (n : ℕ). AreAlike later n (outcome_from number (text ∷ later) lines)
      (outcome_from number (text ∷ text ∷ later) lines)) here (here_alike number _ sound)
  all_alike (first ∷ earlier) at number lines is sound = elim (turn_of first) [
    | is_refused kind why ↦
        let same = refused_turn number _ _ (earlier ++ text ∷ later) lines why
        ∙ sym (refused_turn number _ _ (earlier ++ text ∷ text ∷ later) lines why) in
        ((λ nothing. same), inl same)
    | is_taken operation written fit ↦
        rw (
          taken_turn number _ (earlier ++ text ∷ later) lines _ written fit,
          taken_turn number _ (earlier ++ text ∷ text ∷ later) lines _ written fit,
        ) (all_alike earlier at (number + 1) _ (omega (arith, is)) (edit_sound operation lines ((first, written), fit, sound.0, sound.1)))
  ]

-- ---- the laws

runs_alike : {once twice : Vec (String Global)} {file : List ℕ} {first second : Outcome}
    (repeats : RepeatsOne once twice) → Ends (Edit once) file None [] first → Ends (Edit twice) file None [] second
    → AreAlike repeats.later (length repeats.earlier + 1) first second
runs_alike repeats one two = elim (rw repeats.given_once at one) [
  | bad_main place malformed says ↦
      let same = edit_once _ _ _ _ (bad_main _ malformed says) two in
      ((λ nothing. same), inl same)
  | applied lines main says ↦
      let again = rw repeats.given_twice at two in
      rw (says, edit_once _ _ _ _ again (applied _ main refl))
      (all_alike repeats.operation repeats.later repeats.earlier (length repeats.earlier + 1) 1 _ refl (read_sound _ _ main))
]

pub twice_prints_as_once : TwicePrintsAsOnce
twice_prints_as_once once twice file first second repeats one two prints = elim (runs_alike repeats one.0 two.0).1 [
  | inl same ↦ same
  | inr later ↦ absurd (elim prints [
    | inl is ↦ not_refused _ _ later.refused_once is
    | inr is ↦ not_refused _ _ later.refused_twice is
  ])
]

pub last_twice_is_once : LastTwiceIsOnce
last_twice_is_once once twice file first second repeats last one two = (runs_alike repeats one.0 two.0).0 last

pub twice_is_once_or_refused : TwiceIsOnceOrRefused
twice_is_once_or_refused once twice file first second repeats one two = (runs_alike repeats one.0 two.0).1
