-- What a file says after an operation.
use Rattle.std.proofs.Common.{◌≡◌, if◌then◌else◌, Bool, true, false, List, [], ◌∷◌, Some, None, refl, sym, ap, subst, ◌∙◌, inl, inr}
use Rattle.std.specs.Prelude.{filter}
use Rattle.std.specs.List.{list_any}
use Rattle.std.proofs.lemmas.Bool.{true≢false, cases_Bool}
use Rattle.gm_syntax_words.specs.Tokens.{Placed}
use Rattle.gm_syntax.specs.Document.{Line}
use Rattle.gm_file.specs.Directives.{Directive}
use Rattle.gm_file.specs.Faults.{is_module}
use Rattle.gm_file_edit.specs.Edits.{Edit, Set, Drop, Add}
use Rattle.gm_file_edit.specs.About.{about}
use Rattle.gm_file_edit.specs.Edited.{with_change, lines_after, put_in}
use Rattle.gm_file_edit.specs.Kinds.{added_by, directive_set, is_fit, set_by}
use Rattle.gm_file_edit.specs.Holding.{is_there}
use Rattle.gm_file_edit_laws.specs.Laws.{AddedIsThere, DroppedIsGone, IsEditOf, OthersStay, SetStandsAlone, directives_of}
use Rattle.gm_file_edit.specs.Renewing.{made_new}
use Rattle.gm_file_edit.specs.Sound.{IsSoundEdit}
use Rattle.gm_file_edit.proofs.Insertions.{IsAddition, by-put, there-is}
use Rattle.gm_file_edit.proofs.EditedSound.{says}
use Rattle.gm_file_edit.proofs.Filters.{others, others-none, others-twice, any-filled, is_filled}
use Rattle.gm_file_edit.proofs.Renewals.{put_by, renewal, wanted}
use Rattle.gm_file_edit.proofs.DirectivesAfter.{dropped-held, renewed-alone, renewed-others}
use Rattle.gm_file_edit.proofs.Pairs.{IsSound, document-sound, held_from}
use Rattle.gm_file_edit.proofs.Untouched.{by-edited}
use Rattle.gm_file_edit.proofs.Written.{written-sound}
use Rattle.std.proofs.lemmas.Option.{same_Some}
use Rattle.gm_file_edit_laws.specs.EditLaws.{IdleAdditionChangesNothing, IdleDropChangesNothing, SecondAdditionChangesNothing, SecondDropChangesNothing}
use Rattle.gm_file_edit_laws.proofs.Dropped.{edited-drop, none-dropped}
use Rattle.gm_file_edit_laws.proofs.EntryDirectives.{there-said, IsPutIn, into-said, put-alone, put-others, file-held}

-- ---- if some entry is targeted

-- a valid file declares a module
module-there : (P : Type 0) (lines : List (Line Placed)) → IsSound lines → is_there is_module None lines ≡ false → P
module-there P lines sound none = absurd (true≢false (sym sound.lines_are.declared ∙ sym (there-is is_module None lines) ∙ none))

-- ---- if no entry is targeted

-- what an operation puts in if it targets no line
puts : {lines : List (Line Placed)} → IsSound lines → (edit : Edit) (new : Directive) → put_by edit ≡ Some new
    → IsSoundEdit edit → is_there (about edit) None lines ≡ false
    → IsPutIn new (held_from None lines) (held_from None (put_in edit lines))
puts {lines} sound edit = by-put (λ edit after. (new : Directive) → put_by edit ≡ Some new → IsSoundEdit edit
    → is_there (about edit) None lines ≡ false → IsPutIn new (held_from None lines) (held_from None after)) lines
    (λ path new put good none. module-there _ _ sound none) (λ edit entry after is into new put good none.
    let by = says _ _ is good in
    into-said _ (subst (IsAddition entry.0 entry.1) (same_Some _ _ (sym by.put ∙ put)) by.is) sound into)
    (λ t new put good none. absurd cc) edit

-- ---- what an operation doesn't target

drop-others : (test : Directive → Bool) (lines : List (Line Placed)) {after : List Directive}
    → after ≡ filter (others test) (held_from None lines)
    → filter (others test) after ≡ filter (others test) (held_from None lines)
drop-others test lines is = ap (filter (others test)) is ∙ others-twice test (held_from None lines)

changed-others : (edit : Edit) {lines : List (Line Placed)} → IsSoundEdit edit → is_fit edit ≡ true → IsSound lines
    → filter (others (about edit)) (held_from None (with_change edit lines)) ≡ filter (others (about edit)) (held_from None lines)
unfolding with_change
changed-others (Set s) {lines} good fit sound = let by = renewal s good fit in
    renewed-others (about (Set s)) (directive_set s) (made_new (Set s)) by.wanted.own by.made _ sound
changed-others (Add a) good fit sound = refl
changed-others (Drop t) {lines} good fit sound = drop-others _ _ (dropped-held (about (Drop t)) lines)

put-in-others : (edit : Edit) {lines : List (Line Placed)} → IsSoundEdit edit → is_fit edit ≡ true → IsSound lines → is_there (about edit) None lines ≡ false
    → filter (others (about edit)) (held_from None (put_in edit lines)) ≡ filter (others (about edit)) (held_from None lines)
unfolding put_in
put-in-others (Drop t) good fit sound none = refl
put-in-others (Set s) good fit sound none = put-others (about (Set s))
    (wanted (Set s) _ refl good fit).own (puts sound (Set s) _ refl good none)
put-in-others (Add a) good fit sound none = put-others (about (Add a)) (wanted (Add a) _ refl good fit).own (puts sound (Add a) _ refl good none)

others-after : (edit : Edit) (lines : List (Line Placed)) → IsSoundEdit edit → is_fit edit ≡ true → IsSound lines
    → filter (others (about edit)) (held_from None (lines_after edit lines)) ≡ filter (others (about edit)) (held_from None lines)
others-after edit lines good fit sound = by-edited (λ after.
    filter (others (about edit)) (held_from None after) ≡ filter (others (about edit)) (held_from None lines)) edit
    lines (λ there. changed-others _ good fit sound) (λ none. put-in-others _ good fit sound none)

-- ---- what an operation sets

changed-alone : (edit : Edit) {lines : List (Line Placed)} {d : Directive} → IsSoundEdit edit → is_fit edit ≡ true
    → IsSound lines → is_there (about edit) None lines ≡ true → set_by edit ≡ Some d
    → filter (about edit) (held_from None (with_change edit lines)) ≡ d ∷ []
unfolding with_change
changed-alone (Set s) {lines} good fit sound there e =
    let by = renewal s good fit in
    renewed-alone _ (directive_set s) (made_new (Set s)) by.wanted.own by.made _ sound there
    ∙ ap (λ (x : Directive). x ∷ []) (same_Some _ _ e)
changed-alone (Add a) good fit sound there e = absurd cc
changed-alone (Drop t) good fit sound there e = absurd cc

-- what is put in is the only directive that is then targeted
put-in-once : (edit : Edit) {lines : List (Line Placed)} (d : Directive) → IsSoundEdit edit → is_fit edit ≡ true
    → IsSound lines → is_there (about edit) None lines ≡ false → put_by edit ≡ Some d
    → filter (about edit) (held_from None (put_in edit lines)) ≡ d ∷ []
put-in-once edit {lines} d good fit sound none e =
    put-alone _ d (wanted _ d e good fit).own (sym (there-is (about edit) None lines) ∙ none) (puts sound _ d e good none)

pub set-put : (edit : Edit) {d : Directive} → set_by edit ≡ Some d → put_by edit ≡ Some d
set-put (Set s) e = e
set-put (Add a) e = absurd cc
set-put (Drop t) e = absurd cc

added-put-by : (edit : Edit) {d : Directive} → added_by edit ≡ Some d → put_by edit ≡ Some d
added-put-by (Add a) e = e
added-put-by (Set s) e = absurd cc
added-put-by (Drop t) e = absurd cc

alone-after : (edit : Edit) (lines : List (Line Placed)) (d : Directive) → IsSoundEdit edit → is_fit edit ≡ true → IsSound lines → set_by edit ≡ Some d
    → filter (about edit) (held_from None (lines_after edit lines)) ≡ d ∷ []
alone-after edit lines d good fit sound e = by-edited (λ after. filter (about edit) (held_from None after) ≡ d ∷ []) edit lines
    (λ there. changed-alone _ good fit sound there e) (λ none. put-in-once _ d good fit sound none (set-put _ e))

-- ---- what an operation adds

pub addition-changes-nothing : (edit : Edit) (lines : List (Line Placed)) {d : Directive} → added_by edit ≡ Some d → with_change edit lines ≡ lines
unfolding with_change
addition-changes-nothing (Add a) lines e = refl
addition-changes-nothing (Set s) lines e = absurd cc
addition-changes-nothing (Drop t) lines e = absurd cc

abbrev once_or_as_before : Edit → Directive → List Directive → List Directive
once_or_as_before edit d said = if list_any (about edit) said then filter (about edit) said else d ∷ []

added-after : (edit : Edit) (lines : List (Line Placed)) (d : Directive) → IsSoundEdit edit → is_fit edit ≡ true → IsSound lines → added_by edit ≡ Some d
    → filter (about edit) (held_from None (lines_after edit lines)) ≡ once_or_as_before edit d (held_from None lines)
added-after edit lines d good fit sound e = by-edited (λ after.
    filter (about edit) (held_from None after) ≡ once_or_as_before edit d (held_from None lines)) edit lines
    (λ there.
    let any : list_any (about edit) (held_from None lines) ≡ true = sym (there-is (about edit) None lines) ∙ there in
    rw (any, addition-changes-nothing _ lines e)) (λ none.
    let absent : list_any (about edit) (held_from None lines) ≡ false = sym (there-is (about edit) None lines) ∙ none in
    rw absent (put-in-once _ d good fit sound none (added-put-by _ e)))

-- ---- the laws

pub sound-of : (edit : Edit) (lines : List (Line Placed)) → IsEditOf edit lines → IsSoundEdit edit × IsSound lines
sound-of edit lines is = (written-sound _ _ is.0.1, document-sound _ is.2 is.3)

pub dropped-is-gone : DroppedIsGone
dropped-is-gone = λ edit lines e.
    rw (file-held (lines_after edit lines), edited-drop _ lines e, dropped-held (about edit) lines) (others-none (about edit) (held_from None lines))

pub set-stands-alone : SetStandsAlone
set-stands-alone = λ edit lines d is e.
    let sound = sound-of _ _ is in
    rw (file-held (lines_after edit lines)) (alone-after _ _ d sound.0 is.1 sound.1 e)

pub added-is-there : AddedIsThere
added-is-there = λ edit lines d is e.
    let sound = sound-of _ _ is in
    rw (file-held (lines_after edit lines), file-held lines) (added-after _ _ d sound.0 is.1 sound.1 e)

pub others-stay : OthersStay
others-stay = λ edit lines is.
    let sound = sound-of _ _ is in
    rw (file-held (lines_after edit lines), file-held lines) (others-after _ _ sound.0 is.1 sound.1)

-- ---- operations with nothing to do

pub idle-drop : IdleDropChangesNothing
idle-drop edit lines drop none = edited-drop _ lines drop ∙ none-dropped _ _ (there-said (about edit) lines ∙ none)

pub idle-addition : IdleAdditionChangesNothing
idle-addition edit lines d adds some = by-edited (λ after. after ≡ lines) edit lines (λ there. addition-changes-nothing _ lines adds)
    (λ absent. absurd (true≢false (sym some ∙ sym (there-said (about edit) lines) ∙ absent)))

pub second-drop : SecondDropChangesNothing
second-drop edit lines drop = idle-drop edit (lines_after edit lines) drop (dropped-is-gone edit lines drop)

pub second-addition : SecondAdditionChangesNothing
second-addition edit lines d is adds =
    idle-addition edit (lines_after edit lines) d adds
    (elim (cases_Bool (list_any (about edit) (directives_of lines))) [
      | inl some ↦ rw (idle-addition edit lines d adds some) some
      | inr none ↦ any-filled (about edit) (directives_of (lines_after edit lines))
          ∙ ap is_filled (rw none at (added-is-there edit lines d is adds))
    ])
