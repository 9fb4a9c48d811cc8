-- Where an operation puts a new entry, and where a new go directive.
use Rattle.std.proofs.Common.{◌≡◌, ℕ, false, List, ◌∷◌, ◌++◌, Option, Some, sym, ap, ◌∙◌, if◌then◌else◌, Bool, true, [], None, is_some, refl}
use Rattle.std.specs.List.{list_any, list_all}
use Rattle.std.proofs.lemmas.Bool.{true≢false, or_parts}
use Rattle.gm_syntax_words.specs.Tokens.{Placed}
use Rattle.gm_syntax.specs.Document.{Line, Blank, Comment, Open, Close, Entry}
use Rattle.gm_file_edit.specs.Edits.{Edit, Set, GoIs}
use Rattle.gm_file_edit.specs.About.{about}
use Rattle.gm_file_edit.specs.Edited.{with_addition, lines_after, has_verb, new_entry, put_in, with_entry, after_closing, after_first_of, new_go}
use Rattle.gm_file_edit_laws.specs.EditLaws.{AdditionFollowsItsVerb, AdditionOfANewVerbIsLast}
use Rattle.gm_file_edit_laws.specs.Laws.{directives_of}
use Rattle.gm_file_edit.proofs.Insertions.{added-after-last, added-at-end}
use Rattle.gm_file_edit.proofs.Untouched.{by-edited}
use Rattle.gm_file.specs.Directives.{Directive, block_after_line, block_after_lines}
use Rattle.gm_file.specs.Faults.{is_go, is_module}
use Rattle.gm_file_edit.specs.Holding.{directive_at, is_loose, is_there, passes}
use Rattle.gm_file_edit_laws.specs.GoPlace.{GoFollowsModule, GoFollowsModuleBlock, IsFirstModule}
use Rattle.gm_file_edit_laws.proofs.EntryDirectives.{there-said}

put-added : (edit : Edit) {entry : List ℕ × List Placed} (lines : List (Line Placed)) → new_entry edit ≡ Some entry
    → put_in edit lines ≡ with_addition entry.0 entry.1 lines
unfolding put_in
put-added (Set (GoIs text)) lines is = absurd cc
put-added edit lines is = ap (λ (o : Option (List ℕ × List Placed)). with_entry o lines) is

pub edited-added : (edit : Edit) {entry : List ℕ × List Placed} (lines : List (Line Placed))
    → new_entry edit ≡ Some entry → list_any (about edit) (directives_of lines) ≡ false
    → lines_after edit lines ≡ with_addition entry.0 entry.1 lines
edited-added edit {entry} lines adds none = by-edited (λ after. after ≡ with_addition entry.0 entry.1 lines) edit lines
    (λ there. absurd (true≢false (sym there ∙ there-said (about edit) lines ∙ none))) (λ absent. put-added _ lines adds)

pub addition-follows : AdditionFollowsItsVerb
addition-follows edit verb arguments front back line adds none is =
    edited-added _ _ adds none ∙ added-after-last _ arguments _ _ _ is.is_of_verb is.none_later

pub addition-last : AdditionOfANewVerbIsLast
addition-last edit verb arguments lines adds none new =
    edited-added _ _ adds none ∙ added-at-end _ arguments _ (there-said (has_verb verb) lines ∙ new)

-- ---- a new go directive

-- the lines before the first module directive stay
first-behind : (test : Directive → Bool) (new : List (Line Placed)) (block : Option Placed)
    (front back : List (Line Placed)) (line : Line Placed) → is_there test block front ≡ false
    → passes test (directive_at (block_after_lines block front) line) ≡ true
    → after_first_of test new block (front ++ line ∷ back) ≡ front ++ line
    ∷ (if is_some (block_after_lines block front) then after_closing new back else new ++ back)
first-behind test new block [] back line none hit =
    let held : passes test (directive_at block line) ≡ true = hit in
    rw held
first-behind test new block (x ∷ front) back line none hit =
    let parts = or_parts (passes test (directive_at block x)) (is_there test (block_after_line block x) front) none in
    rw (parts.0, first-behind test new (block_after_line block x) front back line parts.1 hit)

to-closing : (new inner back : List (Line Placed)) (last : Option (List ℕ)) → list_all is_loose inner ≡ true
    → after_closing new (inner ++ Close last ∷ back) ≡ inner ++ Close last ∷ (new ++ back)
to-closing new [] back last e = refl
to-closing new (Blank ∷ inner) back last e = rw (to-closing new inner back last e)
to-closing new (Comment text ∷ inner) back last e = rw (to-closing new inner back last e)
to-closing new (Open verb suffix ∷ inner) back last e = absurd cc
to-closing new (Close suffix ∷ inner) back last e = absurd cc
to-closing new (Entry words suffix ∷ inner) back last e = rw (to-closing new inner back last e)

edited-go : (text : List ℕ) (lines : List (Line Placed)) → list_any is_go (directives_of lines) ≡ false
    → lines_after (Set (GoIs text)) lines ≡ after_first_of is_module (new_go text) None lines
unfolding put_in
edited-go text lines none =
    by-edited (λ after. after ≡ after_first_of is_module (new_go text) None lines) (Set (GoIs text)) lines
    (λ there. absurd (true≢false (sym there ∙ there-said is_go lines ∙ none))) (λ absent. refl)

go-placed : (text : List ℕ) {front : List (Line Placed)} (back : List (Line Placed)) {line : Line Placed} → IsFirstModule front line
    → list_any is_go (directives_of (front ++ line ∷ back)) ≡ false
    → lines_after (Set (GoIs text)) (front ++ line ∷ back) ≡ front ++ line
    ∷ (if is_some (block_after_lines None front) then after_closing (new_go text) back else new_go text ++ back)
go-placed text {front} back {line} first none = edited-go text _ none
    ∙ first-behind _ (new_go text) _ _ back _ first.none_earlier first.is_module_line

pub go-follows : GoFollowsModule
go-follows text front back line first none outside = rw outside at (go-placed text _ first none)

pub go-follows-block : GoFollowsModuleBlock
go-follows-block text front inner back line last first none inside loose =
    rw (inside, to-closing (new_go text) _ back last loose) at (go-placed text _ first none)
