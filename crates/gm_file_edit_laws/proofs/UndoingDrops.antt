-- A drop of what an operation put in leaves the lines as they were.
use Rattle.std.proofs.Common.{◌≡◌, ℕ, if◌then◌else◌, Bool, true, false, List, [], ◌∷◌, ◌++◌, Option, Some, None, is_some, refl, sym, ◌∙◌, append-nil, append_assoc, inl, inr}
use Rattle.std.specs.Prelude.{IfSome}
use Rattle.std.specs.List.{list_any}
use Rattle.std.proofs.lemmas.Bool.{cases_Bool, or_parts}
use Rattle.std.proofs.lemmas.List.{map-append}
use Rattle.gm_syntax_words.specs.Tokens.{Placed}
use Rattle.gm_syntax_words.specs.Words.{Word}
use Rattle.gm_syntax.specs.Layout.{initial_state, is_blank_line, layout, layout_from, state_after}
use Rattle.gm_syntax.specs.LineViews.{plain, plain_lines}
use Rattle.gm_syntax.specs.Document.{Line, Blank, Comment, Open, Close, Entry}
use Rattle.gm_file.specs.Directives.{Left, Directive, Replaces, block_after_line, block_after_lines, item_at}
use Rattle.gm_file.specs.Faults.{is_same_left}
use Rattle.gm_file.proofs.Indexed.{left-self}
use Rattle.gm_file_edit.specs.Edits.{Edit, Set, ModuleIs, GoIs, RequireAt, ReplaceWith, Add, Exclude, Retract, Drop}
use Rattle.gm_file_edit.specs.Kinds.{is_drop}
use Rattle.gm_file_edit.specs.About.{about, is_covered_by, is_replaced_by, replaces_left}
use Rattle.gm_file_edit.specs.Edited.{with_addition, lines_after, has_verb, new_entry}
use Rattle.gm_file_edit.specs.Fates.{without_targets, dropping_from, kept_lines, remaining, widened_from}
use Rattle.gm_file_edit.specs.Holding.{directive_at, passes, is_there}
use Rattle.gm_file_edit_laws.specs.Laws.{directives_of}
use Rattle.gm_file_edit.specs.NewWords.{entry_at, single}
use Rattle.gm_file_edit_laws.specs.UndoingEdits.{DropUndoes, DropUndoesForLayout, undone_by}
use Rattle.gm_file_edit_laws.proofs.Additions.{edited-added}
use Rattle.gm_file_edit.proofs.Insertions.{IsAddition, entry-fits, added-after-last, added-at-end, entry_put, last-one, passing-level, passing-verb, there-append}
use Rattle.gm_file_edit.proofs.EditedSound.{says}
use Rattle.gm_file_edit.proofs.Filters.{fewer-any}
use Rattle.gm_file_edit.proofs.Renewals.{pair-itself, put_by}
use Rattle.gm_file_edit_laws.proofs.EditedDirectives.{sound-of}
use Rattle.gm_file_edit.proofs.Pairs.{IsSound, block-append}
use Rattle.gm_file_edit.proofs.Untouched.{all-lines-left, all_stay, stay-before, staying}
use Rattle.std.proofs.lemmas.Option.{same_Some}
use Rattle.gm_name.proofs.Texts.{bytes_eq-self}
use Rattle.gm_file_edit_laws.proofs.Dropped.{edited-drop, none-dropped-from}
use Rattle.gm_file_edit_laws.proofs.EntryDirectives.{there-said}

-- ---- the fates of the lines

-- only an entry behind these lines is dropped
one-gone : (test : Directive → Bool) (block : Option Placed) (front back : List (Line Placed)) (entry : Line Placed)
    → is_there test block (front ++ back) ≡ false
    → passes test (directive_at (block_after_lines block front) entry) ≡ true
    → dropping_from test block (front ++ entry ∷ back) ≡ all_stay front ++ None ∷ all_stay back
one-gone test block [] back entry none hit =
    let level = passing-level _ _ _ hit in
    let held : passes test (directive_at block entry) ≡ true = hit in
    rw (held, level, none-dropped-from _ _ _ none)
one-gone test block (line ∷ front) back entry none hit =
    let parts = or_parts (passes test (directive_at block line)) (is_there test (block_after_line block line) (front ++ back)) none in
    rw (parts.0, one-gone test (block_after_line block line) front back entry parts.1 hit)

-- ---- what is left

-- an entry stays, and the line after it is removed
next-gone : (words : List Placed) (suffix : Option (List ℕ)) (back : List (Line Placed)) (inside : Bool)
    → kept_lines (widened_from (staying inside) false (Some (Entry words suffix) ∷ None ∷ all_stay back)) ≡ Entry words suffix ∷ back
next-gone words suffix back inside = rw (all-lines-left inside back)

gone-behind : (words : List Placed) (suffix : Option (List ℕ)) (front back : List (Line Placed))
    → remaining (all_stay front ++ Some (Entry words suffix) ∷ None ∷ all_stay back) ≡ front ++ Entry words suffix ∷ back
unfolding remaining
gone-behind words suffix front back = stay-before _
    _ refl (next-gone words suffix back) false front

-- the last line is removed
last-gone : (front : List (Line Placed)) → remaining (all_stay front ++ None ∷ []) ≡ front
unfolding remaining
last-gone front = stay-before (None ∷ []) [] refl (λ inside. refl) false front ∙ append-nil front

-- ---- the lines

-- a line that holds a directive is an entry
holds-entry : (test : Directive → Bool) (block : Option Placed) (line : Line Placed)
    → passes test (directive_at block line) ≡ true → (words : List Placed) × (suffix : Option (List ℕ))
    × (line ≡ Entry words suffix)
unfolding item_at
holds-entry test block Blank e = absurd cc
holds-entry test block (Comment text) e = absurd cc
holds-entry test block (Open verb suffix) e = absurd cc
holds-entry test block (Close suffix) e = absurd cc
holds-entry test block (Entry words suffix) e = (words, suffix, refl)

-- what is put in behind an entry of its verb and dropped
behind-entry : (test : Directive → Bool) (v : List ℕ) {arguments : List Placed} (new : Directive)
    (front back : List (Line Placed)) (line : Line Placed) → IsAddition v arguments new → test new ≡ true
    → is_there test None (front ++ line ∷ back) ≡ false → passes (has_verb v) (directive_at (block_after_lines None front) line) ≡ true
    → without_targets test (front ++ line ∷ entry_at (is_some (block_after_lines None front)) v arguments ∷ back) ≡ front ++ line ∷ back
behind-entry test v {arguments} new front back line so own none hit =
    let block = block_after_lines None front in
    let entry = entry_at (is_some block) v arguments in
    let fits = entry-fits _ (passing-verb v block line _ refl hit) so in
    let behind : block_after_lines None (front ++ line ∷ []) ≡ block = block-append None front (line ∷ []) ∙ passing-level _ _ _ hit in
    let is = holds-entry _ _ _ hit in
    rw (
      ← append_assoc front (line ∷ []) (entry ∷ back),
      one-gone test None (front ++ line ∷ []) back entry (rw (append_assoc front (line ∷ []) back) none) (rw (behind, fits.holds) own),
      map-append (λ (l : Line Placed). Some l) front (line ∷ []),
      append_assoc (all_stay front) (Some line ∷ []) (None ∷ all_stay back),
      is.2,
    ) (gone-behind is.0 is.1 front back)

blank-none : (test : Directive → Bool) (lines : List (Line Placed)) → is_there test None lines ≡ false → is_there test None (lines ++ Blank ∷ []) ≡ false
unfolding item_at
blank-none test lines none = rw (there-append test None lines (Blank ∷ []), none)

-- what is put in at the end and dropped
at-end : (test : Directive → Bool) (v : List ℕ) (arguments : List Placed) (new : Directive) (lines : List (Line Placed))
    → IsAddition v arguments new → test new ≡ true
    → is_there test None lines ≡ false → IsSound lines → without_targets test (lines ++ Blank ∷ single v arguments ∷ []) ≡ lines ++ Blank ∷ []
at-end test v arguments new lines so own none sound =
    let front = lines ++ Blank ∷ [] in
    let entry = single v arguments in
    let fits = entry-fits None tt so in
    let outside : block_after_lines None front ≡ None = block-append None lines (Blank ∷ []) ∙ sound.closed in
    let absent : is_there test None (front ++ []) ≡ false = rw (append-nil front) (blank-none _ _ none) in
    rw (← append_assoc lines (Blank ∷ []) (entry ∷ []), one-gone test None front [] entry absent (rw (outside, fits.holds) own)) (last-gone front)

added-undone : (test : Directive → Bool) (v : List ℕ) {arguments : List Placed} {new : Directive}
    {lines : List (Line Placed)} → IsAddition v arguments new → test new ≡ true → is_there test None lines ≡ false
    → IsSound lines
    → without_targets test (with_addition v arguments lines) ≡ (if is_there (has_verb v) None lines then lines else lines ++ Blank ∷ [])
added-undone test v {arguments} {new} {lines} so own none sound = elim (cases_Bool (is_there (has_verb v) None lines)) [
  | inl there ↦
      let is = last-one _ _ _ there in
      rw (there, is.parts, added-after-last v arguments _ _ _ is.hit is.later)
      (behind-entry _ v _ _ _ _ so own (rw is.parts at none) is.hit)
  | inr without ↦ rw (without, added-at-end v arguments _ without) (at-end _ v _ _ _ so own none sound)
]

-- ---- the operations

-- a drop targets what the operation puts in, and no directive that the operation doesn't target
record IsUndoing (edit undo : Edit) : Type 0 where
  drops : is_drop undo ≡ true
  entry : List ℕ × List Placed
  adds : new_entry edit ≡ Some entry
  new : Directive
  puts : put_by edit ≡ Some new
  own : about undo new ≡ true
  fewer : (d : Directive) → about edit d ≡ false → about undo d ≡ false

covered-left : (left other : Left) (version : Option (List ℕ)) → left.version ≡ version
    → is_covered_by left version other ≡ false → is_same_left other left ≡ false
covered-left left other None is e = rw e
covered-left left other (Some version) is e = e

replaced-left : (left : Left) (d : Directive) → is_replaced_by left d ≡ false → replaces_left left d ≡ false
replaced-left left (Replaces r) e = covered-left left r.0 left.version refl e
replaced-left left d e = refl

drop-of : (edit : Edit) → IfSome (undone_by edit) (IsUndoing edit)
drop-of (Set (ModuleIs path)) = tt
drop-of (Set (GoIs text)) = tt
drop-of (Set (RequireAt p)) = record { drops = refl; entry = _; adds = refl; new = _; puts = refl; own = bytes_eq-self p.0; fewer = λ d f. f }
drop-of (Set (ReplaceWith r)) = record { drops = refl; entry = _; adds = refl; new = _; puts = refl; own = left-self r.0; fewer = replaced-left r.0 }
drop-of (Add (Exclude p)) = record { drops = refl; entry = _; adds = refl; new = _; puts = refl; own = pair-itself p; fewer = λ d f. f }
drop-of (Add (Retract ends)) = record { drops = refl; entry = _; adds = refl; new = _; puts = refl; own = pair-itself ends; fewer = λ d f. f }
drop-of (Drop t) = tt

undoing : (edit : Edit) {undo : Edit} → undone_by edit ≡ Some undo → IsUndoing edit undo
undoing edit e = rw e at (drop-of edit)

new-put : (edit : Edit) {entry : List ℕ × List Placed} → new_entry edit ≡ Some entry → entry_put edit ≡ Some entry
new-put (Set (GoIs text)) e = absurd cc
new-put edit e = e

pub drop-undoes : DropUndoes
drop-undoes edit undo verb arguments lines is adds undoes none =
    let sound = sound-of _ _ is in
    let by = says _ _ (new-put _ adds) sound.0 in
    let u = undoing _ undoes in
    let own = rw (same_Some _ _ (sym u.puts ∙ by.put)) at u.own in
    let absent : is_there (about undo) None lines ≡ false =
    rw (there-said (about undo) lines) (fewer-any _ _ u.fewer _ none) in
    rw (edited-drop _ (lines_after edit lines) u.drops, edited-added _ _ adds none, ← there-said (has_verb verb) lines)
    (added-undone _ _ by.is own absent sound.1)

-- ---- the layout

blank-end : (b : _) (lines : List (Line Word)) → layout_from b (lines ++ Blank ∷ []) ≡ layout_from b lines
unfolding layout_from
blank-end b [] = refl
blank-end b (line ∷ lines) = elim (cases_Bool (is_blank_line line)) [
  | inl blank ↦ rw blank (blank-end (record b { gap_pending = true }) lines)
  | inr filled ↦ rw (filled, blank-end (state_after b line) lines)
]

either-layout : (b : Bool) (lines : List (Line Placed)) → layout (plain_lines (if b then lines else lines ++ Blank ∷ [])) ≡ layout (plain_lines lines)
either-layout true lines = refl
either-layout false lines = rw (map-append plain lines (Blank ∷ [])) (blank-end initial_state (plain_lines lines))

pub drop-undoes-layout : DropUndoesForLayout
drop-undoes-layout edit undo lines is undoes none =
    let u = undoing _ undoes in
    rw (drop-undoes edit undo u.entry.0 u.entry.1 lines is u.adds undoes none) (either-layout (list_any (has_verb u.entry.0) (directives_of lines)) lines)
