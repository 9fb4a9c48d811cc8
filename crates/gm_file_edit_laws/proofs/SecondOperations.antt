-- An operation that follows itself leaves the lines as they are.
use Rattle.std.proofs.Common.{◌≡◌, ℕ, ◌-◌, Bool, true, false, List, [], ◌∷◌, ◌++◌, length, take, Option, Some, None, is_some, refl, sym, ◌∙◌, inl, inr}
use Rattle.std.specs.Prelude.{IfSome, codes, filter}
use Rattle.std.specs.List.{AllByRecursion, cons_option}
use Rattle.std.proofs.lemmas.Bool.{cases_Bool, false≢true, or_parts}
use Rattle.gm_syntax_words.specs.Tokens.{Placed}
use Rattle.gm_syntax.specs.Document.{Line, Blank, Comment, Open, Close, Entry}
use Rattle.gm_file.specs.Directives.{Directive, LineInBlock, block_after_line, block_after_lines, item_at, with_blocks_from}
use Rattle.gm_file_edit.specs.Edits.{Edit, Set, Setting, ModuleIs, GoIs, RequireAt, Drop, Add, ReplaceWith, Exclude, Retract}
use Rattle.gm_file_edit.specs.About.{about}
use Rattle.gm_file_edit.specs.Edited.{with_change, lines_after, put_in}
use Rattle.gm_file_edit.specs.Fates.{dropping_from, kept_lines, remaining, renewing_from}
use Rattle.gm_file_edit.specs.Holding.{directive_at, passes, is_there}
use Rattle.gm_file_edit_laws.specs.Laws.{directives_of}
use Rattle.gm_file_edit.specs.Kinds.{directive_added, directive_set, set_by}
use Rattle.gm_file_edit.specs.NewWords.{entry_at, made_word, pair_words, replace_words}
use Rattle.gm_file_edit.specs.Renewing.{made_new, with_arguments, with_last}
use Rattle.gm_file_edit_laws.specs.EditLaws.{SecondOperationChangesNothing, SecondSettingChangesNothing}
use Rattle.gm_file_edit.proofs.Filters.{any-filled, none-any}
use Rattle.gm_file_edit_laws.proofs.EditedDirectives.{second-addition, second-drop, set-stands-alone}
use Rattle.gm_file_edit.proofs.Insertions.{IsPutInto, by-put, entry_put, gap_lines, passing-level, there-is}
use Rattle.gm_file_edit.proofs.Made.{last-replaced}
use Rattle.gm_file_edit.proofs.DirectivesAfter.{past-held}
use Rattle.gm_file_edit.proofs.KeptBlocks.{fewer-all, remaining-left}
use Rattle.gm_file.proofs.Snoc.{with_blocks-snoc}
use Rattle.gm_file_edit.proofs.Pairs.{IsSound, document-sound, held_from}
use Rattle.gm_file_edit.proofs.Untouched.{all-lines-stay, all_stay, by-edited}
use Rattle.gm_file_edit_laws.proofs.Dropped.{none-dropped-from}
use Rattle.gm_file_edit_laws.proofs.EntryDirectives.{there-said, file-held}

-- how an operation rewrites a line, given the verb of its block
abbrev Rewriting : Type 0
Rewriting = Option Placed → Line Placed → Line Placed

-- ---- lines that an operation has set

-- an entry that is new in its block is rewritten to itself
abbrev EntryIsSet : Rewriting → List ℕ → List Placed → Type 0
EntryIsSet new text arguments = (block : Option Placed) → new block (entry_at (is_some block) text arguments) ≡ entry_at (is_some block) text arguments

entry-level : (block : Option Placed) (inside : Bool) (text : List ℕ) (arguments : List Placed)
    → block_after_line block (entry_at inside text arguments) ≡ block
entry-level block true text arguments = refl
entry-level block false text arguments = refl

rest-none : (test : Directive → Bool) (held : Option Directive) (rest : List Directive) (d : Directive)
    → passes test held ≡ true → filter test (cons_option held rest) ≡ d ∷ [] → filter test rest ≡ []
rest-none test None rest d hit e = absurd cc
rest-none test (Some x) rest d hit e = let more : x ∷ filter test rest ≡ d ∷ [] = rw hit at e in cc more

module _ (test : Directive → Bool) (new : Rewriting) where
  -- the operation would rewrite this line to itself, if it targets it
  abbrev IsSet : LineInBlock Placed → Type 0
  IsSet seat = passes test (directive_at seat.0 seat.1) ≡ true → new seat.0 seat.1 ≡ seat.1

  -- the same of lines, given the verb of the block that is open before them
  abbrev LinesAreSet : Option Placed → List (Line Placed) → Type 0
  LinesAreSet block lines = AllByRecursion IsSet (with_blocks_from block lines)

  set-append : (xs ys : List (LineInBlock Placed)) → AllByRecursion IsSet xs → AllByRecursion IsSet ys → AllByRecursion IsSet (xs ++ ys)
  set-append [] ys one two = two
  set-append (x ∷ xs) ys one two = (one.0, set-append xs ys one.1 two)

  missed : (block : Option Placed) (line : Line Placed) → passes test (directive_at block line) ≡ false → IsSet (block, line)
  missed block line miss = λ e. absurd (false≢true (sym miss ∙ e))

  -- lines of which none is targeted
  none-set : (block : Option Placed) (lines : List (Line Placed)) → is_there test block lines ≡ false → LinesAreSet block lines
  none-set block [] none = tt
  none-set block (line ∷ lines) none =
      let parts = or_parts _ _ none in
      (missed block line parts.0, none-set (block_after_line block line) lines parts.1)

  -- ---- the lines that a setting leaves, if it targets some

  -- how an operation rewrites entries: one that it targets once at most
  record IsSetting : Type 0 where
    pub level : (block : Option Placed) (words : List Placed) (suffix : Option (List ℕ)) → block_after_line block (new block (Entry words suffix)) ≡ block
    pub again : (block : Option Placed) (words : List Placed) (suffix : Option (List ℕ))
        → passes test (directive_at block (Entry words suffix)) ≡ true
        → new block (new block (Entry words suffix)) ≡ new block (Entry words suffix)

  -- only entries are targeted
  hit-sets : IsSetting → (block : Option Placed) (line : Line Placed) → passes test (directive_at block line) ≡ true
      → (block_after_line block (new block line) ≡ block) × (new block (new block line) ≡ new block line)
  unfolding item_at
  hit-sets sets block Blank hit = absurd cc
  hit-sets sets block (Comment text) hit = absurd cc
  hit-sets sets block (Open verb suffix) hit = absurd cc
  hit-sets sets block (Close suffix) hit = absurd cc
  hit-sets sets block (Entry words suffix) hit = (sets.level block words suffix, sets.again block words suffix hit)

  dropping-set : (block : Option Placed) (lines : List (Line Placed)) → LinesAreSet block (kept_lines (dropping_from test block lines))
  dropping-set block [] = tt
  dropping-set block (line ∷ lines) = elim (cases_Bool (passes test (directive_at block line))) [
    | inl hit ↦ rw (hit, passing-level _ _ _ hit) (dropping-set block lines)
    | inr miss ↦ rw miss (missed _ _ miss, dropping-set (block_after_line block line) lines)
  ]

  renewing-set : IsSetting → (block : Option Placed) (lines : List (Line Placed)) → LinesAreSet block (kept_lines (renewing_from test new block lines))
  renewing-set sets block [] = tt
  renewing-set sets block (line ∷ lines) = elim (cases_Bool (passes test (directive_at block line))) [
    | inl hit ↦
        let set = hit-sets sets _ _ hit in
        rw (hit, set.0, passing-level _ _ _ hit) ((λ e. set.1), dropping-set block lines)
    | inr miss ↦ rw miss (missed _ _ miss, renewing-set sets (block_after_line block line) lines)
  ]

  remaining-set : IsSetting → (lines : List (Line Placed)) → LinesAreSet None (remaining (renewing_from test new None lines))
  remaining-set sets lines = fewer-all _ (remaining-left (renewing_from test new None lines)).0 (renewing-set sets None lines)

  -- ---- the lines that a setting leaves, if it targets none

  -- new lines among lines of which none is targeted
  inserted-set : (block : Option Placed) (front more back : List (Line Placed)) → is_there test block (front ++ back) ≡ false
      → LinesAreSet (block_after_lines block front) more
      → block_after_lines (block_after_lines block front) more ≡ block_after_lines block front
      → LinesAreSet block (front ++ (more ++ back))
  inserted-set block [] more back none are level =
      rw (with_blocks-snoc block more back)
      (set-append _ (with_blocks_from (block_after_lines block more) back) are (rw level (none-set _ _ none)))
  inserted-set block (line ∷ front) more back none are level =
      let parts = or_parts _ _ none in
      (missed block line parts.0, inserted-set (block_after_line block line) front more back parts.1 are level)

  -- an entry that is put in
  gap-set : (gap : Bool) (front back : List (Line Placed)) (entry : Line Placed) → is_there test None (front ++ back) ≡ false
      → new (block_after_lines None front) entry ≡ entry
      → block_after_line (block_after_lines None front) entry ≡ block_after_lines None front
      → LinesAreSet None (front ++ (gap_lines gap ++ entry ∷ back))
  unfolding item_at
  gap-set true front back entry none same level = inserted-set None front (Blank ∷ entry ∷ []) back none ((λ e. absurd cc), ((λ e. same), tt)) level
  gap-set false front back entry none same level = inserted-set None front (entry ∷ []) back none ((λ e. same), tt) level

  into-set : {v : List ℕ} {arguments : List Placed} {lines after : List (Line Placed)} → EntryIsSet new v arguments
      → IsSound lines → is_there test None lines ≡ false → IsPutInto v arguments lines after → LinesAreSet None after
  into-set {v} {arguments} is sound none put =
      let block = block_after_lines None put.front in
      rw put.is (gap-set put.gap _ _ _ (rw put.was at none)
      (rw (← (put.fits sound.closed).0) (is block)) (entry-level block put.inside v arguments))

  -- ---- such lines stay, if only one of them is targeted

  renewing-stays : (d : Directive) (block : Option Placed) (lines : List (Line Placed)) → LinesAreSet block lines
      → filter test (held_from block lines) ≡ d ∷ [] → renewing_from test new block lines ≡ all_stay lines
  renewing-stays d block [] are alone = refl
  renewing-stays d block (line ∷ lines) are alone =
      let behind = block_after_line block line in
      let rest = held_from behind lines in
      elim (cases_Bool (passes test (directive_at block line))) [
        | inl hit ↦
            let none : is_there test behind lines ≡ false = there-is test behind lines
            ∙ none-any test rest (rest-none test (directive_at block line) rest d hit alone) in
            rw (hit, are.0 hit, none-dropped-from test behind lines none)
        | inr miss ↦ rw (miss, renewing-stays d behind lines are.1 (sym (past-held test (directive_at block line) rest miss) ∙ alone))
      ]

  stays : (d : Directive) (lines : List (Line Placed)) → LinesAreSet None lines → filter test (held_from None lines) ≡ d ∷ []
      → remaining (renewing_from test new None lines) ≡ lines
  stays d lines are alone = rw (renewing-stays d _ _ are alone) (all-lines-stay lines)

-- ---- rewriting twice

last-sets : (test : Directive → Bool) (value : List ℕ) → IsSetting test (with_last value)
last-sets test value = record {
  level = λ block words suffix. refl;
  again = λ block words suffix hit. last-replaced value block (take (length words - 1) words) (made_word value) suffix;
}

arguments-again : (test : Directive → Bool) (arguments : List Placed) (block : Option Placed) (words : List Placed)
    (suffix : Option (List ℕ)) → passes test (directive_at block (Entry words suffix)) ≡ true
    → with_arguments arguments block (with_arguments arguments block (Entry words suffix)) ≡ with_arguments arguments block (Entry words suffix)
unfolding item_at
arguments-again test arguments (Some verb) words suffix hit = refl
arguments-again test arguments None [] suffix hit = absurd cc
arguments-again test arguments None (verb ∷ words) suffix hit = refl

setting-sets : (s : Setting) → IsSetting (about (Set s)) (made_new (Set s))
setting-sets (ModuleIs path) = last-sets _ path
setting-sets (GoIs text) = last-sets _ text
setting-sets (RequireAt p) = last-sets _ p.1
setting-sets (ReplaceWith r) = record { level = λ block words suffix. refl; again = arguments-again (about (Set (ReplaceWith r))) (replace_words r) }

changed-set : (edit : Edit) (lines : List (Line Placed)) {d : Directive} → set_by edit ≡ Some d
    → LinesAreSet (about edit) (made_new edit) None (with_change edit lines)
unfolding with_change
changed-set (Set s) lines sets = remaining-set (about (Set s)) (made_new (Set s)) (setting-sets s) lines
changed-set (Drop t) lines sets = absurd cc
changed-set (Add a) lines sets = absurd cc

in-either : (new : Rewriting) (text : List ℕ) (arguments : List Placed) → new None (entry_at false text arguments) ≡ entry_at false text arguments
    → ((verb : Placed) → new (Some verb) (entry_at true text arguments) ≡ entry_at true text arguments) → EntryIsSet new text arguments
in-either new text arguments alone inside None = alone
in-either new text arguments alone inside (Some verb) = inside verb

-- the new entry of an operation
put-entry-set : (edit : Edit) → IfSome (entry_put edit) (λ entry. EntryIsSet (made_new edit) entry.0 entry.1)
put-entry-set (Set (ModuleIs path)) = tt
put-entry-set (Set (GoIs text)) = in-either (with_last text) (codes "go") (made_word text ∷ []) refl (λ verb. refl)
put-entry-set (Set (RequireAt p)) = in-either (with_last p.1) (codes "require") (pair_words p) refl (λ verb. refl)
put-entry-set (Set (ReplaceWith r)) = in-either (with_arguments (replace_words r)) (codes "replace") (replace_words r) refl (λ verb. refl)
put-entry-set (Add (Exclude p)) = λ block. refl
put-entry-set (Add (Retract ends)) = λ block. refl
put-entry-set (Drop t) = tt

entry-set : (edit : Edit) {entry : List ℕ × List Placed} → entry_put edit ≡ Some entry → EntryIsSet (made_new edit) entry.0 entry.1
entry-set edit e = rw e at (put-entry-set edit)

put-set : (lines : List (Line Placed)) → IsSound lines → (edit : Edit) → is_there (about edit) None lines ≡ false
    → LinesAreSet (about edit) (made_new edit) None (put_in edit lines)
put-set lines sound = by-put (λ edit after. is_there (about edit) None lines ≡ false → LinesAreSet (about edit) (made_new edit) None after) lines
    (λ path none. none-set _ (with_last path) _ _ none) (λ edit entry after is put none. into-set _ _ (entry-set _ is) sound none put)
    (λ t none. none-set _ (made_new (Drop t)) _ _ none)

edited-set : (edit : Edit) (lines : List (Line Placed)) (d : Directive) → set_by edit ≡ Some d → IsSound lines
    → LinesAreSet (about edit) (made_new edit) None (lines_after edit lines)
edited-set edit lines d sets sound = by-edited (LinesAreSet (about edit) (made_new edit) None) edit lines
    (λ there. changed-set _ lines sets) (λ none. put-set _ sound _ none)

again-changes : (edit : Edit) (lines : List (Line Placed)) (d : Directive) → set_by edit ≡ Some d
    → LinesAreSet (about edit) (made_new edit) None lines → filter (about edit) (held_from None lines) ≡ d ∷ []
    → with_change edit lines ≡ lines
unfolding with_change
again-changes (Set s) lines d sets are alone = stays _ (made_new (Set s)) d _ are alone
again-changes (Drop t) lines d sets are alone = absurd cc
again-changes (Add a) lines d sets are alone = absurd cc

-- ---- the laws

pub second-setting : SecondSettingChangesNothing
second-setting edit lines d is sets =
    let after = lines_after edit lines in
    let alone = set-stands-alone edit lines d is sets in
    let there : is_there (about edit) None after ≡ true = rw (there-said (about edit) after, any-filled (about edit) (directives_of after), alone) in
    by-edited (λ ls. ls ≡ after) edit after
    (λ e. again-changes _ _ d sets (edited-set _ _ d sets (document-sound _ is.2 is.3)) (rw (file-held after) at alone))
    (λ none. absurd (false≢true (sym none ∙ there)))

pub second-operation : SecondOperationChangesNothing
second-operation (Set s) lines is = second-setting (Set s) lines (directive_set s) is refl
second-operation (Add a) lines is = second-addition (Add a) lines (directive_added a) is refl
second-operation (Drop t) lines is = second-drop (Drop t) lines refl
