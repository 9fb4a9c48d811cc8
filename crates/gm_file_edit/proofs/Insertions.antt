-- Where an operation puts a new entry, next to those of its verb, or outside blocks after a blank line, and that the lines
-- stay a document without a fault.
use Rattle.std.proofs.Common.{◌≡◌, ℕ, ◌||◌, Bool, true, false, List, [], ◌∷◌, ◌++◌, Option, Some, None, is_some, refl, sym, ap, ◌∙◌, append-nil, append_assoc, inl, inr}
use mathlib.Core.Bool.{or_assoc}
use Rattle.std.specs.Prelude.{codes}
use Rattle.std.specs.List.{cons_option, list_any}
use Rattle.std.proofs.lemmas.Bool.{and_right, cases_Bool, or_right, true≢false}
use Rattle.gm_syntax_words.specs.Tokens.{Placed, words_of}
use Rattle.gm_syntax_words.specs.Bare.{new_word}
use Rattle.gm_file.specs.Directives.{Strict, Directive, block_after_line, block_after_lines, item_at, main_verb, verb_in, Item, Silent, Opening, Saying, directive_in, directive_of, is_empty_block}
use Rattle.gm_file.specs.Faults.{directive_kinds, entry_kinds, item_kinds}
use Rattle.gm_file.proofs.DirectiveVerbs.{directive-verb, same-verb}
use Rattle.gm_file_edit.specs.Edited.{with_addition, after_closing, after_first_of, after_last_of, has_verb, new_entry, put_in}
use Rattle.gm_file_edit.specs.Edits.{Edit, Target, Set, ModuleIs, GoIs, RequireAt, ReplaceWith, Add, Exclude, Retract, Drop}
use Rattle.gm_file_edit.specs.Holding.{directive_at, passes, is_there}
use Rattle.gm_file_edit.specs.NewWords.{entry_at, made_word, single}
use Rattle.gm_file_edit.specs.Private.Marks.{IsOfVerb}
use Rattle.gm_file_edit.proofs.Pairs.{block-append, held_from, IsSound, put-line}
use Rattle.gm_syntax.specs.Document.{Line, Blank, Comment, Open, Close, Entry, IsValidLine}
use Rattle.gm_syntax.specs.LineViews.{plain}
use Rattle.gm_syntax.proofs.Changes.{blank_stands}
use Rattle.gm_file.specs.declared.verb.Verb.{Verb}
use Rattle.gm_file.specs.Pairwise.{do_clash}
use Rattle.gm_file.proofs.SimpleLines.{none-open}

-- ---- lines that hold a directive

pub there-append : (test : Directive → Bool) (block : Option Placed) (xs ys : List (Line Placed))
    → is_there test block (xs ++ ys) ≡ (is_there test block xs || is_there test (block_after_lines block xs) ys)
there-append test block [] ys = refl
there-append test block (line ∷ xs) ys =
    let behind = block_after_line block line in
    rw (there-append test behind xs ys) (sym (or_assoc (passes test (directive_at block line)) (is_there test behind xs) _))

any-held : (test : Directive → Bool) (held : Option Directive) (rest : List Directive)
    → list_any test (cons_option held rest) ≡ (passes test held || list_any test rest)
any-held test None rest = refl
any-held test (Some d) rest = refl

-- an entry is found if and only if one of the directives that the lines hold passes the test
pub there-is : (test : Directive → Bool) (block : Option Placed) (lines : List (Line Placed))
    → is_there test block lines ≡ list_any test (held_from block lines)
there-is test block [] = refl
there-is test block (line ∷ lines) = rw (there-is test (block_after_line block line) lines) (sym (any-held test (directive_at block line) _))

-- a line that holds a directive leaves the open block open
pub passing-level : (test : Directive → Bool) (block : Option Placed) (line : Line Placed)
    → passes test (directive_at block line) ≡ true → block_after_line block line ≡ block
unfolding item_at
passing-level test block Blank e = refl
passing-level test block (Comment text) e = refl
passing-level test block (Open opened suffix) e = absurd cc
passing-level test block (Close suffix) e = absurd cc
passing-level test block (Entry words suffix) e = refl

pub passing-verb : (v : List ℕ) (block : Option Placed) (line : Line Placed) (held : Option Directive)
    → directive_at block line ≡ held → passes (has_verb v) held ≡ true → IsOfVerb v block
unfolding item_at
passing-verb v None line held is e = tt
passing-verb v (Some t) line None is e = absurd cc
passing-verb v (Some t) Blank (Some d) is e = absurd cc
passing-verb v (Some t) (Comment text) (Some d) is e = absurd cc
passing-verb v (Some t) (Open opened suffix) (Some d) is e = absurd cc
passing-verb v (Some t) (Close suffix) (Some d) is e = absurd cc
passing-verb v (Some t) (Entry words suffix) (Some d) is e =
    sym (directive-verb _ _ _ is)
    ∙ sym (same-verb _ _ e)

-- ---- after the last line that holds a directive of a verb

-- the lines around the last one that holds a directive that passes the test
pub record IsLast (test : Directive → Bool) (block : Option Placed) (lines : List (Line Placed)) : Type 0 where
  pub front : List (Line Placed)
  pub line : Line Placed
  pub back : List (Line Placed)
  pub parts : lines ≡ front ++ line ∷ back
  pub hit : passes test (directive_at (block_after_lines block front) line) ≡ true
  pub later : is_there test (block_after_lines block (front ++ line ∷ [])) back ≡ false

or-first : (a : Bool) {b : Bool} → b ≡ false → (a || b) ≡ true → a ≡ true
or-first true e f = refl
or-first false e f = absurd (true≢false (sym f ∙ e))

pub last-one : (test : Directive → Bool) (block : Option Placed) (lines : List (Line Placed)) → is_there test block lines ≡ true → IsLast test block lines
last-one test block [] e = absurd cc
last-one test block (line ∷ lines) e = elim (cases_Bool (is_there test (block_after_line block line) lines)) [
  | inl later ↦
      let is = last-one test (block_after_line block line) lines later in
      record {
        front = line ∷ is.front;
        line = is.line;
        back = is.back;
        parts =
            rw is.parts;
        hit = is.hit;
        later = is.later;
      }
  | inr none ↦
      record {
        front = [];
        line = line;
        back = lines;
        parts = refl;
        hit =
            or-first (passes test (directive_at block line)) none e;
        later = none;
      }
]

-- the line stands somewhere behind
there-behind : (test : Directive → Bool) (block : Option Placed) (front back : List (Line Placed)) (line : Line Placed)
    → passes test (directive_at (block_after_lines block front) line) ≡ true
    → is_there test block (front ++ line ∷ back) ≡ true
there-behind test block front back line hit = rw (there-append _ _ _ _, hit) (or_right _ _ refl)

after-last-behind : (test : Directive → Bool) (text : List ℕ) (arguments : List Placed) (block : Option Placed)
    (front back : List (Line Placed)) (line : Line Placed)
    → passes test (directive_at (block_after_lines block front) line) ≡ true
    → is_there test (block_after_lines block (front ++ line ∷ [])) back ≡ false
    → after_last_of test text arguments block (front ++ line ∷ back) ≡ front ++ line ∷ entry_at (is_some (block_after_lines block front)) text arguments ∷ back
after-last-behind test text arguments block [] back line hit none =
    let held : passes test (directive_at block line) ≡ true = hit in
    let later : is_there test (block_after_line block line) back ≡ false = none in rw (held, later)
after-last-behind test text arguments block (x ∷ front) back line hit none =
    rw (
      there-behind test (block_after_line block x) front back line hit,
      and_right (passes test (directive_at block x)) false refl,
      after-last-behind test text arguments (block_after_line block x) front back line hit none,
    )

pub added-after-last : (verb : List ℕ) (arguments : List Placed) (front back : List (Line Placed)) (line : Line Placed)
    → passes (has_verb verb) (directive_at (block_after_lines None front) line) ≡ true
    → is_there (has_verb verb) (block_after_lines None (front ++ line ∷ [])) back ≡ false
    → with_addition verb arguments (front ++ line ∷ back) ≡ front ++ line ∷ entry_at (is_some (block_after_lines None front)) verb arguments ∷ back
unfolding with_addition
added-after-last verb arguments front back line hit none =
    rw (there-behind _ None _ _ _ hit)
    (after-last-behind _ _ _ None _ _ _ hit none)

pub added-at-end : (verb : List ℕ) (arguments : List Placed) (lines : List (Line Placed))
    → is_there (has_verb verb) None lines ≡ false → with_addition verb arguments lines ≡ lines ++ Blank
    ∷ single verb arguments ∷ []
unfolding with_addition
added-at-end verb arguments lines none = rw none

-- ---- lines with an entry put in

-- a blank line or none
abbrev pub gap_lines : Bool → List (Line Placed)
gap_lines true = Blank ∷ []
gap_lines false = []

-- The entry is put between two lines, behind a blank line or none. If no block is open at the end, it fits the block
-- that is open there, if any.
pub record IsPutInto (v : List ℕ) (arguments : List Placed) (lines after : List (Line Placed)) : Type 0 where
  pub front : List (Line Placed)
  pub back : List (Line Placed)
  pub gap : Bool
  pub inside : Bool
  pub was : lines ≡ front ++ back
  pub is : after ≡ front ++ (gap_lines gap ++ entry_at inside v arguments ∷ back)
  pub fits : block_after_lines None lines ≡ None → (is_some (block_after_lines None front) ≡ inside) × IsOfVerb v (block_after_lines None front)

pub added-into : (v : List ℕ) (arguments : List Placed) (lines : List (Line Placed)) → IsPutInto v arguments lines (with_addition v arguments lines)
added-into v arguments lines = elim (cases_Bool _) [
  | inl there ↦
      let at = last-one _ None _ there in
      let block = block_after_lines None at.front in
      let behind : block_after_lines None (at.front ++ at.line ∷ []) ≡ block =
      block-append None at.front (at.line ∷ []) ∙ passing-level _ _ _ at.hit in
      record {
        front = at.front ++ at.line ∷ [];
        back = at.back;
        gap = false;
        inside = is_some _;
        was = at.parts ∙ sym (append_assoc at.front _ _);
        is =
            ap (with_addition v arguments) at.parts ∙ added-after-last _ _ _ _ _ at.hit at.later
            ∙ sym (append_assoc at.front _ _);
        fits = λ closed. (ap is_some behind, rw behind (passing-verb v _ _ _ refl at.hit));
      }
  | inr none ↦ record {
    front = lines;
    back = [];
    gap = true;
    inside = false;
    was = sym (append-nil lines);
    is = added-at-end _ _ _ none;
    fits = λ closed. (ap is_some closed, rw closed tt);
  }
]

-- more lines are put between two lines, outside blocks if no block is open at the end
record IsPutOutside (more : List (Line Placed)) (block : Option Placed) (lines after : List (Line Placed)) : Type 0 where
  front : List (Line Placed)
  back : List (Line Placed)
  was : lines ≡ front ++ back
  is : after ≡ front ++ (more ++ back)
  outside : block_after_lines block lines ≡ None → block_after_lines block front ≡ None

behind-line : {more : List (Line Placed)} (block : Option Placed) (line : Line Placed)
    {lines after : List (Line Placed)} → IsPutOutside more (block_after_line block line) lines after
    → IsPutOutside more block (line ∷ lines) (line ∷ after)
behind-line block line put =
    record { front = line ∷ put.front; back = put.back; was = rw put.was; is = rw put.is; outside = put.outside }

behind-closing : (more : List (Line Placed)) (block : Option Placed) (lines : List (Line Placed)) → IsPutOutside more block lines (after_closing more lines)
behind-closing more block [] = record { front = []; back = []; was = refl; is = sym (append-nil more); outside = λ closed. closed }
behind-closing more block (Blank ∷ lines) = behind-line _ _ (behind-closing _ _ _)
behind-closing more block (Comment text ∷ lines) = behind-line _ _ (behind-closing _ _ _)
behind-closing more block (Open verb suffix ∷ lines) = behind-line _ _ (behind-closing _ _ _)
behind-closing more block (Close suffix ∷ lines) = record { front = Close suffix ∷ []; back = lines; was = refl; is = refl; outside = λ closed. refl }
behind-closing more block (Entry words suffix ∷ lines) = behind-line _ _ (behind-closing _ _ _)

behind-first : (test : Directive → Bool) (more : List (Line Placed)) (block : Option Placed)
    (lines : List (Line Placed)) → IsPutOutside more block lines (after_first_of test more block lines)
behind-first test more block [] = behind-closing _ _ []
behind-first test more block (line ∷ lines) = elim (cases_Bool (passes test (directive_at block line))) [
  | inl hit ↦ rw hit (elim (cases_Bool (is_some block)) [
    | inl inside ↦ rw inside (behind-line block line (behind-closing more (block_after_line block line) lines))
    | inr outside ↦ rw outside (record {
      front = line ∷ [];
      back = lines;
      was = refl;
      is = refl;
      outside =
          λ closed. passing-level test block line hit ∙ none-open block outside;
    })
  ])
  | inr miss ↦ rw miss (behind-line block line (behind-first test more (block_after_line block line) lines))
]

pub after-first-into : (test : Directive → Bool) (v : List ℕ) (arguments : List Placed) (lines : List (Line Placed))
    → IsPutInto v arguments lines (after_first_of test (Blank ∷ single v arguments ∷ []) None lines)
after-first-into test v arguments lines =
    let put = behind-first _ _ None _ in
    record {
      front = put.front;
      back = put.back;
      gap = true;
      inside = false;
      was = put.was;
      is = put.is;
      fits = λ closed. (ap is_some (put.outside closed), rw (put.outside closed) tt);
    }

-- ---- what an operation puts in

-- the verb and the arguments of the entry that an operation puts in, if it does
abbrev pub entry_put : Edit → Option (List ℕ × List Placed)
entry_put (Set (GoIs text)) = Some (codes "go", made_word text ∷ [])
entry_put edit = new_entry edit

-- what holds of the lines after an operation that targets none
pub by-put : (P : Edit → List (Line Placed) → Type 0) (lines : List (Line Placed)) → ((path : List ℕ) → P (Set (ModuleIs path)) lines)
    → ((edit : Edit) (entry : List ℕ × List Placed) (after : List (Line Placed)) → entry_put edit ≡ Some entry
    → IsPutInto entry.0 entry.1 lines after → P edit after) → ((t : Target) → P (Drop t) lines) → (edit : Edit)
    → P edit (put_in edit lines)
unfolding put_in
by-put P lines module_is put drop (Set (ModuleIs path)) = module_is path
by-put P lines module_is put drop (Set (GoIs text)) = put (Set (GoIs text)) _ _ refl (after-first-into _ _ _ _)
by-put P lines module_is put drop (Set (RequireAt p)) = put (Set (RequireAt p)) _ _ refl (added-into _ _ _)
by-put P lines module_is put drop (Set (ReplaceWith r)) = put (Set (ReplaceWith r)) _ _ refl (added-into _ _ _)
by-put P lines module_is put drop (Add (Exclude p)) = put (Add (Exclude p)) _ _ refl (added-into _ _ _)
by-put P lines module_is put drop (Add (Retract ends)) = put (Add (Retract ends)) _ _ refl (added-into _ _ _)
by-put P lines module_is put drop (Drop t) = drop t

-- ---- they leave a valid file valid

-- ---- an inserted line

-- a line that can be in this block and holds the directive there
pub record Fits (block : Option Placed) (new : Directive) (line : Line Placed) : Type 0 where
  pub stands : IsValidLine (is_some block) (plain line)
  pub holds : directive_at block line ≡ Some new
  pub level : block_after_line block line ≡ block

-- a directive that has no fault by itself and clashes with none of these
abbrev pub IsNewTo : List Directive → Directive → Type 0
IsNewTo ds new = (directive_kinds Strict [] new ≡ []) × (list_any (do_clash new) ds ≡ false)

item-alone : (item : Item) {new : Directive} → directive_in Strict item ≡ Some new → directive_kinds Strict [] new ≡ [] → item_kinds Strict [] item ≡ []
item-alone Silent e right = absurd cc
item-alone (Opening text) e right = absurd cc
item-alone (Saying text arguments) e right = ap (entry_kinds Strict [] (verb_in Strict text)) e ∙ right

-- insertion between the lines of a file
put-in : (new : Directive) (front back : List (Line Placed)) (line : Line Placed)
    → Fits (block_after_lines None front) new line → IsNewTo (held_from None (front ++ back)) new
    → IsSound (front ++ back) → IsSound (front ++ line ∷ back)
put-in new front back line fits fresh sound =
    put-line _ _ _ (fits.stands, item-alone _ fits.holds fresh.0) fits.level (rw fits.holds fresh.1) sound

-- a blank line holds no directive, so it changes nothing
with-gap : (gap : Bool) (front back : List (Line Placed)) → IsSound (front ++ back) → IsSound (front ++ (gap_lines gap ++ back))
unfolding item_at
with-gap true front back sound = put-line _ _ _ (blank_stands _, refl) refl tt sound
with-gap false front back sound = sound

-- ---- added entries

-- arguments that give the directive after its verb, both outside blocks and in a block of the verb
pub record IsAddition (v : List ℕ) (arguments : List Placed) (new : Directive) : Type 0 where
  pub inside : IsValidLine true (plain (Entry arguments None))
  pub alone : IsValidLine false (plain (single v arguments))
  pub written : main_verb (new_word v).spelling ≡ main_verb v
  pub filled : is_empty_block (words_of arguments) ≡ false
  pub says : directive_of (main_verb v) (words_of arguments) ≡ Some new

single-holds : (text : List ℕ) {v : Verb} (arguments : List Placed) {new : Directive}
    → verb_in Strict (new_word text).spelling ≡ v → is_empty_block (words_of arguments) ≡ false
    → directive_of v (words_of arguments) ≡ Some new → directive_at None (single text arguments) ≡ Some new
unfolding item_at
single-holds text arguments named filled says = rw (filled, named) says

pub entry-fits : {v : List ℕ} {arguments : List Placed} {new : Directive} (block : Option Placed) → IsOfVerb v block
    → IsAddition v arguments new → Fits block new (entry_at (is_some block) v arguments)
unfolding item_at
entry-fits {v} {arguments} {new} None is so = record {
  stands = so.alone;
  holds =
      single-holds _ _ so.written so.filled so.says;
  level = refl;
}
entry-fits {arguments} (Some t) is so = record {
  stands = so.inside;
  holds =
      rw is so.says;
  level = refl;
}

pub into-fits : (v : List ℕ) {arguments : List Placed} {new : Directive} (block : Option Placed) (inside : Bool)
    → IsAddition v arguments new → (is_some block ≡ inside) × IsOfVerb v block
    → Fits block new (entry_at inside v arguments)
into-fits v block inside so fits = rw (← fits.0) (entry-fits _ fits.1 so)

-- an entry that is put in
pub into-sound : {v : List ℕ} {arguments : List Placed} {new : Directive} {lines after : List (Line Placed)}
    → IsAddition v arguments new → IsNewTo (held_from None lines) new
    → IsSound lines → IsPutInto v arguments lines after → IsSound after
into-sound {v} {arguments} {new} so fresh sound put =
    let entry = entry_at put.inside v arguments in
    let fits : Fits (block_after_lines None put.front) new entry = into-fits _ _ _ so (put.fits sound.closed) in
    rw put.is (with-gap put.gap put.front (entry ∷ put.back) (put-in _ put.front put.back _ fits (rw put.was at fresh) (rw put.was at sound)))
