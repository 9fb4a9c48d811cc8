-- The marks of lines, and what removing marked lines leaves.
use Rattle.std.proofs.Common.{◌≡◌, ℕ, suc, ◌+◌, ◌<◌, ◌≤◌, not, Bool, true, false, List, [], ◌∷◌, ◌++◌, length, take, drop, set, Option, Some, None, is_some, refl, sym, ap, ◌∙◌, arith, inl, inr}
use Rattle.std.specs.Prelude.{if◌then◌else◌, take_while}
use Rattle.std.specs.List.{list_any}
use Rattle.std.proofs.lemmas.List.{take_all, take_more}
use Rattle.std.proofs.lemmas.Bool.{cases_Bool}
use Rattle.gm_syntax_words.specs.Tokens.{Placed, words_of}
use Rattle.gm_syntax.specs.Document.{Line, Blank}
use Rattle.gm_file.specs.Directives.{Directive, block_after_line, block_after_lines, main_verb, verb_eq}
use Rattle.gm_file.proofs.DirectiveVerbs.{same-verb}
use Rattle.gm_name.proofs.NameTests.{and_both}
use Rattle.gm_file_edit.specs.Fates.{without_targets, dropping_from, remaining, with_renewal, renewing_from}
use Rattle.gm_file_edit.specs.Holding.{directive_at, passes, is_there}
use Rattle.gm_file_edit.specs.About.{about}
use Rattle.gm_file_edit.specs.Edited.{with_change, lines_after, put_in}
use Rattle.gm_file_edit.specs.Edits.{Edit}
use Rattle.gm_file_edit.specs.Renewing.{made_new}
use Rattle.gm_file_edit.specs.Private.Marks.{line_at, fates_of, marks_from}
use Rattle.gm_file_edit.specs.declared.keys.Key.{Key}
use Rattle.gm_file_edit.specs.Private.Keys.{Subject, agrees, are_texts, held_subject, hold_texts, key_at, key_with, keys_from, subject_of, takes_any_version, target_of_edit}
use Rattle.gm_file_edit.proofs.Made.{IsFront, held-by}
use Rattle.gm_file_edit.proofs.Packs.{first-is, first_of}
use Rattle.gm_file_edit.proofs.Targets.{about-is, none-there, passed-over, target-known}
use Rattle.gm_file_edit.proofs.WordKeys.{entry-texts, subject}

-- ---- the loop that marks lines

pub marks-count : (test : Directive → Bool) (block : Option Placed) (lines : List (Line Placed)) → length (marks_from test block lines) ≡ length lines
marks-count test block [] = refl
marks-count test block (line ∷ lines) = ap suc (marks-count test (block_after_line block line) lines)

marks-append : (test : Directive → Bool) (block : Option Placed) (xs ys : List (Line Placed))
    → marks_from test block (xs ++ ys) ≡ marks_from test block xs ++ marks_from test (block_after_lines block xs) ys
marks-append test block [] ys = refl
marks-append test block (line ∷ xs) ys = rw (marks-append test (block_after_line block line) xs ys)

-- Loop invariant: the first lines are marked.
abbrev pub AreMarkedTo : Edit → List (Line Placed) → ℕ → List Bool → Type 0
AreMarkedTo edit whole n marks = marks ≡ marks_from (about edit) None (take n whole)

-- the arguments of an entry, in a block or outside
arguments-are : (block : Option Placed) (verb : List ℕ) (front arguments : List Placed) → IsFront block verb front
    → (if is_some block then front ++ arguments else drop 1 (front ++ arguments)) ≡ arguments
arguments-are None verb front arguments at = rw (at.1)
arguments-are (Some own) verb front arguments at = rw (at.0)

-- a line of the operation's verb holds a directive that the operation targets if its words have the texts
texts-tell : (edit : Edit) (block : Option Placed) (line : Line Placed) (held : Option Directive) → directive_at block line ≡ held
    → verb_eq (target_of_edit edit).0 (held_subject held).0 ≡ true
    → hold_texts (target_of_edit edit) (takes_any_version edit) (is_some block) line ≡ passes (about edit) held
texts-tell edit block line None is same = absurd (let known = target-known edit in cc)
texts-tell edit block line (Some d) is same =
    let target = target_of_edit edit in
    let any = takes_any_version edit in
    let h = held-by block line is in
    let words = words_of h.arguments in
    let said = entry-texts (main_verb h.verb) words d h.says in
    let own : target.0 ≡ main_verb h.verb = same-verb target.0 (subject_of d).0 same ∙ rw said in
    ap (hold_texts target any (is_some block)) h.is
    ∙ rw (arguments-are block h.verb h.front h.arguments h.at) (rw own (ap (are_texts target.1 any) (sym said)
    ∙ rw same at (about-is edit d)))

module _ (edit : Edit) (whole : List (Line Placed)) (n : ℕ) {key wanted : Key} {own : Subject} {any : Bool}
    (key_is : key ≡ key_at (block_after_lines None (take n whole)) (line_at whole n)) (own_is : own ≡ target_of_edit edit)
    (wanted_is : wanted ≡ key_with own false) (any_is : any ≡ takes_any_version edit) where
  -- a line whose key doesn't agree has no mark
  pub passed-at : agrees wanted any key ≡ false → passes (about edit) (directive_at (block_after_lines None (take n whole)) (line_at whole n)) ≡ false
  passed-at other =
      let block = block_after_lines None (take n whole) in
      passed-over edit (is_some block) (directive_at block (line_at whole n)) (rw (wanted_is, own_is, any_is, key_is) at other)

  -- and one whose key agrees has one if its words have the texts
  pub told-at : {mark inside : Bool} {line : Line Placed} → agrees wanted any key ≡ true → inside ≡ key.inside → line ≡ line_at whole n
      → mark ≡ hold_texts own any inside line → mark ≡ passes (about edit) (directive_at (block_after_lines None (take n whole)) (line_at whole n))
  told-at agree within is held =
      let block = block_after_lines None (take n whole) in
      let line = line_at whole n in
      let same = (and_both _ _ (rw (wanted_is, own_is, any_is, key_is) at agree)).0 in
      held ∙ rw (within, key_is, is, own_is, any_is) (texts-tell _ _ _ _ refl same)

-- one more line
pub scan-more : (edit : Edit) (whole : List (Line Placed)) (n : ℕ) {marks next : List Bool} {mark : Bool} → n < length whole
    → mark ≡ passes (about edit) (directive_at (block_after_lines None (take n whole)) (line_at whole n)) → next ≡ marks ++ mark ∷ []
    → AreMarkedTo edit whole n marks → AreMarkedTo edit whole (n + 1) next
scan-more edit whole n lt tested pushed so =
    rw (pushed, so, tested, take_more _ _ Blank lt, marks-append (about edit) None (take n whole) (line_at _ _ ∷ []))

pub scan-end : (edit : Edit) (whole : List (Line Placed)) (n : ℕ) {marks : List Bool} → length whole ≤ n → AreMarkedTo edit whole n marks
    → marks ≡ marks_from (about edit) None whole
scan-end edit whole n over so = rw (take_all n whole over) at so

-- ---- the first mark

pub some-mark : (test : Directive → Bool) (block : Option Placed) (lines : List (Line Placed))
    → first_of (marks_from test block lines) < length lines → is_there test block lines ≡ true
some-mark test block [] lt = absurd (omega (arith, lt))
some-mark test block (line ∷ lines) lt = elim (cases_Bool (passes test (directive_at block line))) [
  | inl holds ↦ rw holds
  | inr fails ↦ let less = rw fails at lt in rw fails (some-mark test (block_after_line block line) lines (omega (arith, less)))
]

pub no-mark : (test : Directive → Bool) (block : Option Placed) (lines : List (Line Placed))
    → length lines ≤ first_of (marks_from test block lines) → is_there test block lines ≡ false
no-mark test block [] le = refl
no-mark test block (line ∷ lines) le = elim (cases_Bool (passes test (directive_at block line))) [
  | inl holds ↦ let none = rw holds at le in absurd (omega (arith, none))
  | inr fails ↦ let more = rw fails at le in rw fails (no-mark test (block_after_line block line) lines (omega (arith, more)))
]

-- ---- lines of which those with a mark are removed

pub dropping-marked : (test : Directive → Bool) (block : Option Placed) (lines : List (Line Placed))
    → dropping_from test block lines ≡ fates_of (marks_from test block lines) lines
dropping-marked test block [] = refl
dropping-marked test block (line ∷ lines) = rw (dropping-marked test (block_after_line block line) lines)

pub dropped-marked : (test : Directive → Bool) (lines : List (Line Placed))
    → without_targets test lines ≡ remaining (fates_of (marks_from test None lines) lines)
dropped-marked test lines = ap (remaining) (dropping-marked _ None _)

-- ---- lines of which the first with a mark is rewritten, and the others are removed

-- the marks and the lines after the first line with a mark is rewritten
abbrev pub after_first : List Bool → List Bool
after_first marks = set marks (first_of marks) false

abbrev pub rewritten : (Option Placed → Line Placed → Line Placed) → Option Placed → List Bool → List (Line Placed) → List (Line Placed)
rewritten new block marks lines = set lines (first_of marks) (new (block_after_lines block (take (first_of marks) lines)) (line_at lines (first_of marks)))

pub renewing-marked : (test : Directive → Bool) (new : Option Placed → Line Placed → Line Placed)
    (block : Option Placed) (lines : List (Line Placed)) → first_of (marks_from test block lines) < length lines
    → renewing_from test new block lines ≡ fates_of (after_first (marks_from test block lines)) (rewritten new block (marks_from test block lines) lines)
renewing-marked test new block [] lt = absurd (omega (arith, lt))
renewing-marked test new block (line ∷ lines) lt = elim (cases_Bool (passes test (directive_at block line))) [
  | inl holds ↦ rw (holds, dropping-marked test (block_after_line block line) lines)
  | inr fails ↦ let less = rw fails at lt in rw (fails, renewing-marked test new (block_after_line block line) lines (omega (arith, less)))
]

pub renewed-marked : (test : Directive → Bool) (new : Option Placed → Line Placed → Line Placed)
    (lines : List (Line Placed)) → first_of (marks_from test None lines) < length lines
    → with_renewal test new lines ≡ remaining (fates_of (after_first (marks_from test None lines)) (rewritten new None (marks_from test None lines) lines))
renewed-marked test new lines lt = ap (remaining) (renewing-marked _ _ None _ lt)

-- ---- the lines after an operation

pub edited-there : (edit : Edit) (lines : List (Line Placed)) (marks : List Bool) {first : ℕ}
    → marks ≡ marks_from (about edit) None lines → first ≡ length (take_while (λ mark. not mark) marks)
    → first < length lines → lines_after edit lines ≡ with_change edit lines
unfolding lines_after
edited-there edit lines marks marks_are first_is lt =
    let at = first_is ∙ first-is _ ∙ ap first_of marks_are in
    rw (some-mark (about edit) None lines (omega (arith, at, lt)))

pub edited-new : (edit : Edit) (lines : List (Line Placed)) (marks : List Bool) {first : ℕ}
    → marks ≡ marks_from (about edit) None lines → first ≡ length (take_while (λ mark. not mark) marks)
    → length lines ≤ first → lines_after edit lines ≡ put_in edit lines
unfolding lines_after
edited-new edit lines marks marks_are first_is le =
    let at = first_is ∙ first-is _ ∙ ap first_of marks_are in
    rw (no-mark (about edit) None lines (omega (arith, at, le)))

pub edited-idle : (edit : Edit) (lines : List (Line Placed)) {subject : Subject} {target : Key} {any : Bool} {keys : List Key}
    → target ≡ key_with subject false → subject ≡ target_of_edit edit → any ≡ takes_any_version edit → keys ≡ keys_from None lines
    → list_any (λ key. agrees target any key) keys ≡ false → lines_after edit lines ≡ put_in edit lines
unfolding lines_after
edited-idle edit lines target_is subject_is any_is keys_are none =
    rw (none-there _ None _ (rw (target_is, subject_is, any_is, keys_are) at none))

-- what is left of lines of which the first with a mark is rewritten
pub renew-is : (edit : Edit) (lines new : List (Line Placed)) {marks : List Bool} (others : List Bool) {first : ℕ} {line : Line Placed}
    → marks ≡ marks_from (about edit) None lines → first ≡ length (take_while (λ mark. not mark) marks) → first < length lines
    → line ≡ made_new edit (block_after_lines None (take first lines)) (line_at lines first) → new ≡ set lines first line → others ≡ set marks first false
    → remaining (fates_of others new) ≡ with_renewal (about edit) (made_new edit) lines
renew-is edit lines new {marks} others {first} marks_are first_is lt line_is new_is others_are =
    let f : first ≡ first_of (marks_from (about edit) None lines) = first_is ∙ first-is _ ∙ ap first_of marks_are in
    rw (others_are, new_is, line_is, marks_are, f) (sym (renewed-marked _ _ _ (omega (arith, lt, f))))
