-- The keys of lines that an operation puts in or rewrites, and the marks of lines, which are at entries.
use Rattle.std.proofs.Common.{◌≡◌, ℕ, zero, suc, ◌<◌, Bool, true, false, List, [], ◌∷◌, length, take, set, Option, Some, None, is_some, refl, ap, ◌∙◌, arith, inl, inr}
use Rattle.std.specs.Prelude.{IfSome, take_while, not}
use Rattle.std.proofs.lemmas.Bool.{cases_Bool}
use Rattle.gm_syntax_words.specs.Tokens.{Placed}
use Rattle.gm_syntax.specs.Document.{Line, Blank, Comment, Open, Close, Entry}
use Rattle.gm_file.specs.Directives.{Directive, block_after_line, block_after_lines, item_at}
use Rattle.gm_file_edit.specs.About.{about}
use Rattle.gm_file_edit.specs.Edits.{Edit, Setting, Set, Add, Drop}
use Rattle.gm_file_edit.specs.Holding.{directive_at, passes, is_loose}
use Rattle.gm_file_edit.specs.Kinds.{is_fit}
use Rattle.gm_file_edit.specs.declared.keys.Key.{Key}
use Rattle.gm_file_edit.specs.Private.Keys.{IsKeyedEntry, Subject, key_at, key_with, subject_of, target_of_edit}
use Rattle.gm_file_edit.specs.Private.Marks.{AreAtEntries, line_at, marks_from}
use Rattle.gm_file_edit.specs.Renewing.{made_new}
use Rattle.gm_file_edit.specs.Sound.{IsSoundEdit, addition_of, setting_of}
use Rattle.gm_file_edit.specs.declared.op.Addition as declared_addition
use Rattle.gm_file_edit.specs.declared.op.Setting as declared_setting
use Rattle.gm_file_edit.proofs.EditedSound.{says}
use Rattle.gm_file_edit.proofs.Insertions.{entry_put, into-fits}
use Rattle.gm_file_edit.proofs.Packs.{first-is, first_of}
use Rattle.gm_file_edit.proofs.Pairs.{IsSound}
use Rattle.gm_file_edit.proofs.Renewals.{put_by, renewal}
use Rattle.gm_file_edit.proofs.DirectivesAfter.{held-some}
use Rattle.gm_file_edit.proofs.Walking.{right-at}

-- ---- what an operation puts in is what it targets

put-subjects : (edit : Edit) → IfSome (put_by edit) (λ d. subject_of d ≡ target_of_edit edit)
put-subjects (Set s) = refl
put-subjects (Add a) = refl
put-subjects (Drop t) = tt

pub key-about : (edit : Edit) (entry : List ℕ × List Placed) {key : Key} → key ≡ key_with (target_of_edit edit) false → entry_put edit ≡ Some entry
    → IsSoundEdit edit → IsKeyedEntry key entry.0 entry.1
key-about edit entry is put good = λ block inside within of_verb.
    let by = says edit entry put good in
    let subject : subject_of by.new ≡ target_of_edit edit = rw by.put at (put-subjects edit) in
    rw ((into-fits entry.0 block inside by.is (within, of_verb)).holds, within, subject, is)

-- the key of what a setting or an addition puts in, by its kind
pub key-of-setting : {subject : Subject} {own setting : declared_setting.Setting} → subject ≡ target_of_edit (Set (setting_of own)) → own ≡ setting
    → key_with subject false ≡ key_with (target_of_edit (Set (setting_of setting))) false
key-of-setting subject_is is = rw (subject_is, is)

pub key-of-addition : {subject : Subject} {own addition : declared_addition.Addition} → subject ≡ target_of_edit (Add (addition_of own)) → own ≡ addition
    → key_with subject false ≡ key_with (target_of_edit (Add (addition_of addition))) false
key-of-addition subject_is is = rw (subject_is, is)

-- ---- marks at entries

loose-held : (test : Directive → Bool) (block : Option Placed) (line : Line Placed) → passes test (directive_at block line) ≡ true → is_loose line ≡ true
unfolding item_at
loose-held test block Blank e = refl
loose-held test block (Comment text) e = refl
loose-held test block (Open opened suffix) e = absurd cc
loose-held test block (Close suffix) e = absurd cc
loose-held test block (Entry words suffix) e = refl

pub marks-at : (test : Directive → Bool) (block : Option Placed) (lines : List (Line Placed)) → AreAtEntries (marks_from test block lines) lines
marks-at test block [] = tt
marks-at test block (line ∷ lines) = elim (cases_Bool (passes test (directive_at block line))) [
  | inl hit ↦ rw hit (loose-held test block line hit, marks-at test (block_after_line block line) lines)
  | inr miss ↦ rw miss (marks-at test (block_after_line block line) lines)
]

pub at-without : (marks : List Bool) (lines : List (Line Placed)) (n : ℕ) (line : Line Placed) → AreAtEntries marks lines
    → AreAtEntries (set marks n false) (set lines n line)
at-without [] [] n line at = tt
at-without [] (first ∷ lines) n line at = absurd at
at-without (mark ∷ marks) [] n line at = absurd at
at-without (true ∷ marks) (first ∷ lines) zero line at = at.1
at-without (false ∷ marks) (first ∷ lines) zero line at = at
at-without (true ∷ marks) (first ∷ lines) (suc n) line at = (at.0, at-without marks lines n line at.1)
at-without (false ∷ marks) (first ∷ lines) (suc n) line at = at-without marks lines n line at

-- ---- the first line with a mark

first-hit : (test : Directive → Bool) (block : Option Placed) (lines : List (Line Placed)) → first_of (marks_from test block lines) < length lines
    → passes test (directive_at (block_after_lines block (take (first_of (marks_from test block lines)) lines)) (line_at lines (first_of (marks_from test block lines)))) ≡ true
first-hit test block [] lt = absurd (omega (arith, lt))
first-hit test block (line ∷ lines) lt = elim (cases_Bool (passes test (directive_at block line))) [
  | inl hit ↦ rw hit hit
  | inr miss ↦ let less = rw miss at lt in rw miss (first-hit test (block_after_line block line) lines (omega (arith, less)))
]

-- the line that is rewritten and the new one, and its key
pub record IsRewritten (s : Setting) (lines : List (Line Placed)) (first : ℕ) (next : Line Placed) : Type 0 where
  pub was_loose : is_loose (line_at lines first) ≡ true
  pub loose : is_loose next ≡ true
  pub key : key_with (target_of_edit (Set s)) (is_some (block_after_lines None (take first lines))) ≡ key_at (block_after_lines None (take first lines)) next

pub rewritten-is : (s : Setting) (lines : List (Line Placed)) {marks : List Bool} {first : ℕ} {next : Line Placed} → IsSoundEdit (Set s) → is_fit (Set s) ≡ true
    → IsSound lines → marks ≡ marks_from (about (Set s)) None lines → first ≡ length (take_while (λ mark. not mark) marks) → first < length lines
    → next ≡ made_new (Set s) (block_after_lines None (take first lines)) (line_at lines first) → IsRewritten s lines first next
rewritten-is s lines {marks} {first} good fit sound marks_are first_is lt next_is =
    let test : Directive → Bool = about (Set s) in
    let at : first ≡ first_of (marks_from test None lines) = first_is ∙ first-is marks ∙ ap first_of marks_are in
    let block = block_after_lines None (take first lines) in
    let line = line_at lines first in
    let hit : passes test (directive_at block line) ≡ true = rw at (first-hit test None lines (omega (arith, lt, at))) in
    let held = held-some test (directive_at block line) hit in
    let made = (renewal s good fit).made block line held.0 held.1 held.2 (right-at None lines first lt sound.lines_are.right).0 in
    record {
      was_loose = loose-held test block line hit;
      loose = rw (next_is, made.is_entry) refl;
      key = rw (next_is, made.is_entry, made.holds, put-subjects (Set s)) refl;
    }

pub key-of-rewritten : {s : Setting} {lines : List (Line Placed)} {first : ℕ} {next : Line Placed} {subject : Subject} {was : Key}
    → subject ≡ target_of_edit (Set s) → was ≡ key_at (block_after_lines None (take first lines)) (line_at lines first)
    → IsRewritten s lines first next → key_with subject was.inside ≡ key_at (block_after_lines None (take first lines)) next
key-of-rewritten subject_is was_is so = rw (subject_is, was_is) so.key
