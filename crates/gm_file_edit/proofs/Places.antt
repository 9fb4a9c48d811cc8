-- The result of an operation doesn't depend on source positions: it commutes with removing the positions of words.
use Rattle.std.proofs.Common.{◌≡◌, ℕ, ◌&&◌, not, Bool, true, false, List, [], ◌∷◌, ◌++◌, map, take, Option, Some, None, is_some, refl, sym, ap, ◌∙◌, inl, inr}
use Rattle.std.specs.Prelude.{if◌then◌else◌, codes}
use Rattle.std.specs.Option.{option_map}
use Rattle.std.specs.Str.{bytes_eq}
use Rattle.std.proofs.lemmas.Bool.{cases_Bool}
use Rattle.std.proofs.lemmas.List.{length-map, map-append, take-map}
use Rattle.gm_syntax_words.specs.declared.word.Punct.TheVariants.{Arrow}
use Rattle.gm_syntax_words.specs.Words.{Word}
use Rattle.gm_syntax_words.specs.Tokens.{Placed, words_of}
use Rattle.gm_syntax.specs.Document.{Line, Blank, Comment, Open, Close, Entry, map_line}
use Rattle.gm_syntax.specs.LineViews.{plain, plain_lines}
use Rattle.gm_file.specs.Directives.{Directive, VersionInterval, Right, Folder, Module, Replacing, block_after_line}
use Rattle.gm_file.specs.Faults.{is_module}
use Rattle.gm_file_edit.specs.Edits.{Edit, Set, ModuleIs, GoIs, RequireAt, Drop, Add, Exclude, ReplaceWith, Retract}
use Rattle.gm_file_edit.specs.NewWords.{entry_at, interval_words, left_words, made_mark, replace_words, right_words, single, unplaced_word}
use Rattle.gm_file_edit.specs.Fates.{Fate, without_targets, dropping_from, empties, fate_by, is_emptied, is_in_gone, kept_lines, remaining, with_renewal, renewing_from, widened_from}
use Rattle.gm_file_edit.specs.Holding.{directive_at, passes, is_there}
use Rattle.gm_file_edit.proofs.Pairs.{word_of}
use Rattle.gm_file_edit.specs.Renewing.{with_arguments, with_last}
use Rattle.gm_file_edit.specs.About.{about}
use Rattle.gm_file_edit.specs.Edited.{with_addition, after_closing, after_first_of, after_last_of, with_change, lines_after, has_verb, new_go, put_in}

-- ---- lines without source positions

-- the line of these words, which have no source position
abbrev placed : Line Word → Line Placed
placed line = map_line unplaced_word line

abbrev loose_block : Option Placed → Option Placed
loose_block block = option_map (λ t. unplaced_word t.word) block

abbrev loose_words : List Placed → List Placed
loose_words words = map unplaced_word (words_of words)

abbrev loose_line : Line Placed → Line Placed
loose_line line = placed (plain line)

abbrev loose_lines : List (Line Placed) → List (Line Placed)
loose_lines lines = map placed (plain_lines lines)

abbrev loose_fates : List Fate → List Fate
loose_fates fates = map (λ fate. option_map loose_line fate) fates

words-plain : (words : List Word) → words_of (map unplaced_word words) ≡ words
words-plain [] = refl
words-plain (w ∷ words) = rw (words-plain words)

line-plain : (line : Line Word) → plain (placed line) ≡ line
line-plain Blank = refl
line-plain (Comment text) = refl
line-plain (Open verb suffix) = refl
line-plain (Close suffix) = refl
line-plain (Entry words suffix) = rw (words-plain _)

lines-plain : (lines : List (Line Word)) → plain_lines (map placed lines) ≡ lines
lines-plain [] = refl
lines-plain (line ∷ lines) = rw (line-plain _, lines-plain lines)

lines-append : (xs ys : List (Line Placed)) → loose_lines (xs ++ ys) ≡ loose_lines xs ++ loose_lines ys
lines-append xs ys = rw (map-append _ _ _, map-append _ _ _)

-- ---- what a line holds

pushed : {X Y : Type 0} (g : Y → X) (c : Bool) (u v : Y) → (if c then g u else g v) ≡ g (if c then u else v)
pushed g true u v = refl
pushed g false u v = refl

inside-loose : (block : Option Placed) → is_some (loose_block block) ≡ is_some block
inside-loose None = refl
inside-loose (Some verb) = refl

block-word : (block : Option Placed) → option_map word_of (loose_block block) ≡ option_map word_of block
block-word None = refl
block-word (Some verb) = refl

behind-loose : (block : Option Placed) (line : Line Placed) → block_after_line (loose_block block) (loose_line line) ≡ loose_block (block_after_line block line)
behind-loose block Blank = refl
behind-loose block (Comment text) = refl
behind-loose block (Open verb suffix) = refl
behind-loose block (Close suffix) = refl
behind-loose block (Entry words suffix) = refl

-- ---- the fates of lines

-- a rewrite doesn't depend on source positions
abbrev IsBlind : (Option Placed → Line Placed → Line Placed) → Type 0
IsBlind new = (block : Option Placed) (line : Line Placed) → new (loose_block block) (loose_line line) ≡ loose_line (new block line)

-- a line more, with a mark or not
fate-loose : (mark : Bool) (line : Line Placed) (xs ys : List Fate) → xs ≡ loose_fates ys
    → fate_by mark (loose_line line) ∷ xs ≡ loose_fates (fate_by mark line ∷ ys)
fate-loose true line xs ys e = rw e
fate-loose false line xs ys e = rw e

module _ (test : Directive → Bool) where
  passes-loose : (block : Option Placed) (line : Line Placed)
      → passes test (directive_at (loose_block block) (loose_line line)) ≡ passes test (directive_at block line)
  passes-loose block line = rw (block-word _) (rw (line-plain _))

  there-loose : (block : Option Placed) (lines : List (Line Placed)) → is_there test (loose_block block) (loose_lines lines) ≡ is_there test block lines
  there-loose block [] = refl
  there-loose block (line ∷ lines) = rw (passes-loose _ _, behind-loose _ _, there-loose (block_after_line block line) lines)

  dropping-loose : (block : Option Placed) (lines : List (Line Placed))
      → dropping_from test (loose_block block) (loose_lines lines) ≡ loose_fates (dropping_from test block lines)
  dropping-loose block [] = refl
  dropping-loose block (line ∷ lines) =
      rw (passes-loose _ _, behind-loose _ _) (fate-loose _ _ _ _ (dropping-loose (block_after_line block line) lines))

  renewing-loose : (new : Option Placed → Line Placed → Line Placed) → IsBlind new → (block : Option Placed) (lines : List (Line Placed))
      → renewing_from test new (loose_block block) (loose_lines lines) ≡ loose_fates (renewing_from test new block lines)
  renewing-loose new blind block [] = refl
  renewing-loose new blind block (line ∷ lines) =
      let behind = block_after_line block line in
      rw (passes-loose block line, behind-loose block line, blind block line, dropping-loose behind lines, renewing-loose new blind behind lines)
      (pushed loose_fates (passes test (directive_at block line))
      (Some (new block line) ∷ dropping_from test behind lines) (Some line ∷ renewing_from test new behind lines))

empties-loose : (lost : Bool) (fates : List Fate) → empties lost (loose_fates fates) ≡ empties lost fates
empties-loose lost [] = refl
empties-loose lost (None ∷ fates) = empties-loose true fates
empties-loose lost (Some Blank ∷ fates) = empties-loose lost fates
empties-loose lost (Some (Comment text) ∷ fates) = refl
empties-loose lost (Some (Open verb suffix) ∷ fates) = refl
empties-loose lost (Some (Close suffix) ∷ fates) = refl
empties-loose lost (Some (Entry words suffix) ∷ fates) = refl

widened-loose : (block : Option Bool) (behind : Bool) (fates : List Fate)
    → widened_from block behind (loose_fates fates) ≡ loose_fates (widened_from block behind fates)
widened-loose block behind [] = refl
widened-loose block behind (None ∷ fates) = rw (widened-loose block behind fates)
widened-loose block behind (Some Blank ∷ fates) = fate-loose _ _ _ _ (widened-loose block false fates)
widened-loose block behind (Some (Comment text) ∷ fates) = rw (widened-loose block false fates)
widened-loose block behind (Some (Open verb suffix) ∷ fates) =
    let emptied : Bool = is_emptied block suffix fates in
    rw (empties-loose false fates) (fate-loose _ _ _ _ (widened-loose (Some emptied) false fates))
widened-loose block behind (Some (Close suffix) ∷ fates) = fate-loose _ _ _ _ (widened-loose None (is_in_gone block) fates)
widened-loose block behind (Some (Entry words suffix) ∷ fates) = rw (widened-loose block false fates)

kept-loose : (fates : List Fate) → kept_lines (loose_fates fates) ≡ loose_lines (kept_lines fates)
kept-loose [] = refl
kept-loose (None ∷ fates) = kept-loose fates
kept-loose (Some line ∷ fates) = rw (kept-loose fates)

remaining-loose : (fates : List Fate) → remaining (loose_fates fates) ≡ loose_lines (remaining fates)
unfolding remaining
remaining-loose fates = rw (widened-loose None _ _) (kept-loose (widened_from None false fates))

dropped-loose : (test : Directive → Bool) (lines : List (Line Placed)) → without_targets test (loose_lines lines) ≡ loose_lines (without_targets test lines)
dropped-loose test lines = rw (dropping-loose _ None _) (remaining-loose _)

renewed-loose : (test : Directive → Bool) (new : Option Placed → Line Placed → Line Placed) → IsBlind new
    → (lines : List (Line Placed)) → with_renewal test new (loose_lines lines) ≡ loose_lines (with_renewal test new lines)
renewed-loose test new blind lines = rw (renewing-loose _ _ blind None _) (remaining-loose _)

-- ---- rewritten entries

-- words that have no source positions
abbrev AreLoose : List Placed → Type 0
AreLoose words = loose_words words ≡ words

words-append : (xs ys : List Placed) → loose_words (xs ++ ys) ≡ loose_words xs ++ loose_words ys
words-append xs ys = rw (map-append _ _ _, map-append _ _ _)

front-loose : (n : ℕ) (words arguments : List Placed) → AreLoose arguments → take n (loose_words words) ++ arguments ≡ loose_words (take n words ++ arguments)
front-loose n words arguments are = rw (words-append _ _, are, take-map _ _ _, take-map _ _ _)

last-blind : (value : List ℕ) → IsBlind (with_last value)
last-blind value block Blank = refl
last-blind value block (Comment text) = refl
last-blind value block (Open verb suffix) = refl
last-blind value block (Close suffix) = refl
last-blind value block (Entry words suffix) =
    rw (length-map (words_of words) unplaced_word, length-map words word_of, front-loose _ _ _ refl)

arguments-blind : (arguments : List Placed) → AreLoose arguments → IsBlind (with_arguments arguments)
arguments-blind arguments are block Blank = refl
arguments-blind arguments are block (Comment text) = refl
arguments-blind arguments are block (Open verb suffix) = refl
arguments-blind arguments are block (Close suffix) = refl
arguments-blind arguments are block (Entry words suffix) = rw (inside-loose _, front-loose _ _ _ are)

left-are : (path : List ℕ) (version : Option (List ℕ)) → AreLoose (left_words path version)
left-are path None = refl
left-are path (Some version) = refl

right-are : (right : Right) → AreLoose (right_words right)
right-are (Folder text) = refl
right-are (Module path version) = refl

replace-are : (r : Replacing) → AreLoose (replace_words r)
replace-are r =
    words-append (left_words r.0.path r.0.version) (made_mark Arrow ∷ right_words r.1) ∙ rw (left-are r.0.path r.0.version, right-are r.1)

interval-are : (ends : VersionInterval) → AreLoose (interval_words ends)
interval-are ends = elim (cases_Bool (bytes_eq ends.0 ends.1)) [ inl e ↦ rw e | inr e ↦ rw e ]

-- ---- added entries

module _ (verb : List ℕ) (arguments : List Placed) (are : AreLoose arguments) where
  entry-loose : (inside : Bool) → loose_line (entry_at inside verb arguments) ≡ entry_at inside verb arguments
  entry-loose false = rw are
  entry-loose true = rw are

  after-last-loose : (test : Directive → Bool) (block : Option Placed) (lines : List (Line Placed))
      → after_last_of test verb arguments (loose_block block) (loose_lines lines) ≡ loose_lines (after_last_of test verb arguments block lines)
  after-last-loose test block [] = refl
  after-last-loose test block (line ∷ lines) =
      let behind = block_after_line block line in
      let entry = entry_at (is_some block) verb arguments in
      rw (
        passes-loose test block line,
        behind-loose block line,
        there-loose test behind lines,
        inside-loose block,
        after-last-loose test behind lines,
      ) (rw (entry-loose (is_some _)) at (pushed loose_lines (passes test (directive_at block line) && not (is_there test behind lines))
      (line ∷ entry ∷ lines) (line ∷ after_last_of test verb arguments behind lines)))

  added-loose : (lines : List (Line Placed)) → with_addition verb arguments (loose_lines lines) ≡ loose_lines (with_addition verb arguments lines)
  unfolding with_addition
  added-loose lines =
      let new : List (Line Placed) = Blank ∷ single verb arguments ∷ [] in
      let at_end : loose_lines lines ++ new ≡ loose_lines (lines ++ new) = rw (lines-append lines new, are) in
      rw (there-loose (has_verb verb) None lines, after-last-loose (has_verb verb) None lines, at_end)
      (pushed loose_lines (is_there (has_verb verb) None lines) (after_last_of (has_verb verb) verb arguments None lines) (lines ++ new))

module _ (new : List (Line Placed)) (are : loose_lines new ≡ new) where
  new-loose : (lines : List (Line Placed)) → new ++ loose_lines lines ≡ loose_lines (new ++ lines)
  new-loose lines = rw (lines-append _ _, are)

  closing-loose : (lines : List (Line Placed)) → after_closing new (loose_lines lines) ≡ loose_lines (after_closing new lines)
  closing-loose [] = sym are
  closing-loose (Blank ∷ lines) = rw (closing-loose lines)
  closing-loose (Comment text ∷ lines) = rw (closing-loose lines)
  closing-loose (Open verb suffix ∷ lines) = rw (closing-loose lines)
  closing-loose (Close suffix ∷ lines) = rw (new-loose lines)
  closing-loose (Entry words suffix ∷ lines) = rw (closing-loose lines)

  first-of-loose : (test : Directive → Bool) (block : Option Placed) (lines : List (Line Placed))
      → after_first_of test new (loose_block block) (loose_lines lines) ≡ loose_lines (after_first_of test new block lines)
  first-of-loose test block [] = sym are
  first-of-loose test block (line ∷ lines) =
      let behind = block_after_line block line in
      let here : List (Line Placed) = if is_some block then after_closing new lines else new ++ lines in
      rw (
        passes-loose test block line,
        behind-loose block line,
        inside-loose block,
        closing-loose lines,
        new-loose lines,
        first-of-loose test behind lines,
        pushed loose_lines (is_some _) (after_closing new lines) (new ++ lines),
        pushed loose_lines (passes test (directive_at block line)) here (after_first_of test new behind lines),
      )

-- ---- the lines after an operation

changed-loose : (edit : Edit) (lines : List (Line Placed)) → with_change edit (loose_lines lines) ≡ loose_lines (with_change edit lines)
unfolding with_change
changed-loose (Set (ModuleIs path)) lines = renewed-loose _ _ (last-blind _) _
changed-loose (Set (GoIs text)) lines = renewed-loose _ _ (last-blind _) _
changed-loose (Set (RequireAt p)) lines = renewed-loose _ _ (last-blind _) _
changed-loose (Drop t) lines = dropped-loose _ _
changed-loose (Add a) lines = refl
changed-loose (Set (ReplaceWith r)) lines = renewed-loose _ _ (arguments-blind _ (replace-are _)) _

put-in-loose : (edit : Edit) (lines : List (Line Placed)) → put_in edit (loose_lines lines) ≡ loose_lines (put_in edit lines)
unfolding put_in
put-in-loose (Set (ModuleIs path)) lines = refl
put-in-loose (Set (GoIs text)) lines = first-of-loose (new_go text) refl is_module None lines
put-in-loose (Set (RequireAt p)) lines = added-loose _ _ refl _
put-in-loose (Set (ReplaceWith r)) lines = added-loose _ _ (replace-are _) _
put-in-loose (Add (Exclude p)) lines = added-loose _ _ refl _
put-in-loose (Add (Retract ends)) lines = added-loose (codes "retract") (interval_words ends) (interval-are ends) lines
put-in-loose (Drop t) lines = refl

pass-loose : (edit : Edit) (lines : List (Line Placed)) → lines_after edit (loose_lines lines) ≡ loose_lines (lines_after edit lines)
unfolding lines_after
pass-loose edit lines = rw (there-loose _ None _, changed-loose _ _, put-in-loose _ _)
    (pushed loose_lines (is_there (about edit) None lines) (with_change edit lines) (put_in _ _))

-- an operation gives the same result for lines that differ only in source positions
pub edited-same : (edit : Edit) (lines others : List (Line Placed)) → plain_lines lines ≡ plain_lines others
    → plain_lines (lines_after edit lines) ≡ plain_lines (lines_after edit others)
edited-same edit lines others e =
    let loose : (ls : List (Line Placed)) → plain_lines (lines_after edit ls) ≡ plain_lines (lines_after edit (loose_lines ls)) =
    λ ls. sym (ap plain_lines (pass-loose _ _) ∙ lines-plain _) in
    loose lines ∙ rw e (sym (loose others))
