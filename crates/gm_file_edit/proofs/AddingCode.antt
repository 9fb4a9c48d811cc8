-- The loops that find the position of a new entry, and the insertion of lines.
use Rattle.std.proofs.Common.{◌≡◌, ℕ, suc, ◌+◌, ◌<◌, ◌≤◌, Bool, true, false, List, [], ◌∷◌, ◌++◌, length, take, drop, Option, None, is_some, refl, sym, ap, ◌∙◌, append-nil, append_assoc, arith}
use Rattle.std.specs.Prelude.{if◌then◌else◌, insert}
use Rattle.std.proofs.lemmas.List.{drop_all, length-append, length-take-le, take-append-drop, take_all, take_more}
use Rattle.gm_syntax_words.specs.Tokens.{Placed}
use Rattle.gm_syntax.specs.Document.{Line, Blank, Close}
use Rattle.gm_file.specs.Directives.{Directive, block_after_lines, is_of_verb, verb_eq}
use Rattle.gm_file.specs.Faults.{is_module}
use Rattle.gm_file_edit.specs.Edited.{after_closing, after_first_of}
use Rattle.gm_file_edit.specs.declared.adding.Spot.{Spot}
use Rattle.gm_file_edit.specs.NewWords.{entry_at}
use Rattle.gm_file_edit.specs.Holding.{directive_at, passes, is_there, is_loose}
use Rattle.gm_file_edit.specs.Private.Keys.{key_at}
use Rattle.gm_file_edit.specs.Private.Marks.{IsAdditionSpot, line_at}
use Rattle.gm_file_edit.specs.declared.keys.Key.{Key}
use Rattle.gm_file.specs.declared.verb.Verb.{Verb}
use Rattle.gm_file.specs.declared.verb.Verb.TheVariants.{Module as ForModule}
use Rattle.gm_file.proofs.SimpleLines.{none-open}
use Rattle.gm_file_edit.proofs.Insertions.{IsLast, added-after-last, passing-level, passing-verb}
use Rattle.gm_file_edit.proofs.Pairs.{block-append}
use Rattle.gm_file_edit.proofs.Targets.{IsKnown, verb-tells}
use Rattle.gm_file_edit.proofs.Walking.{block-next, line-here}

-- ---- the position after the last directive of a verb

-- the position directly after the last line that holds a directive that passes the test
record IsSpotOf (test : Directive → Bool) (lines : List (Line Placed)) (spot : Spot) : Type 0 where
  last : IsLast test None lines
  before : spot.before ≡ suc (length last.front)
  inside : spot.inside ≡ is_some (block_after_lines None last.front)

insert-behind : (front back : List (Line Placed)) (line entry : Line Placed)
    → insert (front ++ line ∷ back) (suc (length front)) entry ≡ front ++ line ∷ entry ∷ back
insert-behind [] back line entry = refl
insert-behind (first ∷ front) back line entry = rw (insert-behind front back line entry)

take-behind : (front back : List (Line Placed)) (line : Line Placed) → take (suc (length front)) (front ++ line ∷ back) ≡ front ++ line ∷ []
take-behind [] back line = refl
take-behind (first ∷ front) back line = rw (take-behind front back line)

-- the block that is open there is that of the last line
spot-block : {test : Directive → Bool} {lines : List (Line Placed)} {spot : Spot} (is : IsSpotOf test lines spot)
    → block_after_lines None (take spot.before lines) ≡ block_after_lines None is.last.front
spot-block {test} is =
    let last = is.last in
    rw (is.before, last.parts, take-behind _ _ _, block-append None _ _) (passing-level _ _ _ last.hit)

-- it is where an entry of the verb is added
place-is : {own : Verb} {lines : List (Line Placed)} {spot : Spot} → IsSpotOf (is_of_verb own) lines spot → IsAdditionSpot own lines spot
place-is {own} is =
    let last = is.last in
    let long = ap length last.parts ∙ length-append last.front (last.line ∷ last.back) in
    let before = is.before in
    record {
      in_range = omega (arith, long, before);
      inside = ap is_some (spot-block is) ∙ sym is.inside;
      of_verb = λ verb named.
          let own = ap is_of_verb (sym named) in
          rw (spot-block is) (passing-verb verb (block_after_lines None last.front) last.line _ refl (rw own at last.hit));
      adds = λ verb arguments named.
          let own = ap is_of_verb (sym named) in
          rw (
            last.parts,
            is.before,
            is.inside,
            insert-behind last.front last.back last.line (entry_at (is_some _) verb arguments),
            added-after-last verb arguments last.front last.back last.line (rw own at last.hit) (rw own at last.later),
          );
    }

-- Loop invariant: none of the lines from an index on holds a directive of the verb.
pub record IsTail (own : Verb) (lines : List (Line Placed)) (n : ℕ) : Type 0 where
  pub in_range : n ≤ length lines
  pub none : is_there (is_of_verb own) (block_after_lines None (take n lines)) (drop n lines) ≡ false

pub tail-begin : (own : Verb) {lines : List (Line Placed)} {n : ℕ} → n ≡ length lines → IsTail own lines n
tail-begin own {lines} {n} is = record { in_range = omega (arith, is); none = rw (drop_all n lines (omega (arith, is))) }

pub tail-end : {own : Verb} {lines : List (Line Placed)} {n : ℕ} → n ≡ 0 → IsTail own lines n → is_there (is_of_verb own) None lines ≡ false
tail-end over so = rw over at so.none

-- the line before the tail
module _ {own : Verb} {lines : List (Line Placed)} {n : ℕ} (next : ℕ) {key : Key} {found : Bool} (known : IsKnown own) (is : next + 1 ≡ n)
    (key_is : key ≡ key_at (block_after_lines None (take next lines)) (line_at lines next)) (tells : found ≡ verb_eq own key.verb)
    (so : IsTail own lines n) where
  lt-next : next < length lines
  lt-next = let le = so.in_range in omega (arith, le, is)

  none-next : is_there (is_of_verb own) (block_after_lines None (take (next + 1) lines)) (drop (next + 1) lines) ≡ false
  none-next = rw is so.none

  told-next : found ≡ passes (is_of_verb own) (directive_at (block_after_lines None (take next lines)) (line_at lines next))
  told-next = tells ∙ rw key_is (verb-tells _ known _)

  -- one more line
  pub tail-more : found ≡ false → IsTail own lines next
  tail-more fails =
      let lt = lt-next in
      record {
        in_range = omega (arith, lt);
        none = rw (line-here _ _ lt, sym told-next ∙ fails, ← block-next _ _ lt) none-next;
      }

  -- the entry before the tail is the last
  pub tail-found : found ≡ true → IsAdditionSpot own lines (record { before = n; inside = key.inside })
  tail-found holds =
      let lt = lt-next in
      let count = length-take-le next lines (omega (arith, lt)) in
      place-is (record {
        last = record {
          front = take next lines;
          line = line_at lines next;
          back = drop (next + 1) lines;
          parts = rw (line-here lines next lt) at (sym (take-append-drop next lines));
          hit = sym told-next ∙ holds;
          later = rw (← take_more lines next Blank lt) none-next;
        };
        before = omega (arith, count, is);
        inside = rw key_is;
      })

pub entry-loose : (inside : Bool) (verb : List ℕ) (arguments : List Placed) → is_loose (entry_at inside verb arguments) ≡ true
entry-loose true verb arguments = refl
entry-loose false verb arguments = refl

-- lines that are inserted at the end
pub at-end : (lines new : List (Line Placed)) (n : ℕ) → n ≡ length lines → take n lines ++ (new ++ drop n lines) ≡ lines ++ new
at-end lines new n is = rw (drop_all n lines (omega (arith, is)), take_all n lines (omega (arith, is)), append-nil new)

-- ---- the position of a go directive

-- Loop invariant: the lines up to an index are passed over.
abbrev pub IsUnmetTo : List (Line Placed) → ℕ → Type 0
IsUnmetTo whole n = (new : List (Line Placed)) → take n whole ++ after_first_of is_module new
    (block_after_lines None (take n whole)) (drop n whole) ≡ after_first_of is_module new None whole

module _ (whole : List (Line Placed)) {n : ℕ} {key : Key} {found : Bool} (lt : n < length whole)
    (is : key ≡ key_at (block_after_lines None (take n whole)) (line_at whole n)) (tells : found ≡ verb_eq ForModule key.verb)
    (so : IsUnmetTo whole n) where
  told-here : found ≡ passes is_module (directive_at (block_after_lines None (take n whole)) (line_at whole n))
  told-here = tells ∙ rw is (verb-tells ForModule refl _)

  -- the lines up to and including the next one
  taken-next : (rest : List (Line Placed)) → take (n + 1) whole ++ rest ≡ take n whole ++ line_at whole n ∷ rest
  taken-next rest = rw (take_more _ _ Blank lt) (append_assoc (take n whole) _ _)

  -- the lines from the next one on, with new ones after the first module directive
  here-on : (new : List (Line Placed)) → take n whole ++ after_first_of is_module new (block_after_lines None (take n whole))
      (line_at whole n ∷ drop (n + 1) whole) ≡ after_first_of is_module new None whole
  here-on new = rw (line-here whole n lt) at (so new)

  pub unmet-more : found ≡ false → IsUnmetTo whole (n + 1)
  unmet-more fails = λ new. rw (block-next whole n lt) (taken-next _ ∙ rw (sym told-here ∙ fails) at (here-on new))

  -- the lines with new ones after the line at an index, or after its block
  pub unmet-found : found ≡ true → (new : List (Line Placed))
      → take (n + 1) whole ++ (if key.inside then after_closing new (drop (n + 1) whole) else new ++ drop (n + 1) whole) ≡ after_first_of is_module new None whole
  unmet-found holds new = rw is (taken-next _ ∙ rw (sym told-here ∙ holds) at (here-on new))

  -- no block is open after the line, if it is in none
  pub outside-found : found ≡ true → key.inside ≡ false → block_after_lines None (take (n + 1) whole) ≡ None
  outside-found holds outside =
      let block = block_after_lines None (take n whole) in
      block-next _ _ lt ∙ passing-level _ _ _ (sym told-here ∙ holds) ∙ none-open _ (sym (rw is) ∙ outside)

pub unmet-end : (whole : List (Line Placed)) {n count : ℕ} → length whole ≤ n → count ≡ length whole
    → IsUnmetTo whole n → (new : List (Line Placed)) → take count whole ++ (new ++ drop count whole)
    ≡ after_first_of is_module new None whole
unmet-end whole {n} {count} over is so new = at-end whole new count is ∙ rw (take_all n whole over, drop_all n whole over) at (so new)

pub outside-end : (lines : List (Line Placed)) {count : ℕ} → count ≡ length lines → block_after_lines None lines ≡ None
    → block_after_lines None (take count lines) ≡ None
outside-end lines {count} is closed = rw (take_all count lines (omega (arith, is))) closed

-- ---- the position after a block

-- Loop invariant: new lines after the closing of the rest are new lines after that of the whole.
abbrev pub IsOpenTo : List (Line Placed) → ℕ → ℕ → Type 0
IsOpenTo whole from n = (new : List (Line Placed)) → take n whole ++ after_closing new (drop n whole) ≡ take from whole ++ after_closing new (drop from whole)

-- no block is open after a closing
pub outside-closing : (lines : List (Line Placed)) (n : ℕ) {suffix : Option (List ℕ)} → n < length lines → line_at lines n ≡ Close suffix
    → block_after_lines None (take (n + 1) lines) ≡ None
outside-closing lines n lt is = block-next _ _ lt ∙ rw is
