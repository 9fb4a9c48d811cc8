-- What the lines of a file say after an operation.
use Rattle.std.proofs.Common.{◌≡◌, not, Bool, true, false, List, [], ◌∷◌, Option, Some, None, is_some, refl, sym, ap, ◌∙◌, inl, inr}
use Rattle.std.specs.Prelude.{filter}
use Rattle.std.specs.List.{cons_option}
use Rattle.std.proofs.lemmas.Bool.{cases_Bool}
use Rattle.gm_syntax_words.specs.Tokens.{Placed}
use Rattle.gm_syntax.specs.Document.{Line, IsValidLine}
use Rattle.gm_syntax.specs.LineViews.{plain}
use Rattle.gm_file.specs.Directives.{Directive, block_after_line}
use Rattle.gm_file_edit.specs.Fates.{Fate, without_targets, dropping_from, kept_lines, remaining, with_renewal, renewing_from}
use Rattle.gm_file_edit.specs.Holding.{directive_at, passes, is_there}
use Rattle.gm_file_edit.proofs.Insertions.{passing-level}
use Rattle.gm_file_edit.proofs.Filters.{filter-none, filter-one, none-of-others, others, others-twice}
use Rattle.gm_file_edit.proofs.Made.{IsMadeNew, Makes}
use Rattle.gm_file_edit.proofs.KeptBlocks.{fewer-held, remaining-left}
use Rattle.gm_file_edit.proofs.Pairs.{AreRightFrom, IsSound, held_from}

-- ---- the directive that a line holds, if any, before others

gone-held : (test : Directive → Bool) (held : Option Directive) (rest : List Directive) → passes test held ≡ true
    → filter (others test) (cons_option held rest) ≡ filter (others test) rest
gone-held test None rest e = absurd cc
gone-held test (Some d) rest e = filter-none (others test) d rest (ap not e)

stay-held : (test : Directive → Bool) (held : Option Directive) (rest : List Directive) → passes test held ≡ false
    → filter (others test) (cons_option held rest) ≡ cons_option held (filter (others test) rest)
stay-held test None rest e = refl
stay-held test (Some d) rest e = filter-one (others test) _ rest (ap not e)

pub past-held : (test : Directive → Bool) (held : Option Directive) (rest : List Directive) → passes test held ≡ false
    → filter test (cons_option held rest) ≡ filter test rest
past-held test None rest e = refl
past-held test (Some d) rest e = filter-none test d rest e

-- ---- the remaining lines say what the lines that stay say

pub left-held : (fates : List Fate) → held_from None (remaining fates) ≡ held_from None (kept_lines fates)
left-held fates = fewer-held (remaining-left _).0

-- ---- what is said after entries are removed

dropping-held : (test : Directive → Bool) (block : Option Placed) (lines : List (Line Placed))
    → held_from block (kept_lines (dropping_from test block lines)) ≡ filter (others test) (held_from block lines)
dropping-held test block [] = refl
dropping-held test block (line ∷ lines) = elim (cases_Bool (passes test (directive_at block line))) [
  | inl holds ↦ rw (holds, passing-level test block line holds)
      (dropping-held test block lines ∙ sym (gone-held test (directive_at block line) (held_from block lines) holds))
  | inr fails ↦
      let behind = block_after_line block line in
      rw (fails, dropping-held test behind lines) (sym (stay-held test (directive_at block line) (held_from behind lines) fails))
]

-- a drop leaves exactly the other directives
pub dropped-held : (test : Directive → Bool) (lines : List (Line Placed))
    → held_from None (without_targets test lines) ≡ filter (others test) (held_from None lines)
dropped-held test lines = left-held _ ∙ dropping-held _ None _

-- ---- what is said after an entry is rewritten

pub held-some : (test : Directive → Bool) (held : Option Directive) → passes test held ≡ true → (d : Directive) × (held ≡ Some d) × (test d ≡ true)
held-some test None e = absurd cc
held-some test (Some d) e = (d, refl, e)

made-held : {said : Directive} {block : Option Placed} {next : Line Placed} (back : List (Line Placed))
    → IsMadeNew said block next → held_from block (next ∷ back) ≡ said ∷ held_from block back
made-held {block} back made = rw made.is_entry (rw made.holds)

-- the first matching entry is rewritten, and the later ones are removed
first-held : (test : Directive → Bool) (said : Directive) (make : Option Placed → Line Placed → Line Placed)
    → Makes test said make → (block : Option Placed) (line : Line Placed) (lines : List (Line Placed))
    → passes test (directive_at block line) ≡ true → IsValidLine (is_some block) (plain line)
    → held_from block (make block line ∷ kept_lines (dropping_from test (block_after_line block line) lines)) ≡ said
    ∷ filter (others test) (held_from (block_after_line block line) lines)
first-held test said make makes block line lines holds stands =
    let h = held-some _ _ holds in
    rw (passing-level _ _ _ holds) (made-held _ (makes block line h.0 h.1 h.2 stands) ∙ rw (dropping-held test block lines))

module _ (test : Directive → Bool) (said : Directive) (make : Option Placed → Line Placed → Line Placed)
    (own : test said ≡ true) (makes : Makes test said make) where
  renewing-others : (block : Option Placed) (lines : List (Line Placed)) → AreRightFrom block lines
      → filter (others test) (held_from block (kept_lines (renewing_from test make block lines))) ≡ filter (others test) (held_from block lines)
  renewing-others block [] right = refl
  renewing-others block (line ∷ lines) right =
      let behind = block_after_line block line in
      let held = directive_at block line in
      let rest = held_from behind lines in
      elim (cases_Bool (passes test held)) [
        | inl holds ↦
            rw (
              holds,
              first-held test said make makes block line lines holds right.0.0,
              filter-none (others test) said (filter (others test) rest) (ap not own),
              others-twice test rest,
              gone-held test held rest holds,
            )
        | inr fails ↦
            rw (fails, stay-held test held rest fails)
            (stay-held test held (held_from behind (kept_lines (renewing_from test make behind lines))) fails
            ∙ ap (cons_option held) (renewing-others behind lines right.1))
      ]

  renewing-alone : (block : Option Placed) (lines : List (Line Placed)) → AreRightFrom block lines → is_there test block lines ≡ true
      → filter test (held_from block (kept_lines (renewing_from test make block lines))) ≡ said ∷ []
  renewing-alone block [] right there = absurd cc
  renewing-alone block (line ∷ lines) right there =
      let behind = block_after_line block line in
      let rest = held_from behind lines in
      elim (cases_Bool (passes test (directive_at block line))) [
        | inl holds ↦
            rw (
              holds,
              first-held test said make makes block line lines holds right.0.0,
              filter-one test said (filter (others test) rest) own,
              none-of-others test rest,
            )
        | inr fails ↦
            rw fails (past-held test (directive_at block line) (held_from behind (kept_lines (renewing_from test make behind lines))) fails
            ∙ renewing-alone behind lines right.1 (rw fails at there))
      ]

  pub renewed-others : (lines : List (Line Placed)) → IsSound lines
      → filter (others test) (held_from None (with_renewal test make lines)) ≡ filter (others test) (held_from None lines)
  renewed-others lines sound = rw (left-held _) (renewing-others None _ sound.lines_are.right)

  pub renewed-alone : (lines : List (Line Placed)) → IsSound lines → is_there test None lines ≡ true
      → filter test (held_from None (with_renewal test make lines)) ≡ said ∷ []
  renewed-alone lines sound there = rw (left-held _) (renewing-alone None _ sound.lines_are.right there)
