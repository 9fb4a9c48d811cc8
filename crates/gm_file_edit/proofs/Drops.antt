-- Lines of which entries are removed or rewritten stay a document without a fault: each line stays right in its block,
-- and the directives are those that aren't targeted, with the new one.
use Rattle.std.proofs.Common.{◌≡◌, ◌||◌, Bool, true, false, List, [], ◌∷◌, Option, None, refl, ◌∙◌, inl, inr}
use Rattle.std.specs.Prelude.{filter}
use Rattle.std.specs.List.{list_any}
use Rattle.std.proofs.lemmas.Bool.{cases_Bool, or_parts}
use Rattle.gm_syntax_words.specs.Tokens.{Placed}
use Rattle.gm_syntax.specs.Document.{Line}
use Rattle.gm_file.specs.Directives.{Directive, block_after_line, block_after_lines}
use Rattle.gm_file.specs.Faults.{is_module}
use Rattle.gm_file.specs.Pairwise.{do_clash}
use Rattle.gm_file.proofs.Pairwise.{AreApart, clash-mutual}
use Rattle.gm_file_edit.specs.Fates.{Fate, without_targets, dropping_from, kept_lines, remaining, with_renewal, renewing_from}
use Rattle.gm_file_edit.specs.Holding.{directive_at, passes, is_there}
use Rattle.gm_file_edit.proofs.Filters.{fewer-any, filter-any, none-any, none-filtered, others}
use Rattle.gm_file_edit.proofs.Insertions.{passing-level}
use Rattle.gm_file_edit.proofs.Pairs.{AreRightFrom, IsSound, held_from}
use Rattle.gm_file_edit.proofs.Made.{IsRenewal, Makes}
use Rattle.gm_file_edit.proofs.DirectivesAfter.{dropped-held, held-some, renewed-alone, renewed-others}
use Rattle.gm_file_edit.proofs.KeptBlocks.{fewer-all, remaining-left}

-- ---- the lines

-- the lines are right, and the block that is open after them is this
abbrev AreRightTo : Option Placed → List (Line Placed) → Option Placed → Type 0
AreRightTo block lines last = AreRightFrom block lines × (block_after_lines block lines ≡ last)

dropping-right : (test : Directive → Bool) (block : Option Placed) (lines : List (Line Placed))
    → AreRightFrom block lines → AreRightTo block (kept_lines (dropping_from test block lines))
    (block_after_lines block lines)
dropping-right test block [] right = (tt, refl)
dropping-right test block (line ∷ lines) right = elim (cases_Bool (passes test (directive_at block line))) [
  | inl hit ↦
      let level = passing-level test block line hit in
      rw (hit, level) (dropping-right test block lines (rw level at right.1))
  | inr miss ↦ let rest = dropping-right test (block_after_line block line) lines right.1 in rw miss ((right.0, rest.0), rest.1)
]

renewing-right : (test : Directive → Bool) (said : Directive) (make : Option Placed → Line Placed → Line Placed)
    → Makes test said make → (block : Option Placed) (lines : List (Line Placed)) → AreRightFrom block lines
    → AreRightTo block (kept_lines (renewing_from test make block lines)) (block_after_lines block lines)
renewing-right test said make makes block [] right = (tt, refl)
renewing-right test said make makes block (line ∷ lines) right = elim (cases_Bool (passes test (directive_at block line))) [
  | inl hit ↦
      let h = held-some test (directive_at block line) hit in
      let made = makes block line h.0 h.1 h.2 right.0.0 in
      let level = passing-level test block line hit in
      let rest = dropping-right test block lines (rw level at right.1) in
      rw (hit, level, made.is_entry) (((made.stands, made.alone), rest.0), rest.1)
  | inr miss ↦ let rest = renewing-right test said make makes (block_after_line block line) lines right.1 in rw miss ((right.0, rest.0), rest.1)
]

left-right : (fates : List Fate) → AreRightTo None (kept_lines fates) None → AreRightTo None (remaining fates) None
left-right fates right = let left = remaining-left _ in (fewer-all _ left.0 right.0, left.1 right.1)

-- ---- the directives

apart-filter : (q : Directive → Bool) (ds : List Directive) → AreApart ds → AreApart (filter q ds)
apart-filter q [] apart = tt
apart-filter q (d ∷ ds) apart = elim (cases_Bool (q d)) [
  | inl hit ↦ rw hit (filter-any (do_clash d) q ds apart.0, apart-filter q ds apart.1)
  | inr miss ↦ rw miss (apart-filter q ds apart.1)
]

or-front : (a b c : Bool) {x : Bool} → x ≡ (b || c) → (a || x) ≡ ((a || b) || c)
or-front true b c e = refl
or-front false b c e = e

or-middle : (a b c : Bool) {x : Bool} → x ≡ (b || c) → (a || x) ≡ (b || (a || c))
or-middle true true c e = refl
or-middle true false c e = refl
or-middle false b c e = e

-- what passes is among the targeted or the others
any-parts : (test p : Directive → Bool) (ds : List Directive) → list_any p ds ≡ (list_any p (filter test ds) || list_any p (filter (others test) ds))
any-parts test p [] = refl
any-parts test p (d ∷ ds) = elim (cases_Bool (test d)) [
  | inl hit ↦ rw hit (or-front (p d) (list_any p (filter test ds)) (list_any p (filter (others test) ds)) (any-parts test p ds))
  | inr miss ↦ rw miss (or-middle (p d) (list_any p (filter test ds)) (list_any p (filter (others test) ds)) (any-parts test p ds))
]

-- of the targeted directives there is the new one alone, and the others are apart
pub new-apart : (test : Directive → Bool) (new : Directive)
    → ((d : Directive) → test d ≡ false → do_clash new d ≡ false) → (ds : List Directive) → filter test ds ≡ new ∷ []
    → AreApart (filter (others test) ds) → AreApart ds
new-apart test new mild [] alone apart = tt
new-apart test new mild (d ∷ ds) alone apart = elim (cases_Bool (test d)) [
  | inl hit ↦
      let whole : d ∷ filter test ds ≡ new ∷ [] = rw hit at alone in
      let same : d ≡ new = cc in
      let none : filter test ds ≡ [] = cc in (
        rw same (fewer-any test (do_clash new) mild ds (none-any test ds none)),
        rw (hit, only-others ds (none-any test ds none)) at apart,
      )
  | inr miss ↦
      let one : filter test ds ≡ new ∷ [] = rw miss at alone in
      let both : AreApart (d ∷ filter (others test) ds) = rw miss at apart in (
        rw (any-parts test (do_clash d) ds, one, clash-mutual d new, mild d miss) both.0,
        new-apart test new mild ds one both.1,
      )
]
  where
    only-others : (es : List Directive) → list_any test es ≡ false → filter (others test) es ≡ es
    only-others [] none = refl
    only-others (e ∷ es) none = let parts = or_parts (test e) (list_any test es) none in
        rw (parts.0, only-others es parts.1)

-- if no targeted directive declares a module, one of the others does
others-declared : (test : Directive → Bool) → ((d : Directive) → test d ≡ true → is_module d ≡ false)
    → (ds : List Directive) → list_any is_module ds ≡ true → list_any is_module (filter (others test) ds) ≡ true
others-declared test other ds some = rw (any-parts test is_module ds, none-filtered _ _ other _) at some

-- ---- both

sound-by : (lines : List (Line Placed)) → AreRightTo None lines None → AreApart (held_from None lines)
    → list_any is_module (held_from None lines) ≡ true → IsSound lines
sound-by lines right apart declared = record { lines_are = record { right = right.0; apart = apart; declared = declared }; closed = right.1 }

module _ (test : Directive → Bool) (lines : List (Line Placed)) (sound : IsSound lines) where
  abbrev ds : List Directive
  ds = held_from None lines

  rest-apart : AreApart (filter (others test) ds)
  rest-apart = apart-filter _ _ sound.lines_are.apart

  pub dropped-sound : ((d : Directive) → test d ≡ true → is_module d ≡ false) → IsSound (without_targets test lines)
  dropped-sound other =
      let held = dropped-held test lines in
      let right = dropping-right test None lines sound.lines_are.right in
      sound-by (without_targets test lines) (left-right (dropping_from test None lines) (right.0, right.1 ∙ sound.closed))
      (rw held rest-apart) (rw held (others-declared test other ds sound.lines_are.declared))

  pub renewed-sound : (said : Directive) (make : Option Placed → Line Placed → Line Placed) → IsRenewal test said make
      → is_there test None lines ≡ true → IsSound (with_renewal test make lines)
  renewed-sound said make by there =
      let after = held_from None (with_renewal test make lines) in
      let rest : filter (others test) after ≡ filter (others test) ds = renewed-others test said make by.wanted.own by.made lines sound in
      let alone : filter test after ≡ said ∷ [] = renewed-alone test said make by.wanted.own by.made lines sound there in
      let right = renewing-right test said make by.made None lines sound.lines_are.right in
      let declared : list_any is_module after ≡ true = elim (cases_Bool (is_module said)) [
        | inl declares ↦ rw (any-parts test is_module after, alone, declares)
        | inr other ↦ rw (any-parts test is_module after, alone, other, rest)
            (others-declared test (λ d e. by.other d e ∙ other) ds sound.lines_are.declared)
      ] in
      sound-by (with_renewal test make lines) (left-right (renewing_from test make None lines) (right.0, right.1 ∙ sound.closed))
      (new-apart test said by.wanted.mild after alone (rw rest rest-apart)) declared
