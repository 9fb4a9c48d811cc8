-- What an entry is about, by its words.
use Rattle.std.proofs.Common.{◌≡◌, ℕ, suc, ◌+◌, ◌&&◌, Bool, true, false, List, [], ◌∷◌, Option, Some, None, is_some, refl, ap, arith, inl, inr}
use Rattle.std.specs.List.{after_first, before_first, position_or_len}
use Rattle.std.proofs.lemmas.Bool.{cases_Bool}
use Rattle.gm_name.specs.ModuleVersion.{ModuleVersion}
use Rattle.gm_syntax_words.specs.declared.word.Kind.{Kind}
use Rattle.gm_syntax_words.specs.declared.word.Kind.TheVariants as kind
use Rattle.gm_syntax_words.specs.Words.{Word, HasValue, is_mark}
use Rattle.gm_syntax.proofs.NewWords.{value_is}
use Rattle.gm_file.specs.declared.verb.Verb.{Verb}
use Rattle.gm_file.specs.declared.verb.Verb.TheVariants as verb
use Rattle.gm_file.specs.Directives.{Strict, Directive, Kept, Left, VersionInterval, directive_of, ends_of, is_arrow, is_of_arrow, left_of, pair, pair_of, right_of}
use Rattle.gm_file.specs.Faults.{entry_kinds}
use Rattle.gm_file.specs.Values.{argument, argument_of_kind}
use Rattle.gm_file_edit.specs.Private.Keys.{Subject, held_subject, key_with, subject_of, texts_named}
use Rattle.gm_file_edit.proofs.NoLineFeeds.{both-are, map-some}

-- ---- one word

pub text-argument : (w : Word) (value : List ℕ) → w.kind ≡ kind.Text → HasValue w value → argument w ≡ Some value
text-argument w value is has = rw is (ap Some (rw is at (value_is _ _ has)))

arrow-kind : (k : Kind) (text : List ℕ) → is_of_arrow k text ≡ true → argument_of_kind k text ≡ None
arrow-kind kind.Bare text is = absurd cc
arrow-kind kind.Text text is = absurd cc
arrow-kind kind.Mark text is = refl

-- ---- the texts that directives name

abbrev pub Texts : Type 0
Texts = Option (List ℕ) × Option (List ℕ)

abbrev texts : Option (List ℕ) → Option (List ℕ) → Texts
texts one other = (one, other)

both-texts : (one other : Option (List ℕ)) {x y : List ℕ} → one ≡ Some x → other ≡ Some y → texts (Some x) (Some y) ≡ texts one other
both-texts one other first second = rw (first, second)

one-text : (one other : Option (List ℕ)) {x : List ℕ} → one ≡ Some x → other ≡ None → texts (Some x) None ≡ texts one other
one-text one other first none = rw (first, none)

pair-texts : (words : List Word) {p : ModuleVersion} → pair_of words ≡ Some p
    → (texts (Some p.0) None ≡ texts_named verb.Require words) × (texts (Some p.0) (Some p.1) ≡ texts_named verb.Exclude words)
pair-texts [] is = absurd cc
pair-texts (a ∷ []) is = absurd cc
pair-texts (a ∷ b ∷ []) is =
    let parts = both-are _ _ _ is in (
      rw (← parts.4) (one-text _ None parts.2 refl),
      rw (← parts.4) (both-texts _ _ parts.2 parts.3),
    )
pair-texts (a ∷ b ∷ c ∷ words) is = absurd cc

ends-texts : (words : List Word) {ends : VersionInterval} → ends_of words ≡ Some ends → texts (Some ends.0) (Some ends.1) ≡ texts_named verb.Retract words
ends-texts [] is = absurd cc
ends-texts (v ∷ []) is =
    let one = map-some _ _ is in
    rw (← one.2) (both-texts _ _ one.1 one.1)
ends-texts (a ∷ v ∷ []) is = absurd cc
ends-texts (a ∷ v ∷ b ∷ []) is = absurd cc
ends-texts (a ∷ v ∷ b ∷ w ∷ []) is = absurd cc
ends-texts (a ∷ v ∷ b ∷ w ∷ c ∷ []) {ends} is = elim (cases_Bool (is_mark 91 a && is_mark 44 b && is_mark 93 c)) [
  | inl brackets ↦
      let parts = both-are pair (argument v) (argument w) (rw brackets at is) in
      rw (← parts.4) (both-texts (argument v) (argument w) parts.2 parts.3)
  | inr none ↦ let never : None ≡ Some ends = rw none at is in absurd cc
]
ends-texts (a ∷ v ∷ b ∷ w ∷ c ∷ e ∷ words) is = absurd cc

-- words before and after the first arrow
cut-here : (word : Word) (words : List Word) → is_arrow word ≡ true → before_first is_arrow (word ∷ words) ≡ []
cut-here word words arrow = rw arrow

cut-more : (word : Word) (words : List Word) → is_arrow word ≡ false
    → (before_first is_arrow (word ∷ words) ≡ word ∷ before_first is_arrow words) × (after_first is_arrow (word ∷ words) ≡ after_first is_arrow words)
cut-more word words text =
    let n = position_or_len is_arrow words in
    let more : 1 + n ≡ suc n = omega arith in
    let next : position_or_len is_arrow (word ∷ words) ≡ suc n = rw text more in
    let after : suc n + 1 ≡ suc (n + 1) = omega arith in (
      rw next,
      rw next (rw after),
    )

two-texts : (a b : Word) (rest : List Word) {left : Left} → left_of (a ∷ b ∷ rest) ≡ Some left → texts (Some left.path) left.version ≡ texts (argument a) (argument b)
two-texts a b [] is =
    let made = both-are _ _ _ is in
    rw (← made.4) (both-texts _ _ made.2 made.3)
two-texts a b (c ∷ rest) is = absurd cc

-- the words before the arrow are the left side, and the arrow is no text
behind-path : (a : Word) (words : List Word) {left : Left} → left_of (a ∷ before_first is_arrow words) ≡ Some left
    → is_some (right_of (after_first is_arrow words)) ≡ true → texts (Some left.path) left.version ≡ texts_named verb.Replace (a ∷ words)
behind-path a [] is more = absurd cc
behind-path a (b ∷ words) is more = elim (cases_Bool _) [
  | inl arrow ↦
      let made = map-some _ _ (rw (cut-here _ _ arrow) at is) in
      rw (← made.2) (one-text _ _ made.1 (arrow-kind _ _ arrow))
  | inr other ↦ two-texts _ _ _ (rw (cut-more b words other).0 at is)
]

left-texts : (words : List Word) {left : Left} → left_of (before_first is_arrow words) ≡ Some left
    → is_some (right_of (after_first is_arrow words)) ≡ true → texts (Some left.path) left.version ≡ texts_named verb.Replace words
left-texts [] is more = absurd cc
left-texts (a ∷ words) is more = elim (cases_Bool (is_arrow a)) [
  | inl arrow ↦ absurd (let never = rw (cut-here a words arrow) at is in cc)
  | inr text ↦ let cut = cut-more a words text in behind-path a words (rw cut.0 at is) (rw cut.1 at more)
]

-- ---- entries

abbrev pub subject : Verb → Texts → Subject
subject own named = (own, named)

pub entry-texts : (own : Verb) (words : List Word) (d : Directive) → directive_of own words ≡ Some d → subject_of d ≡ subject own (texts_named own words)
unfolding directive_of
entry-texts verb.Module words d says = let made = map-some _ _ says in rw (← made.2)
entry-texts verb.Go words d says = let made = map-some _ _ says in rw (← made.2)
entry-texts verb.Require words d says =
    let made = map-some _ _ says in
    rw (← made.2) (ap (subject verb.Require) (pair-texts _ made.1).0)
entry-texts verb.Exclude words d says =
    let made = map-some _ _ says in
    rw (← made.2) (ap (subject verb.Exclude) (pair-texts words made.1).1)
entry-texts verb.Replace words d says =
    let made = map-some _ _ says in
    let parts = both-are _ _ _ made.1 in
    rw (← made.2, ← parts.4) (ap (subject verb.Replace) (left-texts words parts.2 (ap is_some parts.3)))
entry-texts verb.Retract words d says =
    let made = map-some _ _ says in
    rw (← made.2) (ap (subject verb.Retract) (ends-texts words made.1))
entry-texts verb.Nothing words d says = let same : Kept ≡ d = cc in rw (← same)
entry-texts verb.Unknown words d says = absurd cc

entry-about : (own : Verb) (words : List Word) (held : Option Directive) → directive_of own words ≡ held → entry_kinds Strict [] own held ≡ []
    → held_subject held ≡ subject own (texts_named own words)
entry-about own words None says valid = absurd cc
entry-about own words (Some d) says valid = entry-texts _ _ _ says

-- a valid entry has the key of its verb and of the texts in its words
pub entry-key : (own : Verb) (words : List Word) (inside : Bool) {named : Texts} → entry_kinds Strict [] own (directive_of own words) ≡ []
    → named ≡ texts_named own words → key_with (subject own named) inside ≡ key_with (held_subject (directive_of own words)) inside
entry-key own words inside valid is = rw (is, entry-about _ _ _ refl valid)
