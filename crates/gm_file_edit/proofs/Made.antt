-- The words of new entries, and what an entry says after its arguments are replaced.
use Rattle.std.proofs.Common.{◌≡◌, ℕ, ◌-◌, ◌<◌, Bool, true, false, List, [], ◌∷◌, ◌++◌, length, length-append, take, Option, Some, None, is_some, refl, ap, ◌∙◌, arith, inl, inr}
use Rattle.std.specs.List.{AllByRecursion}
use Rattle.std.proofs.lemmas.Bool.{cases_Bool}
use Rattle.std.proofs.lemmas.List.{take_at}
use Rattle.gm_name.specs.ModuleVersion.{ModuleVersion}
use Rattle.gm_syntax_words.specs.declared.word.Kind.{Kind}
use Rattle.gm_syntax_words.specs.declared.word.Kind.TheVariants.{Bare, Text, Mark}
use Rattle.gm_syntax_words.specs.Lines.{HasNoLineFeed}
use Rattle.gm_syntax_words.specs.Words.{Word, IsBare, is_mark, is_mark_byte}
use Rattle.gm_syntax_words.specs.Bare.{can_be_bare, in_quotes, new_word}
use Rattle.gm_syntax_words.specs.Values.{string_value, value_of}
use Rattle.gm_syntax_words.specs.Spelling.{IsWord}
use Rattle.gm_syntax_words.specs.Tokens.{Placed, IsNewWord, words_of}
use Rattle.gm_syntax_words.proofs.Spelled.{is_bare_word, bare_word_is}
use Rattle.gm_syntax.specs.Document.{Line, Blank, Comment, Open, Close, Entry, IsValidLine, IsEntry, begins_close, ends_open}
use Rattle.gm_syntax.specs.LineViews.{plain}
use Rattle.gm_syntax.proofs.NewWords.{new_word_stands, value_is, no_mark}
use Rattle.gm_syntax.proofs.Changes.{entry_stands, standing_entry}
use Rattle.gm_file.specs.Values.{argument, argument_of_kind}
use Rattle.gm_file.specs.Directives.{Strict, Directive, Saying, directive_in, directive_of, is_empty_block, item_at, main_verb, one_of, pair_of}
use Rattle.gm_file.specs.Faults.{directive_kinds, item_kinds, entry_kinds, is_module}
use Rattle.gm_file_edit.specs.Holding.{directive_at, item_of}
use Rattle.gm_file_edit.specs.NewWords.{made_word}
use Rattle.gm_file_edit.specs.Renewing.{with_arguments, with_last}
use Rattle.gm_file_edit.proofs.NoLineFeeds.{both-are}
use Rattle.gm_file.specs.Pairwise.{do_clash}

-- ---- what an operation puts in, and how a setting rewrites an entry

-- a directive without a fault, which an operation targets, and which clashes with none that it doesn't target
pub record IsWanted (test : Directive → Bool) (new : Directive) : Type 0 where
  pub kinds : directive_kinds Strict [] new ≡ []
  pub mild : (d : Directive) → test d ≡ false → do_clash new d ≡ false
  pub own : test new ≡ true

-- a valid entry of this block that says the directive
pub record IsMadeNew (new : Directive) (block : Option Placed) (next : Line Placed) : Type 0 where
  pub words : List Placed
  pub suffix : Option (List ℕ)
  pub is_entry : next ≡ Entry words suffix
  pub stands : IsValidLine (is_some block) (plain (Entry words suffix))
  pub holds : directive_at block (Entry words suffix) ≡ Some new
  pub alone : item_kinds Strict [] (item_of block (Entry words suffix)) ≡ []

-- each line that holds a targeted directive is rewritten to such an entry
abbrev pub Makes : (Directive → Bool) → Directive → (Option Placed → Line Placed → Line Placed) → Type 0
Makes test said make = (block : Option Placed) (line : Line Placed) (d : Directive) → directive_at block line ≡ Some d
    → test d ≡ true → IsValidLine (is_some block) (plain line) → IsMadeNew said block (make block line)

-- how an operation rewrites the entries that it targets; it targets module directives only to set one
pub record IsRenewal (test : Directive → Bool) (said : Directive) (make : Option Placed → Line Placed → Line Placed) : Type 0 where
  pub wanted : IsWanted test said
  pub made : Makes test said make
  pub other : (d : Directive) → test d ≡ true → is_module d ≡ is_module said

-- ---- new words

not-bare : (value : List ℕ) → ¬ IsBare value → can_be_bare value ≡ false
not-bare value n = elim (cases_Bool _) [ inl e ↦ absurd (n (is_bare_word _ e)) | inr e ↦ e ]

is-new : (value : List ℕ) → IsNewWord value (made_word value)
is-new value = record { bare = λ h. rw (bare_word_is _ h) refl; quoted = λ n. rw (not-bare _ n) refl }

pub made-stands : (value : List ℕ) → HasNoLineFeed value → IsWord (new_word value)
made-stands value plain = (new_word_stands _ _ plain (is-new _)).0

pub made-value : (value : List ℕ) → HasNoLineFeed value → argument (new_word value) ≡ Some value
made-value value plain =
    let is : value_of (new_word value) ≡ value = value_is (new_word value) value (new_word_stands value (made_word value) plain (is-new value)).1 in
    elim (cases_Bool (can_be_bare value)) [
      | inl e ↦ rw e
      | inr e ↦ let quoted : string_value (in_quotes value) ≡ value = rw e at is in rw e (ap Some quoted)
    ]

kind-no-mark : (b : ℕ) (kind : Kind) (text : List ℕ) {value : List ℕ} → argument_of_kind kind text ≡ Some value → is_mark_byte b kind text ≡ false
kind-no-mark b Bare text e = refl
kind-no-mark b Text text e = refl
kind-no-mark b Mark text e = absurd cc

-- a punctuation mark is not an argument
pub no-mark : (b : ℕ) (w : Word) (value : List ℕ) → argument w ≡ Some value → is_mark b w ≡ false
no-mark b w value e = kind-no-mark _ _ _ e

-- ---- arguments

-- words that can be the arguments of an entry
pub record AreArguments (arguments : List Placed) : Type 0 where
  pub words : AllByRecursion IsWord (words_of arguments)
  pub filled : 0 < length (words_of arguments)
  pub opens_nothing : ends_open (words_of arguments) ≡ false
  pub closes_nothing : begins_close (words_of arguments) ≡ false
  pub no_block : is_empty_block (words_of arguments) ≡ false

-- the words of an entry before its arguments: its verb, unless it is at the opening of the block
abbrev pub IsFront : Option Placed → List ℕ → List Placed → Type 0
IsFront None verb front = (w : Placed) × (front ≡ w ∷ []) × (verb ≡ w.word.spelling)
IsFront (Some v) verb front = (front ≡ []) × (verb ≡ v.word.spelling)

pub record IsHeldBy (block : Option Placed) (line : Line Placed) (d : Directive) : Type 0 where
  pub front : List Placed
  pub verb : List ℕ
  pub arguments : List Placed
  pub suffix : Option (List ℕ)
  pub is : line ≡ Entry (front ++ arguments) suffix
  pub at : IsFront block verb front
  pub says : directive_of (main_verb verb) (words_of arguments) ≡ Some d

pub held-by : (block : Option Placed) (line : Line Placed) {d : Directive} → directive_at block line ≡ Some d → IsHeldBy block line d
unfolding item_at
held-by block Blank e = absurd cc
held-by block (Comment text) e = absurd cc
held-by block (Open verb suffix) e = absurd cc
held-by block (Close suffix) e = absurd cc
held-by (Some v) (Entry words suffix) e = record {
  front = [];
  verb = v.word.spelling;
  arguments = words;
  suffix =
      suffix;
  is = refl;
  at = (refl, refl);
  says = e;
}
held-by None (Entry [] suffix) e = absurd cc
held-by None (Entry (w ∷ words) suffix) e = elim (cases_Bool (is_empty_block (words_of words))) [
  | inl holds ↦ let wrong = rw holds at e in absurd cc
  | inr fails ↦ record { front = w ∷ []; verb = w.word.spelling; arguments = words; suffix = suffix; is = refl; at = (w, refl, refl); says = rw fails at e }
]

new-item : (block : Option Placed) (verb : List ℕ) (front arguments : List Placed) (suffix : Option (List ℕ))
    → IsFront block verb front → is_empty_block (words_of arguments) ≡ false
    → item_of block (Entry (front ++ arguments) suffix) ≡ Saying verb (words_of arguments)
unfolding item_at
new-item None verb front arguments suffix at fails = rw (at.1, at.2, fails)
new-item (Some v) verb front arguments suffix at fails = rw (at.0, at.1)

pub open-behind : (w : Word) (ws : List Word) → 0 < length ws → ends_open (w ∷ ws) ≡ ends_open ws
open-behind w [] some = absurd (omega arith)
open-behind w (v ∷ ws) some = refl

new-entry : (block : Option Placed) (verb : List ℕ) (front old : List Placed) {arguments : List Placed} {suffix : Option (List ℕ)} → IsFront block verb front
    → IsEntry (words_of (front ++ old)) suffix → AreArguments arguments → IsEntry (words_of (front ++ arguments)) suffix
new-entry None verb front old {arguments} at entry are =
    let before = rw (at.1) at entry in
    rw (at.1) (record {
      are_words = (before.are_words.0, are.words);
      is_suffix = before.is_suffix;
      filled = omega arith;
      opens_nothing = open-behind at.0.word _ are.filled ∙ are.opens_nothing;
      closes_nothing = before.closes_nothing;
    })
new-entry (Some v) verb front old at entry are =
    rw (at.0) (record {
      are_words = are.words;
      is_suffix = entry.is_suffix;
      filled = are.filled;
      opens_nothing = are.opens_nothing;
      closes_nothing = are.closes_nothing;
    })

-- an entry whose arguments are replaced says what the new ones say
pub entry-made : {new was : Directive} {block : Option Placed} {line next : Line Placed} (h : IsHeldBy block line was) {arguments : List Placed}
    → next ≡ Entry (h.front ++ arguments) h.suffix → IsValidLine (is_some block) (plain line) → AreArguments arguments
    → directive_of (main_verb h.verb) (words_of arguments) ≡ Some new → directive_kinds Strict [] new ≡ []
    → IsMadeNew new block next
entry-made {block} h {arguments} is stands are says kinds =
    let item : item_of block (Entry (h.front ++ arguments) h.suffix) ≡ Saying h.verb (words_of arguments) =
    new-item _ _ _ _ _ h.at are.no_block in
    let old = standing_entry _ _ _ (rw h.is at stands) in
    let entry = new-entry _ _ _ _ h.at old are in
    record {
      words = h.front ++ arguments;
      suffix = h.suffix;
      is_entry = is;
      stands = entry_stands _ _ _ entry;
      holds = ap (directive_in Strict) item ∙ says;
      alone = ap (item_kinds Strict []) item ∙ ap (entry_kinds Strict [] (main_verb h.verb)) says ∙ kinds;
    }

-- ---- replacing the last word

without-last : (words : List Placed) (last : Placed) → take (length (words ++ last ∷ []) - 1) (words ++ last ∷ []) ≡ words
without-last words last = take_at words _ (length (words ++ last ∷ []) - 1) (omega (arith, length-append words (last ∷ [])))

pub last-replaced : (value : List ℕ) (block : Option Placed) (words : List Placed) (last : Placed)
    (suffix : Option (List ℕ)) → with_last value block (Entry (words ++ last ∷ []) suffix)
    ≡ Entry (words ++ made_word value ∷ []) suffix
last-replaced value block words last suffix = rw (without-last _ _)

pub all-arguments : (block : Option Placed) (verb : List ℕ) (front old : List Placed) {line : Line Placed}
    (suffix : Option (List ℕ)) (arguments : List Placed) → IsFront block verb front
    → line ≡ Entry (front ++ old) suffix → with_arguments arguments block line ≡ Entry (front ++ arguments) suffix
all-arguments None verb front old suffix arguments at is = rw (is, at.1)
all-arguments (Some v) verb front old suffix arguments at is = rw (is, at.0)

-- ---- one argument or two

pub one-argument : (words : List Placed) {v : List ℕ} → one_of (words_of words) ≡ Some v → (a : Placed) × (words ≡ a ∷ [])
one-argument [] e = absurd cc
one-argument (a ∷ []) e = (a, refl)
one-argument (a ∷ b ∷ words) e = absurd cc

pub two-arguments : (words : List Placed) (p : ModuleVersion) → pair_of (words_of words) ≡ Some p
    → (a b : Placed) × (words ≡ a ∷ b ∷ []) × (argument a.word ≡ Some p.0)
two-arguments [] p e = absurd cc
two-arguments (a ∷ []) p e = absurd cc
two-arguments (a ∷ b ∷ []) p e =
    let parts = both-are _ _ _ e in
    (a, b, refl, rw (← parts.4) parts.2)
two-arguments (a ∷ b ∷ c ∷ words) p e = absurd cc

pub one-are : (value : List ℕ) → HasNoLineFeed value → AreArguments (made_word value ∷ [])
one-are value plain = record {
  words = (made-stands _ plain, tt);
  filled = omega arith;
  opens_nothing = no_mark 40 _;
  closes_nothing = no_mark 41 _;
  no_block = refl;
}

-- a word that stays and a new one
pub two-are : (a : Placed) (path value : List ℕ) → IsWord a.word → argument a.word ≡ Some path → HasNoLineFeed value → AreArguments (a ∷ made_word value ∷ [])
two-are a path value word is plain = record {
  words = (word, (made-stands _ plain, tt));
  filled = omega arith;
  opens_nothing = no_mark 40 _;
  closes_nothing = no-mark 41 _ _ is;
  no_block = rw (no-mark 40 _ _ is) refl;
}

-- a new path before other words
pub begins-path : (path : List ℕ) (more : List Placed) → HasNoLineFeed path → AllByRecursion IsWord (words_of more)
    → ends_open (words_of (made_word path ∷ more)) ≡ false
    → is_empty_block (words_of (made_word path ∷ more)) ≡ false → AreArguments (made_word path ∷ more)
begins-path path more plain words opens filled =
    record { words = (made-stands _ plain, words); filled = omega arith; opens_nothing = opens; closes_nothing = no_mark 41 _; no_block = filled }
