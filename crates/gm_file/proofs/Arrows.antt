-- The two sides of a replace, split at the first arrow.
use Rattle.std.proofs.Common.{◌≡◌, ℕ, ◌+◌, ◌-◌, ◌<◌, Bool, not, List, [], ◌∷◌, ◌++◌, length, map, take, drop, Option, Some, Err, inl, inr, refl, sym, ap, ◌∙◌, arith}
use Rattle.std.proofs.Math.ListN.{drop_of_length-le}
use Rattle.std.proofs.lemmas.Bool.{cases_Bool}
use Rattle.std.proofs.lemmas.List.{drop-drop, drop-map, take-map, take_rest}
use Rattle.std.proofs.lemmas.List.Folds.{length-prefix_len}
use Rattle.std.specs.List.{after_first, before_first, position_or_len, prefix_len, take_while}
use Rattle.gm_syntax_words.specs.Tokens.{Placed, words_of}
use Rattle.gm_file.specs.declared.fault.DirectiveKind.{DirectiveKind}
use Rattle.gm_file.specs.declared.fault.DirectiveKind.TheVariants.{WrongArguments}
use Rattle.gm_file.specs.declared.fault.LineFault.{LineFault}
use Rattle.gm_file.specs.declared.fault.LineFault.TheVariants as line
use Rattle.gm_file.specs.Directives.{Left, Module, is_arrow, replacing}
use Rattle.gm_file.specs.Faults.{left_version_kinds, path_kinds, version_kinds}
use Rattle.gm_file.specs.Fields.{first}
use Rattle.gm_file.specs.Reading.{replacing_kinds}
use Rattle.gm_file.specs.Private.Reading.{IsPartRead}
use Rattle.gm_file.specs.Views.{replace_view}

prefix_len-map : {X Y : Type 0} (p : Y → Bool) (f : X → Y) (xs : List X) → prefix_len p (map f xs) ≡ prefix_len (λ x. p (f x)) xs
prefix_len-map p f [] = refl
prefix_len-map p f (x ∷ xs) = elim (cases_Bool (p (f x))) [
  | inl holds ↦ rw (holds, prefix_len-map p f xs) refl
  | inr fails ↦ rw fails refl
]

-- the position of the first arrow
pub arrow-place : (tokens : List Placed) (n : ℕ) → n ≡ length (take_while (λ t. not (is_arrow t.word)) tokens) → n ≡ position_or_len is_arrow (words_of tokens)
arrow-place tokens n e = e ∙ length-prefix_len (λ t. not (is_arrow t.word)) tokens ∙ sym (prefix_len-map (λ w. not (is_arrow w)) (λ t. t.word) tokens)

pub before-arrow : (tokens front : List Placed) (n : ℕ) → n ≡ length (take_while (λ t. not (is_arrow t.word)) tokens)
    → front ≡ take n tokens → words_of front ≡ before_first is_arrow (words_of tokens)
before-arrow tokens front n e is = rw (is, sym (take-map (λ t. t.word) n tokens)) (rw (arrow-place tokens n e))

rest-after : (tokens rest : List Placed) (n : ℕ) → n ≡ length (take_while (λ t. not (is_arrow t.word)) tokens)
    → rest ≡ drop n tokens → words_of (drop 1 rest) ≡ after_first is_arrow (words_of tokens)
rest-after tokens rest n e is =
    rw (is, drop-drop 1 n tokens, sym (drop-map (λ t. t.word) (n + 1) tokens)) (rw (arrow-place tokens n e))

pub after-arrow : (tokens rest : List Placed) (n : ℕ) → n ≡ length (take_while (λ t. not (is_arrow t.word)) tokens) → rest ≡ drop n tokens
    → words_of (take (length rest - 1) (drop 1 rest)) ≡ after_first is_arrow (words_of tokens)
after-arrow tokens rest n e is = ap words_of (take_rest _ 1) ∙ rest-after _ _ _ e is

pub no-arrow_before : (tokens rest : List Placed) (n : ℕ) → n ≡ length (take_while (λ t. not (is_arrow t.word)) tokens)
    → rest ≡ drop n tokens → length rest < 1 → after_first is_arrow (words_of tokens) ≡ []
no-arrow_before tokens rest n e is short = sym (rest-after _ _ _ e is) ∙ ap words_of (drop_of_length-le rest {i = 1} (omega (arith, short)))

pub first-append : {X : Type 0} (xs ys : List X) (x : X) → first xs ≡ Some x → first (xs ++ ys) ≡ Some x
first-append [] ys x e = cc e
first-append (z ∷ xs) ys x e = e

-- the fault of the version on the right side, if the parts that are read before it have none
pub right-version-fault : (left : Left) (path version p q : List ℕ) (v : Option (List ℕ)) (fault : LineFault)
    → Some left.path ≡ Some p → path_kinds p ≡ [] → Some path ≡ Some q → path_kinds q ≡ [] → Some left.version ≡ Some v → left_version_kinds v ≡ []
    → IsPartRead {X = List ℕ} {Y = List ℕ} (λ x. x) WrongArguments version_kinds (Some version) (Err fault)
    → IsPartRead replace_view WrongArguments replacing_kinds (Some (replacing left (Module path version))) (Err fault)
right-version-fault left path version p q v line.NoMemory is-p sound-p is-q sound-q is-v sound-v told = tt
right-version-fault left path version p q v (line.Kind k) is-p sound-p is-q sound-q is-v sound-v told =
    let e : left.path ≡ p = cc in
    let f : path ≡ q = cc in
    let g : left.version ≡ v = cc in
    rw (e, f, g, sound-p, sound-q, sound-v) (first-append _ _ _ told)

-- ---- the faults of the two sides, in the order in which the parts are read

module _ (left : Left) (path version : List ℕ) where
  pub left-path-fault : (fault : LineFault) → IsPartRead {X = List ℕ} {Y = List ℕ} (λ x. x) WrongArguments path_kinds (Some left.path) (Err fault)
      → IsPartRead replace_view WrongArguments replacing_kinds (Some (replacing left (Module path version))) (Err fault)
  left-path-fault line.NoMemory told = tt
  left-path-fault (line.Kind k) told =
      first-append _ _ _ (first-append _ _ _ (first-append _ _ _ (first-append _ _ _ told)))

  pub right-path-fault : (fault : LineFault) → path_kinds left.path ≡ []
      → IsPartRead {X = List ℕ} {Y = List ℕ} (λ x. x) WrongArguments path_kinds (Some path) (Err fault)
      → IsPartRead replace_view WrongArguments replacing_kinds (Some (replacing left (Module path version))) (Err fault)
  right-path-fault line.NoMemory sound told = tt
  right-path-fault (line.Kind k) sound told =
      rw sound (first-append _ _ _ (first-append _ _ _ (first-append _ _ _ told)))

  pub left-version-fault : (fault : LineFault) → path_kinds left.path ≡ [] → path_kinds path ≡ []
      → IsPartRead {X = Option (List ℕ)} {Y = Option (List ℕ)} (λ x. x) WrongArguments left_version_kinds
      (Some left.version) (Err fault)
      → IsPartRead replace_view WrongArguments replacing_kinds (Some (replacing left (Module path version))) (Err fault)
  left-version-fault line.NoMemory sound-p sound-q told = tt
  left-version-fault (line.Kind k) sound-p sound-q told =
      rw (sound-p, sound-q) (first-append _ _ _ (first-append _ _ _ told))

-- a part without faults, by what its reader says
pub sound-part : {X : Type 0} (kinds : X → List DirectiveKind) (part read : X) → Some part ≡ Some read → kinds read ≡ [] → kinds part ≡ []
sound-part {X} kinds part read same sound =
    let e : part ≡ read = cc in
    rw e sound
