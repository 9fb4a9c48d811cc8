-- The steps of the scanning loops.
use Rattle.std.proofs.Common.{inl, inr, ◌≡◌, ℕ, suc, ◌+◌, ◌<◌, ◌≤◌, Bool, true, false, eqb, List, [], ◌∷◌, length, get_or, drop, Result, Ok, Err, refl, sym, ap, ◌∙◌, arith}
use Rattle.std.specs.Prelude.{◌&&◌, ◌||◌, not, ◌⊎◌}
use Rattle.std.proofs.lemmas.List.{at_drop_all, drop_more}
use Rattle.std.proofs.lemmas.Bool.{eq-eqb, ne_eqb}
use Rattle.gm_syntax_words.specs.declared.fault.SyntaxKind.{SyntaxKind}
use Rattle.gm_syntax_words.specs.declared.fault.SyntaxKind.TheVariants.{OpenString, BadEscape}
use Rattle.gm_syntax_words.specs.Bytes.{is_word_byte, is_plain}
use Rattle.gm_syntax_words.specs.Bare.{opens_comment, bare_len}
use Rattle.gm_syntax_words.specs.Private.Scan.{quoted_len, raw_len, longer, piece_of}
use Rattle.gm_syntax_words.proofs.Classes.{plain_word, plain_no_slash, plain_no_equals, word_not_others}
use Rattle.gm_syntax_words.specs.declared.word.Kind.TheVariants.{Bare}
use Rattle.gm_syntax_words.specs.declared.scan.Piece.TheVariants as piece

pub bare_cons : (b : ℕ) (bytes : List ℕ) → is_word_byte b ≡ true → opens_comment (b ∷ bytes) ≡ false → bare_len (b ∷ bytes) ≡ suc (bare_len bytes)
unfolding bare_len
bare_cons b bytes word opens = rw (word, opens) refl

pub bare_stop_word : (b : ℕ) (bytes : List ℕ) → is_word_byte b ≡ false → bare_len (b ∷ bytes) ≡ 0
unfolding bare_len
bare_stop_word b bytes word = rw word refl

pub bare_stop_comment : (b : ℕ) (bytes : List ℕ) → is_word_byte b ≡ true → opens_comment (b ∷ bytes) ≡ true → bare_len (b ∷ bytes) ≡ 0
unfolding bare_len
bare_stop_comment b bytes word opens = rw (word, opens) refl

pub bare_nil : bare_len [] ≡ 0
unfolding bare_len
bare_nil = refl

-- a plain byte begins a bare word
pub plain_piece : (after_bare : Bool) (b : ℕ) (bytes : List ℕ) → is_plain b ≡ true → piece_of after_bare (b ∷ bytes) ≡ piece.Word Bare (bare_len (b ∷ bytes))
unfolding piece_of
plain_piece after_bare b bytes h =
    let o = word_not_others b (plain_word b h) in
    rw (o.0, o.1, o.2, o.3, ne_eqb b 47 (plain_no_slash b h), ne_eqb b 61 (plain_no_equals b h)) refl

plain_opens : (b : ℕ) (bytes : List ℕ) → is_plain b ≡ true → opens_comment (b ∷ bytes) ≡ false
plain_opens b bytes h = rw (ne_eqb b 47 (plain_no_slash b h)) refl

pub plain_runs : (bytes : List ℕ) (n : ℕ) → n < length bytes → is_plain (get_or bytes n 0) ≡ true
    → true ≡ (is_word_byte (get_or bytes n 0) && not (opens_comment (drop n bytes)))
plain_runs bytes n lt h =
    let opens : opens_comment (drop n bytes) ≡ false = rw (drop_more bytes n 0 lt) (plain_opens (get_or bytes n 0) (drop (n + 1) bytes) h) in
    rw (plain_word (get_or bytes n 0) h, opens) refl

pub bare_goes_on : (bytes : List ℕ) (n : ℕ) → n < length bytes
    → (is_word_byte (get_or bytes n 0) && not (opens_comment (drop n bytes))) ≡ true
    → bare_len (drop n bytes) ≡ suc (bare_len (drop (n + 1) bytes))
unfolding bare_len
bare_goes_on bytes n lt e = rw (drop_more bytes n 0 lt) (rw (rw (drop_more bytes n 0 lt) at e) refl)

-- one more plain byte of a bare word
pub plain_counts : (bytes : List ℕ) (n next len : ℕ) → next ≡ n + 1 → n < length bytes
    → is_plain (get_or bytes n 0) ≡ true → n + bare_len (drop n bytes) ≡ len → next + bare_len (drop next bytes) ≡ len
plain_counts bytes n next len is lt h so =
    let same : bare_len (drop next bytes) ≡ bare_len (drop (n + 1) bytes) = rw is refl in
    omega (arith, is, same, bare_goes_on bytes n lt (sym (plain_runs bytes n lt h)), so)

pub bare_stops : (bytes : List ℕ) (n : ℕ) → n < length bytes
    → (is_word_byte (get_or bytes n 0) && not (opens_comment (drop n bytes))) ≡ false → bare_len (drop n bytes) ≡ 0
unfolding bare_len
bare_stops bytes n lt e = rw (drop_more bytes n 0 lt) (rw (rw (drop_more bytes n 0 lt) at e) refl)

pub bare_stops_at_end : (bytes : List ℕ) (n : ℕ) → length bytes ≤ n → bare_len (drop n bytes) ≡ 0
bare_stops_at_end bytes n le = at_drop_all bare_len bytes n le ∙ bare_nil

pub longer_none : (r : Result ℕ SyntaxKind) → r ≡ longer 0 r
longer_none (Ok len) = ap (λ k. Ok k) (omega arith)
longer_none (Err kind) = refl

pub longer_longer : (m n : ℕ) (r : Result ℕ SyntaxKind) → longer m (longer n r) ≡ longer (m + n) r
longer_longer m n (Ok len) = ap (λ k. Ok k) (omega arith)
longer_longer m n (Err kind) = refl

-- ---- strings in quotes

-- a quote or a backslash, which a string in quotes escapes
abbrev pub is_escaped : ℕ → Bool
is_escaped b = eqb b 34 || eqb b 92

pub escape_is : (c : ℕ) → (c ≡ 34) ⊎ (c ≡ 92) → is_escaped c ≡ true
escape_is c (inl e) = rw (eq-eqb c 34 e) refl
escape_is c (inr e) = rw (ne_eqb c 34 (omega arith), eq-eqb c 92 e) refl

pub escape_is_not : (c : ℕ) → (c ≡ 34 → ⊥) → (c ≡ 92 → ⊥) → is_escaped c ≡ false
escape_is_not c q s = rw (ne_eqb c 34 q, ne_eqb c 92 s) refl

pub quoted_end : (b : ℕ) (bytes : List ℕ) → b ≡ 34 → quoted_len (b ∷ bytes) ≡ Ok 1
unfolding quoted_len
quoted_end b [] e = rw (eq-eqb b 34 e) refl
quoted_end b (c ∷ bytes) e = rw (eq-eqb b 34 e) refl

pub quoted_plain : (b : ℕ) (bytes : List ℕ) → (b ≡ 34 → ⊥) → (b ≡ 92 → ⊥) → quoted_len (b ∷ bytes) ≡ longer 1 (quoted_len bytes)
unfolding quoted_len
quoted_plain b [] q s = rw (ne_eqb b 34 q) refl
quoted_plain b (c ∷ bytes) q s = rw (ne_eqb b 34 q, ne_eqb b 92 s) refl

pub quoted_escape : (b c : ℕ) (bytes : List ℕ) → b ≡ 92 → is_escaped c ≡ true → quoted_len (b ∷ c ∷ bytes) ≡ longer 2 (quoted_len bytes)
unfolding quoted_len
quoted_escape b c bytes s e = rw (ne_eqb b 34 (omega arith), eq-eqb b 92 s, e) refl

pub quoted_bad : (b c : ℕ) (bytes : List ℕ) → b ≡ 92 → is_escaped c ≡ false → quoted_len (b ∷ c ∷ bytes) ≡ Err BadEscape
unfolding quoted_len
quoted_bad b c bytes s e = rw (ne_eqb b 34 (omega arith), eq-eqb b 92 s, e) refl

pub quoted_nil : quoted_len [] ≡ Err OpenString
unfolding quoted_len
quoted_nil = refl

pub quoted_cut : (b : ℕ) → b ≡ 92 → quoted_len (b ∷ []) ≡ Err OpenString
unfolding quoted_len
quoted_cut b s = rw (ne_eqb b 34 (omega arith)) refl

module _ (bytes : List ℕ) (n : ℕ) where
  pub quoted_ends_at : n < length bytes → get_or bytes n 0 ≡ 34 → quoted_len (drop n bytes) ≡ Ok 1
  quoted_ends_at lt e = rw (drop_more bytes n 0 lt) (quoted_end _ _ e)

  pub quoted_goes_on : n < length bytes → (get_or bytes n 0 ≡ 34 → ⊥) → (get_or bytes n 0 ≡ 92 → ⊥)
      → longer n (quoted_len (drop n bytes)) ≡ longer (n + 1) (quoted_len (drop (n + 1) bytes))
  quoted_goes_on lt q s = rw (
    drop_more bytes n 0 lt,
    quoted_plain _ _ q s,
  ) (longer_longer n 1 _)

  two : n + 1 < length bytes → drop n bytes ≡ get_or bytes n 0 ∷ get_or bytes (n + 1) 0 ∷ drop (n + 2) bytes
  two lt =
      let e : n + 1 + 1 ≡ n + 2 = omega arith in
      drop_more bytes n 0 (omega arith) ∙ ap (λ t. get_or bytes n 0 ∷ t)
      (rw (drop_more bytes (n + 1) 0 lt, e) refl)

  pub quoted_skips : n + 1 < length bytes → get_or bytes n 0 ≡ 92 → is_escaped (get_or bytes (n + 1) 0) ≡ true
      → longer n (quoted_len (drop n bytes)) ≡ longer (n + 2) (quoted_len (drop (n + 2) bytes))
  quoted_skips lt s e =
      rw (two lt, quoted_escape _ _ _ s e)
      (longer_longer n 2 _)

  pub quoted_refuses : n + 1 < length bytes → get_or bytes n 0 ≡ 92 → is_escaped (get_or bytes (n + 1) 0) ≡ false
      → quoted_len (drop n bytes) ≡ Err BadEscape
  quoted_refuses lt s e = rw (two lt) (quoted_bad _ _ _ s e)

  pub quoted_is_cut : n + 1 ≡ length bytes → get_or bytes n 0 ≡ 92 → quoted_len (drop n bytes) ≡ Err OpenString
  quoted_is_cut e s = rw (drop_more bytes n 0 (omega arith), at_drop_all (λ (t : List ℕ). t) bytes (n + 1) (omega arith)) (quoted_cut _ s)

  pub quoted_is_open : length bytes ≤ n → quoted_len (drop n bytes) ≡ Err OpenString
  quoted_is_open le = at_drop_all quoted_len bytes n le ∙ quoted_nil

-- ---- raw strings

pub raw_cons : (b : ℕ) (bytes : List ℕ) → (b ≡ 96 → ⊥) → raw_len (b ∷ bytes) ≡ longer 1 (raw_len bytes)
unfolding raw_len
raw_cons b bytes h = rw (ne_eqb b 96 h) refl

pub raw_end : (b : ℕ) (bytes : List ℕ) → b ≡ 96 → raw_len (b ∷ bytes) ≡ Ok 1
unfolding raw_len
raw_end b bytes h = rw (eq-eqb b 96 h) refl

pub raw_nil : raw_len [] ≡ Err OpenString
unfolding raw_len
raw_nil = refl

pub raw_ends_at : (bytes : List ℕ) (n : ℕ) → n < length bytes → get_or bytes n 0 ≡ 96 → raw_len (drop n bytes) ≡ Ok 1
raw_ends_at bytes n lt e = rw (drop_more bytes n 0 lt) (raw_end _ _ e)

pub raw_goes_on : (bytes : List ℕ) (n : ℕ) → n < length bytes → (get_or bytes n 0 ≡ 96 → ⊥)
    → longer n (raw_len (drop n bytes)) ≡ longer (n + 1) (raw_len (drop (n + 1) bytes))
raw_goes_on bytes n lt h = rw (drop_more bytes n 0 lt, raw_cons _ _ h) (longer_longer n 1 _)

pub raw_is_open : (bytes : List ℕ) (n : ℕ) → length bytes ≤ n → raw_len (drop n bytes) ≡ Err OpenString
raw_is_open bytes n le = at_drop_all raw_len bytes n le ∙ raw_nil
