-- The bare words and strings that the scanner finds have their shapes, and it finds them wherever they are.
use Rattle.std.proofs.Common.{◌≡◌, ℕ, suc, ◌+◌, true, false, eqb, List, [], ◌∷◌, ◌++◌, length, Result, Ok, Err, refl, sym, ap, ◌∙◌, append_assoc, arith, inl, inr}
use Rattle.std.specs.Prelude.{◌||◌, ◌≢◌, ◌⊎◌, IsTrue}
use Rattle.std.specs.List.{AllByRecursion}
use Rattle.std.proofs.lemmas.Bool.{and_parts, eqb-true, eq-eqb, ne_eqb, cases_Bool, cases_eq, false≢true}
use Rattle.std.proofs.lemmas.List.{length-append}
use Rattle.gm_syntax_words.specs.declared.fault.SyntaxKind.{SyntaxKind}
use Rattle.gm_syntax_words.specs.declared.fault.SyntaxKind.TheVariants.{OpenString, BadEscape}
use Rattle.gm_syntax_words.specs.Bytes.{is_word_byte}
use Rattle.gm_syntax_words.specs.Words.{OpensComment, HoldsNoComment, escaped_value, HasNoGrave}
use Rattle.gm_syntax_words.specs.Bare.{begins, opens_comment, begins_arrow, bare_len}
use Rattle.gm_syntax_words.specs.Private.Scan.{quoted_len, raw_len, longer}
use Rattle.gm_syntax_words.proofs.Classes.{star_word}
use Rattle.gm_syntax_words.proofs.Steps.{bare_cons, bare_stop_word, bare_stop_comment, bare_nil, longer_none, longer_longer, is_escaped, quoted_end, quoted_plain, quoted_escape, quoted_bad, quoted_nil, quoted_cut, raw_cons, raw_end, raw_nil, escape_is, escape_is_not}

-- ---- the first bytes of a text

first_two : (b c : ℕ) (bytes : List ℕ) (d : ℕ) → eqb b c ≡ true → begins d bytes ≡ true
    → (more : List ℕ) × (b ∷ bytes ≡ c ∷ d ∷ more)
first_two b c [] d first second = cc
first_two b c (x ∷ bytes) d first second = (bytes, rw (eqb-true b c first, eqb-true x d second) refl)

pub opens_cases : (b : ℕ) (bytes : List ℕ) → opens_comment (b ∷ bytes) ≡ true
    → ((more : List ℕ) × (b ∷ bytes ≡ 47 ∷ 47 ∷ more)) ⊎ ((more : List ℕ) × (b ∷ bytes ≡ 47 ∷ 42 ∷ more))
opens_cases b bytes e =
    let p = and_parts (eqb b 47) (begins 47 bytes || begins 42 bytes) e in
    elim (cases_Bool (begins 47 bytes)) [
      | inl s ↦ inl (first_two b 47 bytes 47 p.0 s)
      | inr n ↦ inr (first_two b 47 bytes 42 p.0 (rw n at p.1))
    ]

pub arrow_is : (text : List ℕ) → begins_arrow text ≡ true → (rest : List ℕ) × (text ≡ 61 ∷ 62 ∷ rest)
arrow_is [] e = cc
arrow_is (b ∷ bytes) e = let p = and_parts (eqb b 61) (begins 62 bytes) e in first_two b 61 bytes 62 p.0 p.1

pub arrow_true : (rest : List ℕ) (text : List ℕ) → text ≡ 61 ∷ 62 ∷ rest → begins_arrow text ≡ true
arrow_true rest text e = rw e refl

-- ---- bare words

opens_true : (b c : ℕ) (bytes : List ℕ) → OpensComment b c → opens_comment (b ∷ c ∷ bytes) ≡ true
opens_true b c bytes (s, inl e) = rw (eq-eqb b 47 s, eq-eqb c 47 e) refl
opens_true b c bytes (s, inr e) = rw (eq-eqb b 47 s, ne_eqb c 47 (omega arith), eq-eqb c 42 e) refl

no_slash_pair : (bytes : List ℕ) → opens_comment (47 ∷ bytes) ≡ false → begins 47 bytes ≡ false
no_slash_pair bytes h = elim (cases_Bool (begins 47 bytes)) [ inl e ↦ absurd (false≢true (sym h ∙ rw e refl)) | inr e ↦ e ]

-- the bare word that a text begins with, and the text after it
pub record BareFront (bytes : List ℕ) : Type 0 where
  pub text : List ℕ
  pub after : List ℕ
  pub parts : bytes ≡ text ++ after
  pub len : bare_len bytes ≡ length text
  pub word_bytes : AllByRecursion (λ b. IsTrue (is_word_byte b)) text
  pub no_comment : HoldsNoComment text
  pub stop : bare_len after ≡ 0
  pub no_slash : (front : List ℕ) → text ≡ front ++ 47 ∷ [] → begins 47 after ≡ false

nil_front : (bytes front : List ℕ) → [] ≡ front ++ 47 ∷ [] → begins 47 bytes ≡ false
nil_front bytes [] e = cc
nil_front bytes (b ∷ front) e = cc

no_comment_more : (b : ℕ) (bytes text after : List ℕ) → bytes ≡ text ++ after → opens_comment (b ∷ bytes) ≡ false
    → HoldsNoComment text → HoldsNoComment (b ∷ text)
no_comment_more b bytes [] after parts opens h = tt
no_comment_more b bytes (c ∷ text) after parts opens h = (
  λ o. false≢true (rw (← opens, parts) (opens_true b c (text ++ after) o)),
  h,
)

no_slash_more : (b : ℕ) (bytes text after : List ℕ) → bytes ≡ text ++ after → opens_comment (b ∷ bytes) ≡ false
    → ((front : List ℕ) → text ≡ front ++ 47 ∷ [] → begins 47 after ≡ false) → (front : List ℕ)
    → b ∷ text ≡ front ++ 47 ∷ [] → begins 47 after ≡ false
no_slash_more b bytes text after parts opens h [] e =
    let is_slash : b ≡ 47 = cc in
    let is_last : text ≡ [] = cc in
    let same : bytes ≡ after = rw (parts, is_last) refl in
    no_slash_pair after (sym (ap (λ x. opens_comment (x ∷ bytes)) is_slash ∙ ap (λ t. opens_comment (47 ∷ t)) same) ∙ opens)
no_slash_more b bytes text after parts opens h (c ∷ front) e = h front cc

pub bare_front : (bytes : List ℕ) → BareFront bytes
bare_front [] = record { text = []; after = []; parts = refl; len = bare_nil; word_bytes = tt; no_comment = tt; stop = bare_nil; no_slash = nil_front [] }
bare_front (b ∷ bytes) =
    let stopped : bare_len (b ∷ bytes) ≡ 0 → BareFront (b ∷ bytes) =
    λ z. record {
      text = [];
      after = b ∷ bytes;
      parts = refl;
      len = z;
      word_bytes = tt;
      no_comment = tt;
      stop =
          z;
      no_slash = nil_front (b ∷ bytes);
    } in
    let more = bare_front bytes in
    elim (cases_Bool (is_word_byte b)) [
      | inr not_word ↦ stopped (bare_stop_word b bytes not_word)
      | inl word ↦
          elim (cases_Bool (opens_comment (b ∷ bytes))) [
            | inl opens ↦ stopped (bare_stop_comment b bytes word opens)
            | inr opens ↦
                record {
                  text = b ∷ more.text;
                  after = more.after;
                  parts = rw more.parts refl;
                  len = bare_cons b bytes word opens ∙ ap suc more.len;
                  word_bytes = (word, more.word_bytes);
                  no_comment = no_comment_more b bytes _ _ more.parts opens more.no_comment;
                  stop = more.stop;
                  no_slash = no_slash_more b bytes _ _ more.parts opens more.no_slash;
                }
          ]
    ]

pub no_star : (after : List ℕ) → bare_len after ≡ 0 → begins 42 after ≡ false
no_star [] z = refl
no_star (b ∷ after) z =
    elim (cases_eq b 42) [
      | inl e ↦
          let one = bare_cons 42 after star_word refl in
          absurd (omega (arith, one, sym (ap (λ x. bare_len (x ∷ after)) e) ∙ z))
      | inr n ↦ ne_eqb b 42 n
    ]

pub opens_false : (b c : ℕ) (bytes : List ℕ) → ¬ OpensComment b c → opens_comment (b ∷ c ∷ bytes) ≡ false
opens_false b c bytes h =
    elim (cases_Bool (opens_comment (b ∷ c ∷ bytes))) [
      | inr e ↦ e
      | inl e ↦ absurd (h (elim (opens_cases b (c ∷ bytes) e) [ inl m ↦ (cc m.1, inl (cc m.1)) | inr m ↦ (cc m.1, inr (cc m.1)) ]))
    ]

last_opens : (b : ℕ) (after : List ℕ) → bare_len after ≡ 0 → (b ≡ 47 → begins 47 after ≡ false) → opens_comment (b ∷ after) ≡ false
last_opens b after stop slash =
    elim (cases_eq b 47) [
      | inl e ↦ rw (eq-eqb b 47 e, slash e, no_star after stop) refl
      | inr n ↦ rw (ne_eqb b 47 n) refl
    ]

-- the scanner takes exactly a bare word that ends there
pub bare_len_is : (text after : List ℕ) → AllByRecursion (λ b. IsTrue (is_word_byte b)) text → HoldsNoComment text
    → bare_len after ≡ 0 → ((front : List ℕ) → text ≡ front ++ 47 ∷ [] → begins 47 after ≡ false)
    → bare_len (text ++ after) ≡ length text
bare_len_is [] after words none stop slash = stop
bare_len_is (b ∷ []) after words none stop slash =
    bare_cons b after words.0 (last_opens b after stop (λ e. slash [] (rw e refl))) ∙ ap suc stop
bare_len_is (b ∷ c ∷ text) after words none stop slash =
    bare_cons b (c ∷ text ++ after) words.0 (opens_false b c (text ++ after) none.0)
    ∙ ap suc (bare_len_is (c ∷ text) after words.1 none.1 stop
    (λ front e. slash (b ∷ front) (rw e refl)))

-- ---- strings

pub escaped_plain : (b : ℕ) (value : List ℕ) → is_escaped b ≡ false → escaped_value (b ∷ value) ≡ b ∷ escaped_value value
escaped_plain b value h = rw h refl

pub escaped_marked : (b : ℕ) (value : List ℕ) → is_escaped b ≡ true → escaped_value (b ∷ value) ≡ 92 ∷ b ∷ escaped_value value
escaped_marked b value h = rw h refl

-- what the scanner found after the opening quote
abbrev pub QuotedFront : Result ℕ SyntaxKind → List ℕ → Type 0
QuotedFront (Ok n) bytes = (value : List ℕ) × (after : List ℕ) × (bytes ≡ escaped_value value ++ 34 ∷ after) × (n ≡ length (escaped_value value) + 1)
QuotedFront (Err OpenString) bytes = (value : List ℕ) × ((bytes ≡ escaped_value value) ⊎ (bytes ≡ escaped_value value ++ 92 ∷ []))
QuotedFront (Err BadEscape) bytes = (value : List ℕ) × (b : ℕ) × (more : List ℕ) × (bytes ≡ escaped_value value ++ 92 ∷ b ∷ more) × (b ≢ 34) × (b ≢ 92)
QuotedFront (Err kind) bytes = ⊥

-- the scanner goes past the byte b, which is written as this piece
quoted_front_more : (r : Result ℕ SyntaxKind) (b : ℕ) (piece bytes : List ℕ)
    → ((value : List ℕ) → escaped_value (b ∷ value) ≡ piece ++ escaped_value value) → QuotedFront r bytes
    → QuotedFront (longer (length piece) r) (piece ++ bytes)
quoted_front_more (Ok n) b piece bytes e (value, after, parts, len) = (
  b ∷ value,
  after,
  rw (parts, e value) (sym (append_assoc piece (escaped_value value) (34 ∷ after))),
  omega (arith, len, ap length (e value), length-append piece (escaped_value value)),
)
quoted_front_more (Err OpenString) b piece bytes e (value, inl parts) = (b ∷ value, inl (rw (parts, e value) refl))
quoted_front_more (Err OpenString) b piece bytes e (value, inr parts) =
    (b ∷ value, inr (rw (parts, e value) (sym (append_assoc piece (escaped_value value) (92 ∷ [])))))
quoted_front_more (Err BadEscape) b piece bytes e (value, c, more, parts, q, s) =
    (b ∷ value, c, more, rw (parts, e value) (sym (append_assoc piece (escaped_value value) (92 ∷ c ∷ more))), q, s)
quoted_front_more (Err kind) b piece bytes e h = absurd h

quoted_front_plain : (b : ℕ) (bytes : List ℕ) → b ≢ 34 → b ≢ 92 → QuotedFront (quoted_len bytes) bytes
    → QuotedFront (longer 1 (quoted_len bytes)) (b ∷ bytes)
quoted_front_plain b bytes q s h =
    quoted_front_more (quoted_len bytes) b (b ∷ []) bytes (λ value. escaped_plain b value (escape_is_not b q s)) h

pub quoted_front : (bytes : List ℕ) → QuotedFront (quoted_len bytes) bytes
quoted_front [] = rw quoted_nil ([], inl refl)
quoted_front (b ∷ []) =
    elim (cases_eq b 34) [
      | inl q ↦ rw (quoted_end b [] q) ([], [], rw q refl, refl)
      | inr q ↦ elim (cases_eq b 92) [
        | inl s ↦ rw (quoted_cut b s) ([], inr (rw s refl))
        | inr s ↦ rw (quoted_plain b [] q s) (quoted_front_plain b [] q s (quoted_front []))
      ]
    ]
quoted_front (b ∷ c ∷ bytes) =
    elim (cases_eq b 34) [
      | inl q ↦ rw (quoted_end b (c ∷ bytes) q) ([], c ∷ bytes, rw q refl, refl)
      | inr q ↦ elim (cases_eq b 92) [
        | inr s ↦ rw (quoted_plain b (c ∷ bytes) q s) (quoted_front_plain b (c ∷ bytes) q s (quoted_front (c ∷ bytes)))
        | inl s ↦ elim (cases_Bool (is_escaped c)) [
          | inl m ↦ rw (quoted_escape b c bytes s m) (rw s
              (quoted_front_more (quoted_len bytes) c (92 ∷ c ∷ []) bytes (λ value. escaped_marked c value m) (quoted_front bytes)))
          | inr m ↦ rw (quoted_bad b c bytes s m)
              ([], c, bytes, rw s refl, λ d. false≢true (sym m ∙ escape_is c (inl d)), λ d. false≢true (sym m ∙ escape_is c (inr d)))
        ]
      ]
    ]

-- the scanner goes past an escaped value
pub quoted_len-escaped : (value tail : List ℕ) → quoted_len (escaped_value value ++ tail) ≡ longer (length (escaped_value value)) (quoted_len tail)
quoted_len-escaped [] tail = longer_none _
quoted_len-escaped (b ∷ value) tail =
    elim (cases_Bool (is_escaped b)) [
      | inl m ↦
          rw (
            escaped_marked b value m,
            quoted_escape 92 b _ refl m,
            quoted_len-escaped value tail,
            longer_longer 2 _ _,
          ) (ap (λ n. longer n (quoted_len tail)) (omega (
            arith,
            ap length (escaped_marked b value m),
          )))
      | inr m ↦
          let q : b ≢ 34 = λ e. false≢true (sym m ∙ escape_is b (inl e)) in
          let s : b ≢ 92 = λ e. false≢true (sym m ∙ escape_is b (inr e)) in
          ap (λ t. quoted_len (t ++ tail)) (escaped_plain b value m)
          ∙ quoted_plain b _ q s
          ∙ ap (longer 1) (quoted_len-escaped value tail)
          ∙ longer_longer 1 _ _
          ∙ ap (λ n. longer n (quoted_len tail)) (omega (arith, ap length (escaped_plain b value m)))
    ]

-- ---- raw strings

abbrev pub RawFront : Result ℕ SyntaxKind → List ℕ → Type 0
RawFront (Ok n) bytes = (value : List ℕ) × (after : List ℕ) × (bytes ≡ value ++ 96 ∷ after) × HasNoGrave value × (n ≡ length value + 1)
RawFront (Err OpenString) bytes = HasNoGrave bytes
RawFront (Err kind) bytes = ⊥

raw_front_more : (r : Result ℕ SyntaxKind) (b : ℕ) (bytes : List ℕ) → b ≢ 96 → RawFront r bytes → RawFront (longer 1 r) (b ∷ bytes)
raw_front_more (Ok n) b bytes g h = (b ∷ h.0, h.1, rw h.2 refl, (g, h.3), omega (arith, h.4))
raw_front_more (Err OpenString) b bytes g h = (g, h)
raw_front_more (Err kind) b bytes g h = absurd h

pub raw_front : (bytes : List ℕ) → RawFront (raw_len bytes) bytes
raw_front [] = rw raw_nil tt
raw_front (b ∷ bytes) =
    elim (cases_eq b 96) [
      | inl e ↦ rw (raw_end b bytes e) ([], bytes, rw e refl, tt, refl)
      | inr n ↦ rw (raw_cons b bytes n) (raw_front_more _ b bytes n (raw_front bytes))
    ]

pub raw_len-append : (value tail : List ℕ) → HasNoGrave value → raw_len (value ++ tail) ≡ longer (length value) (raw_len tail)
raw_len-append [] tail h = longer_none _
raw_len-append (b ∷ value) tail h =
    rw (
      raw_cons b _ h.0,
      raw_len-append value tail h.1,
      longer_longer 1 _ _,
    ) (ap (λ n. longer n (raw_len tail)) (omega arith))
