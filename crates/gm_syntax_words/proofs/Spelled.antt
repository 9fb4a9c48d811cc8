-- The spelling of a new word, and the value of a string.
use Rattle.std.proofs.Common.{◌≡◌, ℕ, suc, ◌+◌, ◌-◌, ◌<◌, ◌≤◌, true, false, eqb, List, [], ◌∷◌, ◌++◌, length, get_or, take, drop, IsUtf8, refl, sym, ap, ◌∙◌, append_assoc, arith, inl, inr}
use Rattle.std.specs.Prelude.{◌≢◌, ◌⊎◌, ◌&&◌, not, ⊤}
use Rattle.std.specs.List.{AllByRecursion}
use Rattle.std.specs.Str.{IsCharBoundary}
use Rattle.std.proofs.iter.FirstChar.{beside_ascii}
use Rattle.std.proofs.lemmas.Bool.{and_parts as and_both, cases_Bool, cases_eq, eq-eqb, eqb-false, eqb-true, false≢true, ne_eqb, not-true, true≢false}
use Rattle.std.proofs.lemmas.List.{append-nil, drop_more, at_drop_all, take_at, drop_at, length-append, get_or_at, nil_from_length}
use Rattle.gm_syntax_words.specs.Words.{IsBare, HasNoGrave, IsString, escaped_value}
use Rattle.gm_syntax_words.specs.Bare.{begins_arrow, bare_len, can_be_bare}
use Rattle.gm_syntax_words.specs.Private.Scan.{plain_len}
use Rattle.gm_syntax_words.proofs.Steps.{bare_nil, is_escaped, escape_is, escape_is_not}
use Rattle.gm_syntax_words.proofs.Scanned.{arrow_is, arrow_true, bare_front, bare_len_is, escaped_plain, escaped_marked}

-- ---- bare words

pub is_bare_word : (text : List ℕ) → can_be_bare text ≡ true → IsBare text
unfolding can_be_bare
is_bare_word text h =
    let p = and_both (not (eqb (length text) 0)) (not (begins_arrow text) && eqb (bare_len text) (length text)) h in
    let q = and_both (not (begins_arrow text)) (eqb (bare_len text) (length text)) p.1 in
    let f = bare_front text in
    let len : length f.text ≡ length text = omega (arith, f.len, eqb-true (bare_len text) (length text) q.1) in
    let none = nil_from_length f.after (omega (arith, len, ap length f.parts, length-append f.text f.after)) in
    let same = sym (f.parts ∙ ap (λ l. f.text ++ l) none ∙ append-nil f.text) in
    record {
      filled = λ e. eqb-false (length text) 0 (not-true (eqb (length text) 0) p.0) (ap length e);
      word_bytes = rw (← same) f.word_bytes;
      no_comment = rw (← same) f.no_comment;
      no_arrow = λ a. true≢false (sym (arrow_true a.0 text a.1) ∙ not-true (begins_arrow text) q.0);
    }

pub bare_word_is : (text : List ℕ) → IsBare text → can_be_bare text ≡ true
unfolding can_be_bare
bare_word_is text h =
    let len = ap bare_len (sym (append-nil text)) ∙ bare_len_is text [] h.word_bytes h.no_comment bare_nil (λ front e. refl) in
    let no_arrow : begins_arrow text ≡ false = elim (cases_Bool (begins_arrow text)) [ inl e ↦ absurd (h.no_arrow (arrow_is text e)) | inr e ↦ e ] in
    rw (ne_eqb (length text) 0 (λ e. h.filled (nil_from_length text e)), no_arrow, eq-eqb (bare_len text) (length text) len) refl

-- ---- quoted words

abbrev IsPlain : List ℕ → Type 0
IsPlain text = AllByRecursion (λ b. is_escaped b ≡ false) text

abbrev pub BeginsMark : List ℕ → Type 0
BeginsMark [] = ⊤
BeginsMark (b ∷ bytes) = is_escaped b ≡ true

len_nil : plain_len [] ≡ 0
unfolding plain_len
len_nil = refl

pub len_stop : (b : ℕ) (bytes : List ℕ) → is_escaped b ≡ true → plain_len (b ∷ bytes) ≡ 0
unfolding plain_len
len_stop b bytes h = rw h refl

pub len_more : (b : ℕ) (bytes : List ℕ) → is_escaped b ≡ false → plain_len (b ∷ bytes) ≡ suc (plain_len bytes)
unfolding plain_len
len_more b bytes h = rw h refl

pub record PlainFront (text : List ℕ) : Type 0 where
  pub front : List ℕ
  pub after : List ℕ
  pub parts : text ≡ front ++ after
  pub len : plain_len text ≡ length front
  pub plain : IsPlain front
  pub marked : BeginsMark after

pub plain_front : (text : List ℕ) → PlainFront text
plain_front [] = record { front = []; after = []; parts = refl; len = len_nil; plain = tt; marked = tt }
plain_front (b ∷ text) =
    elim (cases_Bool (is_escaped b)) [
      | inl m ↦ record { front = []; after = b ∷ text; parts = refl; len = len_stop b text m; plain = tt; marked = m }
      | inr m ↦
          let f = plain_front text in
          record {
            front = b ∷ f.front;
            after = f.after;
            parts = rw f.parts refl;
            len =
                len_more b text m ∙ ap suc f.len;
            plain = (m, f.plain);
            marked = f.marked;
          }
    ]

escaped-append : (front after : List ℕ) → IsPlain front → escaped_value (front ++ after) ≡ front ++ escaped_value after
escaped-append [] after p = refl
escaped-append (b ∷ front) after p = rw (escaped_plain b _ p.0, escaped-append front after p.1) refl

pub escaped_mark : (after : List ℕ) → 0 < length after → BeginsMark after → escaped_value after ≡ (92 ∷ []) ++ (take 1 after ++ escaped_value (drop 1 after))
escaped_mark [] lt m = absurd (omega arith)
escaped_mark (b ∷ after) lt m = escaped_marked b after m

-- what follows the plain front of an escaped text: nothing, or a backslash and the byte that it escapes
abbrev pub EscapeAt : List ℕ → List ℕ → List ℕ → Type 0
EscapeAt value front [] = value ≡ front
EscapeAt value front (b ∷ after) = (c : ℕ) × (more : List ℕ) × (b ≡ 92) × (after ≡ c ∷ escaped_value more)
    × (is_escaped c ≡ true) × (value ≡ front ++ c ∷ more)

escape_more : (b : ℕ) (value front after : List ℕ) → EscapeAt value front after → EscapeAt (b ∷ value) (b ∷ front) after
escape_more b value front [] h = rw h refl
escape_more b value front (x ∷ after) h = (h.0, h.1, h.2, h.3, h.4, rw h.5 refl)

at_mark : (b : ℕ) (value front after : List ℕ) → 92 ∷ b ∷ escaped_value value ≡ front ++ after → IsPlain front
    → is_escaped b ≡ true → EscapeAt (b ∷ value) front after
at_mark b value [] [] e p k = cc
at_mark b value [] (x ∷ after) e p k = let first : 92 ≡ x = cc in let rest : b ∷ escaped_value value ≡ after = cc in (b, value, sym first, sym rest, k, refl)
at_mark b value (f ∷ front) after e p k = let first : 92 ≡ f = cc in absurd (true≢false (rw (← first) at p.0))

past_plain : (b : ℕ) (value front after : List ℕ) → b ∷ escaped_value value ≡ front ++ after → IsPlain front → BeginsMark after → is_escaped b ≡ false
    → ((tail : List ℕ) → escaped_value value ≡ tail ++ after → IsPlain tail → EscapeAt value tail after) → EscapeAt (b ∷ value) front after
past_plain b value [] [] e p m k later = cc
past_plain b value [] (x ∷ after) e p m k later = let first : b ≡ x = cc in absurd (true≢false (rw (← m, ← first) k))
past_plain b value (f ∷ front) after e p m k later =
    let first : b ≡ f = cc in
    let rest : escaped_value value ≡ front ++ after = cc in
    rw (← first) (escape_more b value front after (later front rest p.1))

escape_parts : (value front after : List ℕ) → escaped_value value ≡ front ++ after → IsPlain front → BeginsMark after → EscapeAt value front after
escape_parts [] [] [] e p m = refl
escape_parts [] front after e p m = cc
escape_parts (b ∷ value) front after e p m =
    elim (cases_Bool (is_escaped b)) [
      | inl k ↦ at_mark b value front after (sym (escaped_marked b value k) ∙ e) p k
      | inr k ↦ past_plain b value front after (sym (escaped_plain b value k) ∙ e) p m k (λ tail f q. escape_parts value tail after f q m)
    ]

-- the escape after the plain front of a text, if anything follows that
pub record Escape (value front after : List ℕ) : Type 0 where
  pub byte : ℕ
  pub more : List ℕ
  pub parts : after ≡ 92 ∷ byte ∷ escaped_value more
  pub marked : is_escaped byte ≡ true
  pub whole : value ≡ front ++ byte ∷ more

pub escape_of : (value front after : List ℕ) → 0 < length after → EscapeAt value front after → Escape value front after
escape_of value front [] lt h = absurd (omega arith)
escape_of value front (b ∷ after) lt h = record {
  byte = h.0;
  more = h.1;
  parts =
      rw (h.2, h.3) refl;
  marked = h.4;
  whole = h.5;
}

pub next_marked : {value front after next : List ℕ} → Escape value front after → next ≡ drop 1 after → (0 < length next) × BeginsMark next
next_marked {next} h e =
    let p : next ≡ h.byte ∷ escaped_value h.more = rw (e, h.parts) refl in
    (omega (arith, ap length p), rw p h.marked)

-- for an escape, the byte that it escapes is appended
pub escape_pushed : {value front after marked mark next plain new : List ℕ} → (old : List ℕ) → Escape value front after
    → marked ≡ drop 1 after → mark ≡ take 1 marked → next ≡ drop 1 marked → plain ≡ old ++ front → new ≡ plain ++ mark
    → (more : List ℕ) × (next ≡ escaped_value more) × (new ++ more ≡ old ++ value)
escape_pushed {front} {marked} {mark} {new} old h is_marked is_mark is_next is_plain is_new =
    let past : marked ≡ h.byte ∷ escaped_value h.more = rw (is_marked, h.parts) refl in
    let one : mark ≡ h.byte ∷ [] = rw (is_mark, past) refl in
    let pushed : new ≡ (old ++ front) ++ (h.byte ∷ []) = rw (is_new, is_plain, one) refl in (
      h.more,
      is_next ∙ ap (λ l. drop 1 l) past,
      ap (λ l. l ++ h.more) pushed
          ∙ append_assoc (old ++ front) (h.byte ∷ []) h.more ∙ append_assoc old front (h.byte ∷ h.more)
          ∙ ap (λ l. old ++ l) (sym h.whole),
    )

-- the text up to its first quote or backslash, and the text from there on
pub record PlainCut (text front after : List ℕ) : Type 0 where
  pub parts : text ≡ front ++ after
  pub plain : IsPlain front
  pub marked : BeginsMark after

pub plain_cut : {text front after : List ℕ} {n : ℕ} → n ≡ plain_len text → front ≡ take n text → after ≡ drop n text
    → PlainCut text front after
plain_cut {text} {n = n} is_len is_front is_after =
    let f = plain_front text in
    let len = sym (is_len ∙ f.len) in
    rw (is_front ∙ ap (take n) f.parts ∙ take_at f.front f.after n len)
    (rw (is_after ∙ ap (drop n) f.parts ∙ drop_at f.front f.after n len)
    (record { parts = f.parts; plain = f.plain; marked = f.marked }))

pub escaped_parts : {text front after : List ℕ} → PlainCut text front after → escaped_value text ≡ front ++ escaped_value after
escaped_parts {front} {after} p = ap escaped_value p.parts ∙ escaped-append front after p.plain

pub escape_at : {text front after : List ℕ} → PlainCut text front after → (value : List ℕ) → text ≡ escaped_value value
    → EscapeAt value front after
escape_at {front} {after} p value e = escape_parts value front after (sym e ∙ p.parts) p.plain p.marked

-- a text without quotes and backslashes needs no escapes
pub plain_all : (text : List ℕ) → plain_len text ≡ length text → escaped_value text ≡ text
plain_all text e =
    let f = plain_front text in
    let none = nil_from_length f.after (omega (arith, e, f.len, ap length f.parts, length-append f.front f.after)) in
    let same = sym (f.parts ∙ ap (λ l. f.front ++ l) none ∙ append-nil f.front) in
    ap escaped_value (sym same ∙ sym (append-nil f.front)) ∙ escaped-append f.front [] f.plain ∙ append-nil f.front ∙ same

pub escaped_none : (value : List ℕ) → escaped_value value ≡ [] → value ≡ []
escaped_none [] e = refl
escaped_none (b ∷ value) e =
    elim (cases_Bool (is_escaped b)) [
      | inl k ↦ let f = sym (escaped_marked b value k) ∙ e in cc
      | inr k ↦ let f = sym (escaped_plain b value k) ∙ e in cc
    ]

-- ---- strings

-- the text between the quotes of a string
pub record Inside (text rest inside value : List ℕ) : Type 0 where
  pub quote : ℕ
  pub parts : text ≡ quote ∷ rest
  pub ends : rest ≡ inside ++ quote ∷ []
  pub shape : ((quote ≡ 34) × (inside ≡ escaped_value value)) ⊎ ((quote ≡ 96) × (inside ≡ value) × HasNoGrave value)

at_end : (text : List ℕ) (quote : ℕ) (inside value : List ℕ) → text ≡ quote ∷ (inside ++ quote ∷ [])
    → ((quote ≡ 34) × (inside ≡ escaped_value value)) ⊎ ((quote ≡ 96) × (inside ≡ value) × HasNoGrave value)
    → Inside text (drop 1 text) (take (length (drop 1 text) - 1) (drop 1 text)) value
at_end text quote inside value e shape =
    let rest : drop 1 text ≡ inside ++ quote ∷ [] = rw e refl in
    let len : length (drop 1 text) - 1 ≡ length inside = omega (arith, ap length rest, length-append inside (quote ∷ [])) in
    let here : take (length (drop 1 text) - 1) (drop 1 text) ≡ inside =
    rw (len, rest) (take_at inside (quote ∷ []) (length inside) refl) in
    rw here
    (record { quote = quote; parts = rw (e, ← rest) refl; ends = rest; shape = shape })

pub inside_of : (text value : List ℕ) → IsString text value → Inside text (drop 1 text) (take (length (drop 1 text) - 1) (drop 1 text)) value
inside_of text value (inl e) = at_end text 34 (escaped_value value) value e (inl (refl, refl))
inside_of text value (inr e) = at_end text 96 value value e.0 (inr (refl, refl, e.1))

pub inside_at : (text value rest inside : List ℕ) → IsString text value → rest ≡ drop 1 text
    → inside ≡ take (length rest - 1) rest → Inside text rest inside value
inside_at text value rest inside h is_rest is_inside =
    let here : take (length (drop 1 text) - 1) (drop 1 text) ≡ inside = sym (rw (is_inside, is_rest) refl) in
    rw is_rest (rw (← here) (inside_of text value h))

quote_ascii : {text rest inside value : List ℕ} → (i : Inside text rest inside value) → i.quote < 128
quote_ascii i = elim i.shape [ inl s ↦ omega (arith, s.0) | inr s ↦ omega (arith, s.0) ]

-- after the opening quote and before the closing one there are character boundaries
pub first_boundary : (text rest inside value : List ℕ) → Inside text rest inside value → IsUtf8 text → IsCharBoundary text 1
first_boundary text rest inside value i utf8 = (beside_ascii text 0 utf8 (omega (arith, ap length i.parts))
    (rw i.parts (quote_ascii i))).1

pub last_boundary : (text rest inside value : List ℕ) → Inside text rest inside value → IsUtf8 rest → IsCharBoundary rest (length rest - 1)
last_boundary text rest inside value i utf8 =
    let len : length rest - 1 ≡ length inside = omega (arith, ap length i.ends, length-append inside (i.quote ∷ [])) in
    let byte =
    ap (λ t. get_or t (length rest - 1) 0) i.ends
    ∙ get_or_at inside i.quote [] 0 (length rest - 1) (sym len) in
    (beside_ascii rest (length rest - 1) utf8 (omega (arith, ap length i.ends, length-append inside (i.quote ∷ []))) (omega (arith, byte, quote_ascii i))).0

-- the value of a string in grave accents is the text between them
pub raw_string : (text rest inside value : List ℕ) → Inside text rest inside value → get_or text 0 0 ≡ 96 → IsString text inside
raw_string text rest inside value i e =
    elim i.shape [
      | inl s ↦ absurd (omega (arith, e, s.0, ap (λ t. get_or t 0 0) i.parts))
      | inr s ↦ inr (rw (i.parts, i.ends, s.0) refl, rw s.1 s.2)
    ]

-- any other string is in quotes, and the text between them is its value, escaped
pub in_quotes_of : (text rest inside value : List ℕ) → Inside text rest inside value → get_or text 0 0 ≢ 96 → inside ≡ escaped_value value
in_quotes_of text rest inside value i n =
    elim i.shape [
      | inl s ↦ s.1
      | inr s ↦ absurd (n (rw i.parts s.0))
    ]

pub quoted_string : (text rest inside value other : List ℕ) → Inside text rest inside value → get_or text 0 0 ≢ 96
    → inside ≡ escaped_value other → IsString text other
quoted_string text rest inside value other i n e =
    elim i.shape [
      | inl s ↦ inl (rw (i.parts, i.ends, s.0, e) refl)
      | inr s ↦ absurd (n (rw i.parts s.0))
    ]

mark_ascii : (b : ℕ) → is_escaped b ≡ true → b < 128
mark_ascii b h = elim (cases_eq b 34) [
  | inl e ↦ omega arith
  | inr n ↦ elim (cases_eq b 92) [ inl e ↦ omega arith | inr k ↦ absurd (false≢true (sym (escape_is_not b n k) ∙ h)) ]
]

pub plain_boundary : (text : List ℕ) → IsUtf8 text → IsCharBoundary text (plain_len text)
plain_boundary text utf8 = by_after (plain_front text).after (plain_front text).parts (plain_front text).marked (plain_front text).len
  where
    by_after : (after : List ℕ) → text ≡ (plain_front text).front ++ after → BeginsMark after
        → plain_len text ≡ length (plain_front text).front → IsCharBoundary text (plain_len text)
    by_after [] parts m len = (
      omega (arith, len, ap length parts, length-append (plain_front text).front []),
      λ lt.
          absurd (omega (arith, len, ap length parts, length-append (plain_front text).front [])),
    )
    by_after (b ∷ after) parts m len =
        let byte = ap (λ t. get_or t (plain_len text) 0) parts
        ∙ get_or_at (plain_front text).front b after 0 (plain_len text) (sym len) in
        (beside_ascii text (plain_len text) utf8 (omega (
          arith,
          len,
          ap length parts,
          length-append (plain_front text).front (b ∷ after),
        )) (omega (arith, byte, mark_ascii b m))).0

pub mark_boundary : (after : List ℕ) → IsUtf8 after → 0 < length after → BeginsMark after → IsCharBoundary after 1
mark_boundary [] utf8 lt m = omega arith
mark_boundary (b ∷ after) utf8 lt m = (beside_ascii (b ∷ after) 0 utf8 lt (mark_ascii b m)).1

module _ (bytes : List ℕ) (n : ℕ) where
  pub plain_stops : n < length bytes → (get_or bytes n 0 ≡ 34) ⊎ (get_or bytes n 0 ≡ 92) → plain_len (drop n bytes) ≡ 0
  plain_stops lt h = rw (drop_more bytes n 0 lt) (len_stop (get_or bytes n 0) (drop (n + 1) bytes) (escape_is _ h))

  pub plain_goes_on : n < length bytes → (get_or bytes n 0 ≡ 34 → ⊥) → (get_or bytes n 0 ≡ 92 → ⊥)
      → plain_len (drop n bytes) ≡ suc (plain_len (drop (n + 1) bytes))
  plain_goes_on lt q s = rw (drop_more bytes n 0 lt) (len_more (get_or bytes n 0) (drop (n + 1) bytes) (escape_is_not _ q s))

  pub plain_ends : length bytes ≤ n → plain_len (drop n bytes) ≡ 0
  plain_ends le = at_drop_all plain_len bytes n le ∙ len_nil
