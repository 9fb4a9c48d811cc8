-- Escaped texts, byte by byte and character by character.
use Rattle.std.proofs.Common.{◌≡◌, ◌≢◌, ◌==◌, not, length, take, drop, get_or, ◌⊎◌, ◌&&◌, ℕ, ◌+◌, ◌-◌, ◌↔◌, ◌<◌, ◌≤◌, Bool, true, false, List, [], ◌∷◌, ◌++◌, refl, sym, ap, ◌∙◌, inl, inr, arith, cond, append-nil, append_assoc}
use Rattle.std.proofs.lemmas.Bool.{and_from, cases_Bool, cases_lt, eqb-true, not-true, or_parts}
use Rattle.std.proofs.lemmas.Bool.Decides.{nat_tests}
use Rattle.std.proofs.lemmas.Grind.{flat_map-append}
use Rattle.std.proofs.lemmas.Str.{char_from_byte, encode_ascii, encodes-append, encodes-chars, inside_one}
use Rattle.std.proofs.lemmas.List.{map-id, take-append-drop, take_more}
use Rattle.std.proofs.lemmas.List.Elements.{All-from_get_or}
use Rattle.std.proofs.lemmas.List.Folds.{list_all-append, list_any_none}
use Rattle.std.proofs.lemmas.List.Sums.{list_all-from_AllPass}
use Rattle.std.specs.Cmp.{first_so, second_so}
use Rattle.std.specs.Str.{IsUtf8, chars}
use Rattle.std.specs.Prelude.{encode_utf8_all, map}
use Rattle.std.specs.Char.{encode_utf8, is_ascii_lowercase, is_ascii_uppercase}
use Rattle.std.specs.List.{All, list_all, list_any}
use Rattle.gm_version.specs.Escape.{AppendsBeginning, escaped_text, escaped_byte, has_no_bang, is_escaped, IsUnescaped}
use Rattle.gm_version.specs.Private.Texts.{escaped_char, read_so_far}

-- a byte outside ASCII is not an upper-case letter
high : (b : ℕ) → 128 ≤ b → is_ascii_uppercase b ≡ false
high b le = grind (arith, nat_tests)

-- the bytes of a character outside ASCII are outside ASCII
encode-high : (c : ℕ) → 128 ≤ c → All (λ b. 128 ≤ b) (encode_utf8 c)
encode-high c more = All-from_get_or (λ b. 128 ≤ b) (encode_utf8 c) 0 (λ k lt. elim (cases_lt (get_or (encode_utf8 c) k 0) 128) [
  | inl low ↦ absurd (omega (arith, inside_one c [] (encode_utf8 c) k (sym (append-nil (encode_utf8 c))) lt low))
  | inr past ↦ past
])

-- an ASCII byte, with nothing after it
alone : (c : ℕ) (test : Bool) → is_ascii_uppercase c ≡ test → escaped_byte c ++ [] ≡ cond test (33 ∷ (c + 32) ∷ []) (c ∷ [])
alone c true e = rw e refl
alone c false e = rw e refl

-- a text without upper-case letters is its own escaped form
pub escaped-lower : (text : List ℕ) → list_any is_ascii_uppercase text ≡ false → escaped_text text ≡ text
escaped-lower [] none = refl
escaped-lower (b ∷ text) none =
    let e = or_parts (is_ascii_uppercase b) (list_any is_ascii_uppercase text) none in
    rw e.0 (ap (b ∷◌) (escaped-lower text e.1))

-- escaping the bytes of a character escapes the character
pub escaped-encode : (c : ℕ) → escaped_text (encode_utf8 c) ≡ escaped_char c
escaped-encode c = elim (cases_lt c 128) [
  | inl one ↦ rw (encode_ascii c one) (alone c (is_ascii_uppercase c) refl)
  | inr more ↦
      let none = list_any_none is_ascii_uppercase (encode_utf8 c) (λ k d lt. high _ (encode-high c more k d lt)) in
      escaped-lower (encode_utf8 c) none ∙ rw (high c more) refl
]

-- one character more
pub escaped-push : (bytes : List ℕ) (c : ℕ) → escaped_text (bytes ++ encode_utf8 c) ≡ escaped_text bytes ++ escaped_char c
escaped-push bytes c = flat_map-append escaped_byte bytes (encode_utf8 c) ∙ ap (escaped_text bytes ++◌) (escaped-encode c)

-- one character more of a text that is escaped in order, after `front`
pub escaped-more : (front name new cs : List ℕ) (c : ℕ) → name ≡ front ++ escaped_text (encode_utf8_all cs) → new ≡ name ++ escaped_char c
    → new ≡ front ++ escaped_text (encode_utf8_all (cs ++ c ∷ []))
escaped-more front name new cs c so_far step =
    let one : encode_utf8_all (c ∷ []) ≡ encode_utf8 c = append-nil (encode_utf8 c) in
    let whole : encode_utf8_all (cs ++ c ∷ []) ≡ encode_utf8_all cs ++ encode_utf8 c =
    encodes-append cs (c ∷ []) ∙ ap (encode_utf8_all cs ++◌) one in
    let more : escaped_text (encode_utf8_all (cs ++ c ∷ [])) ≡ escaped_text (encode_utf8_all cs) ++ escaped_char c =
    ap escaped_text whole ∙ escaped-push (encode_utf8_all cs) c in
    step ∙ ap (◌++ escaped_char c) so_far
    ∙ append_assoc front (escaped_text (encode_utf8_all cs)) (escaped_char c)
    ∙ sym (ap (front ++◌) more)

-- the whole text, after all characters
pub escaped-whole : (front name text cs : List ℕ) → map (λ x. x) cs ≡ chars text → IsUtf8 text
    → name ≡ front ++ escaped_text (encode_utf8_all cs) → name ≡ front ++ escaped_text text
escaped-whole front name text cs all utf8 so_far =
    let same : cs ≡ chars text = sym (map-id cs) ∙ all in
    so_far ∙ ap (λ t. front ++ escaped_text t) (ap encode_utf8_all same ∙ encodes-chars text utf8)

-- the mark of an upper-case letter is a beginning of its escaped form
pub mark-begins : (old marked new : List ℕ) (c : ℕ) → is_ascii_uppercase c ≡ true → marked ≡ old ++ encode_utf8 33 → new ≡ marked
    → AppendsBeginning old new (escaped_char c)
mark-begins old marked new c upper mark same =
    (33 ∷ [], (c + 32) ∷ [], rw upper refl, same ∙ mark ∙ ap (old ++◌) (encode_ascii 33 (omega arith)))

-- a beginning of the next character, after all before it were escaped, is a beginning of the whole
pub begins-more : (front name new text cs rest : List ℕ) (c : ℕ) → name ≡ front ++ escaped_text (encode_utf8_all cs)
    → text ≡ encode_utf8_all cs ++ encode_utf8 c ++ rest → AppendsBeginning name new (escaped_char c) → AppendsBeginning front new (escaped_text text)
begins-more front name new text cs rest c so_far split part =
    let done = escaped_text (encode_utf8_all cs) in
    let more = escaped_text rest in
    let whole : escaped_text text ≡ done ++ escaped_char c ++ more =
    ap escaped_text split ∙ flat_map-append escaped_byte (encode_utf8_all cs ++ encode_utf8 c) rest
    ∙ ap (◌++ more) (escaped-push (encode_utf8_all cs) c) in
    let grouped : done ++ escaped_char c ++ more ≡ (done ++ part.0) ++ (part.1 ++ more) =
    ap (λ t. done ++ t ++ more) part.2 ∙ ap (◌++ more)
    (sym (append_assoc done part.0 part.1)) ∙ append_assoc (done ++ part.0) part.1 more in
    (done ++ part.0, part.1 ++ more, whole ∙ grouped, part.3 ∙ ap (◌++ part.0) so_far ∙ append_assoc front done part.0)

-- ---- what the start of an escaped text determines

-- the test of one byte
bang-head : (b : ℕ) (t : List ℕ) → has_no_bang (b ∷ t) ≡ true → b ≢ 33
bang-head b t h e = cc (rw e at h)

bang-tail : (b : ℕ) (t : List ℕ) → has_no_bang (b ∷ t) ≡ true → has_no_bang t ≡ true
bang-tail b t h = second_so _ _ h

-- the escaped form of a byte, by the two kinds
upper-piece : (b : ℕ) → is_ascii_uppercase b ≡ true → escaped_byte b ≡ 33 ∷ (b + 32) ∷ []
upper-piece b e = rw e refl

other-piece : (b : ℕ) → is_ascii_uppercase b ≡ false → escaped_byte b ≡ b ∷ []
other-piece b e = rw e refl

no-piece : (b : ℕ) (x : List ℕ) → escaped_byte b ++ x ≢ []
no-piece b x e = elim (cases_Bool (is_ascii_uppercase b)) [ inl ub ↦ cc (rw (upper-piece b ub) at e) | inr ub ↦ cc (rw (other-piece b ub) at e) ]

-- if the pieces of two bytes begin the same escaped text, the bytes are equal, and so are the rests
piece-same : (a b : ℕ) (x y : List ℕ) → a ≢ 33 → b ≢ 33 → escaped_byte a ++ x ≡ escaped_byte b ++ y → (a ≡ b) × (x ≡ y)
piece-same a b x y na nb e = elim (cases_Bool (is_ascii_uppercase a)) [
  | inl ua ↦ elim (cases_Bool (is_ascii_uppercase b)) [
    | inl ub ↦
        let f = rw (upper-piece a ua, upper-piece b ub) at e in
        let sum : a + 32 ≡ b + 32 = cc f in
        (omega arith, cc f)
    | inr ub ↦ let f = rw (upper-piece a ua, other-piece b ub) at e in absurd (nb (cc f))
  ]
  | inr ua ↦ elim (cases_Bool (is_ascii_uppercase b)) [
    | inl ub ↦ let f = rw (other-piece a ua, upper-piece b ub) at e in absurd (na (cc f))
    | inr ub ↦
        let f = rw (other-piece a ua, other-piece b ub) at e in
        (cc f, cc f)
  ]
]

-- if an escaped text is a prefix of another, the rest is an escaped text too
pub escaped-rest : (t u rest : List ℕ) → has_no_bang t ≡ true → has_no_bang u ≡ true → escaped_text t ++ rest ≡ escaped_text u
    → (more : List ℕ) × (has_no_bang more ≡ true) × (rest ≡ escaped_text more)
escaped-rest [] u rest ht hu e = (u, hu, e)
escaped-rest (a ∷ t) [] rest ht hu e =
    absurd (no-piece a (escaped_text t ++ rest) (sym (append_assoc (escaped_byte a) (escaped_text t) rest) ∙ e))
escaped-rest (a ∷ t) (b ∷ u) rest ht hu e =
    let same = piece-same a b (escaped_text t ++ rest) (escaped_text u) (bang-head a t ht) (bang-head b u hu)
    (sym (append_assoc (escaped_byte a) (escaped_text t) rest) ∙ e) in
    escaped-rest t u rest (bang-tail a t ht) (bang-tail b u hu) same.1

-- the first byte of an escaped text: '!' before a lower-case letter, or neither '!' nor an upper-case letter
pub escaped-first : (more : List ℕ) (x : ℕ) (r : List ℕ) → has_no_bang more ≡ true → x ∷ r ≡ escaped_text more
    → ((x ≡ 33) × (l : ℕ) × (s : List ℕ) × (r ≡ l ∷ s) × (is_ascii_lowercase l ≡ true)) ⊎ ((x ≢ 33) × (is_ascii_uppercase x ≡ false))
escaped-first [] x r h e = cc e
escaped-first (b ∷ more) x r h e = elim (cases_Bool (is_ascii_uppercase b)) [
  | inl ub ↦
      let f = rw (upper-piece b ub) at e in
      let lower : is_ascii_lowercase (b + 32) ≡ true = grind (arith, nat_tests) in
      inl (cc f, b + 32, escaped_text more, cc f, lower)
  | inr ub ↦
      let f = rw (other-piece b ub) at e in
      let same : x ≡ b = cc f in
      inr (rw same (bang-head b more h), rw same ub)
]

-- ---- reading an escaped text

-- a '!' is followed by a lower-case letter
pub bad_after_bang : (t whole rest : List ℕ) (c : ℕ) → is_ascii_lowercase c ≡ false → has_no_bang t ≡ true
    → ¬ (IsUnescaped whole (read_so_far t true ++ encode_utf8 c ++ rest))
bad_after_bang t whole rest c no_letter h is =
    let regroup : escaped_text t ++ (33 ∷ (encode_utf8 c ++ rest)) ≡ read_so_far t true ++ encode_utf8 c ++ rest =
    sym (append_assoc (escaped_text t) (33 ∷ []) (encode_utf8 c ++ rest)) ∙ sym (append_assoc (escaped_text t ++ 33 ∷ []) (encode_utf8 c) rest) in
    let m = escaped-rest t whole (33 ∷ (encode_utf8 c ++ rest)) h is.0 (regroup ∙ is.1) in
    elim (escaped-first m.0 33 (encode_utf8 c ++ rest) m.1 m.2) [
      | inl letter ↦
          let ascii : letter.1 < 128 = let l = letter.4 in grind (arith, nat_tests) in
          let same : c ≡ letter.1 = char_from_byte (letter.1 ∷ letter.2) rest c (sym letter.3) ascii (omega arith) in
          cc (rw same at no_letter, letter.4)
      | inr other ↦ other.0 refl
    ]

-- no upper-case letter is escaped as itself
pub bad_capital : (t whole rest : List ℕ) (c : ℕ) → is_ascii_uppercase c ≡ true → has_no_bang t ≡ true
    → ¬ (IsUnescaped whole (read_so_far t false ++ encode_utf8 c ++ rest))
bad_capital t whole rest c capital h is =
    let ascii : c < 128 = grind (arith, nat_tests) in
    let one : encode_utf8 c ≡ c ∷ [] = encode_ascii c ascii in
    let regroup : escaped_text t ++ (c ∷ rest) ≡ read_so_far t false ++ encode_utf8 c ++ rest =
    rw (one, append-nil (escaped_text t)) (sym (append_assoc (escaped_text t) (c ∷ []) rest)) in
    let m = escaped-rest t whole (c ∷ rest) h is.0 (regroup ∙ is.1) in
    elim (escaped-first m.0 c rest m.1 m.2) [
      | inl letter ↦ cc (rw letter.0 at capital)
      | inr other ↦ cc (other.1, capital)
    ]

-- a '!' does not end an escaped text
pub bad_end : (t whole name : List ℕ) → read_so_far t true ≡ name → has_no_bang t ≡ true → ¬ (IsUnescaped whole name)
bad_end t whole name read h is =
    let m = escaped-rest t whole (33 ∷ []) h is.0 (read ∙ is.1) in
    elim (escaped-first m.0 33 [] m.1 m.2) [
      | inl letter ↦ cc letter.3
      | inr other ↦ other.0 refl
    ]

-- any other character is escaped as itself
pub read-push : (old new : List ℕ) (c : ℕ) → is_ascii_uppercase c ≡ false → new ≡ old ++ encode_utf8 c
    → read_so_far new false ≡ read_so_far old false ++ encode_utf8 c
read-push old new c small e =
    let piece : escaped_char c ≡ encode_utf8 c = rw small refl in
    append-nil (escaped_text new) ∙ ap escaped_text e ∙ escaped-push old c ∙ ap (escaped_text old ++◌) piece
    ∙ ap (◌++ encode_utf8 c) (sym (append-nil (escaped_text old)))

no_bang_high : (b : ℕ) → 128 ≤ b → not (b == 33) ≡ true
no_bang_high b le = grind (arith, nat_tests)

-- the bytes of any other character have no '!'
no_bang-encode : (c : ℕ) → c ≢ 33 → has_no_bang (encode_utf8 c) ≡ true
no_bang-encode c apart = elim (cases_lt c 128) [
  | inl one ↦ rw (encode_ascii c one) (grind (arith, nat_tests))
  | inr more ↦ list_all-from_AllPass (λ b. not (b == 33)) (encode_utf8 c) (λ k d lt. no_bang_high _ (encode-high c more k d lt))
]

pub no_bang-push : (old new : List ℕ) (c : ℕ) → c ≢ 33 → new ≡ old ++ encode_utf8 c → has_no_bang old ≡ true → has_no_bang new ≡ true
no_bang-push old new c apart e h = rw (e, list_all-append (λ b. not (b == 33)) old (encode_utf8 c), h) (no_bang-encode c apart)

-- the text is what has been read, the next character and the rest
pub name-split : (name cs : List ℕ) (c : ℕ) → IsUtf8 name → map (λ x. x) cs ≡ take (length cs) (chars name)
    → length cs < length (chars name) → c ≡ get_or (chars name) (length cs) c
    → name ≡ encode_utf8_all cs ++ encode_utf8 c ++ encode_utf8_all (drop (length cs + 1) (chars name))
name-split name cs c utf8 front inside at =
    let rest = drop (length cs + 1) (chars name) in
    let so_far : take (length cs) (chars name) ≡ cs = sym front ∙ map-id cs in
    let taken : take (length cs + 1) (chars name) ≡ cs ++ c ∷ [] = take_more (chars name) (length cs) c inside ∙ rw (so_far, ← at) refl in
    let whole : chars name ≡ (cs ++ c ∷ []) ++ rest = sym (take-append-drop (length cs + 1) (chars name)) ∙ ap (◌++ rest) taken in
    let one : encode_utf8_all (c ∷ []) ≡ encode_utf8 c = append-nil (encode_utf8 c) in
    sym (encodes-chars name utf8) ∙ ap encode_utf8_all whole ∙ encodes-append (cs ++ c ∷ []) rest
    ∙ ap (◌++ encode_utf8_all rest) (encodes-append cs (c ∷ []) ∙ ap (encode_utf8_all cs ++◌) one)

-- ---- laws

-- two texts without '!' that have the same escaped form are equal
pub escaped-injective : (t u : List ℕ) → has_no_bang t ≡ true → has_no_bang u ≡ true → escaped_text t ≡ escaped_text u → t ≡ u
escaped-injective [] [] ht hu e = refl
escaped-injective [] (b ∷ u) ht hu e = absurd (no-piece b (escaped_text u) (sym e))
escaped-injective (a ∷ t) [] ht hu e = absurd (no-piece a (escaped_text t) e)
escaped-injective (a ∷ t) (b ∷ u) ht hu e =
    let same = piece-same a b (escaped_text t) (escaped_text u) (bang-head a t ht) (bang-head b u hu) e in
    let rest = escaped-injective t u (bang-tail a t ht) (bang-tail b u hu) same.1 in
    rw (same.0, rest) refl

-- an escaped text has no upper-case letter
pub escaped-small : (t : List ℕ) → list_all (λ b. not (is_ascii_uppercase b)) (escaped_text t) ≡ true
escaped-small [] = refl
escaped-small (b ∷ t) = elim (cases_Bool (is_ascii_uppercase b)) [
  | inl ub ↦
      let lower : is_ascii_uppercase (b + 32) ≡ false = grind (arith, nat_tests) in
      rw (upper-piece b ub, lower) (escaped-small t)
  | inr ub ↦ rw (other-piece b ub, ub) (escaped-small t)
]

-- ---- the pieces of an escaped text

-- a piece of one byte, and then an escaped text
plain-cons : (b : ℕ) (rest : List ℕ) → (b == 33) ≡ false → is_ascii_uppercase b ≡ false → is_escaped rest ≡ true → is_escaped (b ∷ rest) ≡ true
plain-cons b [] mark small h = rw (mark, small) refl
plain-cons b (c ∷ rest) mark small h = rw (mark, small) h

-- an escaped text is made of pieces
pieces-escaped : (t : List ℕ) → has_no_bang t ≡ true → is_escaped (escaped_text t) ≡ true
pieces-escaped [] h = refl
pieces-escaped (b ∷ t) h = elim (cases_Bool (is_ascii_uppercase b)) [
  | inl ub ↦
      let lower : is_ascii_lowercase (b + 32) ≡ true = grind (arith, nat_tests) in
      rw (upper-piece b ub, lower) (pieces-escaped t (second_so _ _ h))
  | inr ub ↦ rw (other-piece b ub) (plain-cons b (escaped_text t) (not-true _ (first_so _ _ h)) ub (pieces-escaped t (second_so _ _ h)))
]

-- one piece more
upper-from : (c : ℕ) (rest : List ℕ) → is_ascii_lowercase c ≡ true → (text : List ℕ) × IsUnescaped text rest
    → (text : List ℕ) × IsUnescaped text (33 ∷ c ∷ rest)
upper-from c rest lower from =
    let upper : is_ascii_uppercase (c - 32) ≡ true = grind (arith, nat_tests) in
    let mark : not (c - 32 == 33) ≡ true = grind (arith, nat_tests) in
    let low : 97 ≤ c = grind (arith, nat_tests) in
    let back : c - 32 + 32 ≡ c = omega arith in
    ((c - 32) ∷ from.0, (and_from _ _ mark from.1.0, rw (upper-piece (c - 32) upper, back) (ap (λ l. 33 ∷ c ∷ l) from.1.1)))

other-from : (b : ℕ) (rest : List ℕ) → (b == 33) ≡ false → is_ascii_uppercase b ≡ false
    → (text : List ℕ) × IsUnescaped text rest → (text : List ℕ) × IsUnescaped text (b ∷ rest)
other-from b rest mark small from =
    (b ∷ from.0, (rw mark from.1.0, rw (other-piece b small) (ap (b ∷◌) from.1.1)))

-- a text made of pieces is escaped
escaped-pieces : (name : List ℕ) → is_escaped name ≡ true → (text : List ℕ) × IsUnescaped text name
escaped-pieces [] h = ([], (refl, refl))
escaped-pieces (b ∷ []) h = other-from b [] (not-true _ (first_so _ _ h)) (not-true _ (second_so _ _ h)) ([], (refl, refl))
escaped-pieces (b ∷ c ∷ rest) h = elim (cases_Bool (b == 33)) [
  | inl mark ↦
      let both : (is_ascii_lowercase c && is_escaped rest) ≡ true = rw mark at h in
      let found = upper-from c rest (first_so _ _ both) (escaped-pieces rest (second_so _ _ both)) in
      rw (eqb-true b 33 mark) found
  | inr other ↦
      let both : (not (is_ascii_uppercase b) && is_escaped (c ∷ rest)) ≡ true = rw other at h in
      other-from b (c ∷ rest) other (not-true _ (first_so _ _ both)) (escaped-pieces (c ∷ rest) (second_so _ _ both))
]

pub pieces : (name : List ℕ) → is_escaped name ≡ true ↔ ((text : List ℕ) × IsUnescaped text name)
pieces name = (escaped-pieces name, λ from. rw from.1.1 (pieces-escaped from.0 from.1.0))
