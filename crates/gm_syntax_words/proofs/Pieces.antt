-- What the scanner's piece implies about the text, and what part of the text decides the piece.
use Rattle.std.proofs.Common.{◌≡◌, ℕ, suc, ◌+◌, ◌-◌, ◌<◌, Bool, true, false, eqb, List, [], ◌∷◌, ◌++◌, length, get_or, Result, Ok, Err, Option, Some, None, refl, sym, ap, ◌∙◌, append_assoc, arith, inl, inr}
use Rattle.std.specs.Prelude.{◌&&◌, ◌||◌, ◌⊎◌, ⊤}
use Rattle.std.proofs.lemmas.Bool.{ne_eqb, cases_Bool, cases_eq, false≢true, true≢false}
use Rattle.std.proofs.lemmas.List.{length-append}
use Rattle.gm_syntax_words.specs.declared.fault.SyntaxKind.{SyntaxKind}
use Rattle.gm_syntax_words.specs.declared.fault.SyntaxKind.TheVariants.{BadByte, OpenString, BadEscape, BlockComment}
use Rattle.gm_syntax_words.specs.declared.word.Kind.{Kind}
use Rattle.gm_syntax_words.specs.declared.word.Kind.TheVariants.{Bare, Text, Mark}
use Rattle.gm_syntax_words.specs.declared.scan.Piece.{Piece}
use Rattle.gm_syntax_words.specs.declared.scan.Piece.TheVariants as piece
use Rattle.gm_syntax_words.specs.Bytes.{is_blank, is_bracket_or_comma, is_quote, is_bad, is_word_byte}
use Rattle.gm_syntax_words.specs.Words.{Word, HasShape, IsString}
use Rattle.gm_syntax_words.specs.Spelling.{IsBareWord, EndsInSlash, MayFollow, BeginsFault}
use Rattle.gm_syntax_words.specs.Bare.{begins, opens_comment, bare_len}
use Rattle.gm_syntax_words.specs.Private.Scan.{quoted_len, raw_len, text_piece, piece_of}
use Rattle.gm_syntax_words.proofs.Classes.{word_not_bracket, bracket_not_blank, quote_not_others, bad_not_others, word_not_others, other_ascii, slash_word, equals_word, quote_quote, grave_quote}
use Rattle.gm_syntax_words.proofs.Steps.{bare_cons}
use Rattle.gm_syntax_words.proofs.Scanned.{opens_cases, arrow_is, arrow_true, bare_front, QuotedFront, quoted_front, RawFront, raw_front}

abbrev pub make_word : Kind → List ℕ → Word
make_word kind text = record { kind = kind; spelling = text }

-- ---- what decides the piece

pub piece_end : (t : Bool) → piece_of t [] ≡ piece.End
unfolding piece_of
piece_end t = refl

pub piece_blank : (t : Bool) (b : ℕ) (bytes : List ℕ) → is_blank b ≡ true → piece_of t (b ∷ bytes) ≡ piece.Blank
unfolding piece_of
piece_blank t b bytes h = rw h refl

pub piece_bracket : (t : Bool) (b : ℕ) (bytes : List ℕ) → is_bracket_or_comma b ≡ true → piece_of t (b ∷ bytes) ≡ piece.Word Mark 1
unfolding piece_of
piece_bracket t b bytes h = rw (bracket_not_blank b h, h) refl

pub piece_bad_quote : (b : ℕ) (bytes : List ℕ) → is_quote b ≡ true → piece_of true (b ∷ bytes) ≡ piece.Fault BadByte
unfolding piece_of
piece_bad_quote b bytes h = rw ((quote_not_others b h).0, (quote_not_others b h).1, h) refl

pub piece_quoted : (bytes : List ℕ) → piece_of false (34 ∷ bytes) ≡ text_piece (quoted_len bytes)
unfolding piece_of
piece_quoted bytes = rw ((quote_not_others 34 quote_quote).0, (quote_not_others 34 quote_quote).1, quote_quote) refl

pub piece_raw : (bytes : List ℕ) → piece_of false (96 ∷ bytes) ≡ text_piece (raw_len bytes)
unfolding piece_of
piece_raw bytes = rw ((quote_not_others 96 grave_quote).0, (quote_not_others 96 grave_quote).1, grave_quote) refl

pub piece_bad : (t : Bool) (b : ℕ) (bytes : List ℕ) → is_bad b ≡ true → piece_of t (b ∷ bytes) ≡ piece.Fault BadByte
unfolding piece_of
piece_bad t b bytes h = rw ((bad_not_others b h).0, (bad_not_others b h).1, (bad_not_others b h).2, h) refl

pub piece_comment : (t : Bool) (bytes : List ℕ) → piece_of t (47 ∷ 47 ∷ bytes) ≡ piece.Comment
unfolding piece_of
piece_comment t bytes = let w = word_not_others 47 slash_word in rw (w.0, w.1, w.2, w.3) refl

pub piece_block : (t : Bool) (bytes : List ℕ) → piece_of t (47 ∷ 42 ∷ bytes) ≡ piece.Fault BlockComment
unfolding piece_of
piece_block t bytes = let w = word_not_others 47 slash_word in rw (w.0, w.1, w.2, w.3) refl

pub piece_arrow : (t : Bool) (bytes : List ℕ) → piece_of t (61 ∷ 62 ∷ bytes) ≡ piece.Word Mark 2
unfolding piece_of
piece_arrow t bytes = let w = word_not_others 61 equals_word in rw (w.0, w.1, w.2, w.3) refl

pub piece_bare : (t : Bool) (b : ℕ) (bytes : List ℕ) → is_word_byte b ≡ true → opens_comment (b ∷ bytes) ≡ false
    → (eqb b 61 && begins 62 bytes) ≡ false → piece_of t (b ∷ bytes) ≡ piece.Word Bare (bare_len (b ∷ bytes))
unfolding piece_of
piece_bare t b bytes h opens arrow =
    let w = word_not_others b h in
    let slashes = no_left (eqb b 47) (begins 47 bytes) (begins 42 bytes) opens in
    let star = no_right (eqb b 47) (begins 47 bytes) (begins 42 bytes) opens in
    rw (w.0, w.1, w.2, w.3, slashes, star, arrow) refl
  where
    no_left : (x y z : Bool) → (x && (y || z)) ≡ false → (x && y) ≡ false
    no_left true true z e = e
    no_left true false z e = refl
    no_left false y z e = refl

    no_right : (x y z : Bool) → (x && (y || z)) ≡ false → (x && z) ≡ false
    no_right true true z e = absurd (true≢false e)
    no_right true false z e = e
    no_right false y z e = refl

-- ---- what the piece implies

-- what is known about a text that directly follows the word before: a bare word could not have been longer
abbrev pub Stops : Option Word → List ℕ → Type 0
Stops None rest = ⊤
Stops (Some w) rest = w.kind ≡ Bare → (bare_len rest ≡ 0) × ((front : List ℕ) → w.spelling ≡ front ++ 47 ∷ [] → begins 47 rest ≡ false)

-- after_bare says whether the word before is a bare word
pub record Tracks (after_bare : Bool) (before : Option Word) : Type 0 where
  pub bare : after_bare ≡ true → IsBareWord before
  pub not_bare : after_bare ≡ false → ¬ IsBareWord before

-- rest is a word of this kind and length, followed by after
pub record WordFacts (kind : Kind) (n : ℕ) (before : Option Word) (rest : List ℕ) : Type 0 where
  pub text : List ℕ
  pub after : List ℕ
  pub parts : rest ≡ text ++ after
  pub len : n ≡ length text
  pub positive : 0 < n
  pub shape : (value : List ℕ) × HasShape kind text value
  pub may_follow : MayFollow before (make_word kind text)
  pub stops : Stops (Some (make_word kind text)) after
  pub ascii_beside : (get_or rest n 0 < 128) ⊎ (get_or rest (n - 1) 0 < 128)

abbrev pub Facts : Piece → Option Word → List ℕ → Type 0
Facts piece.End before rest = rest ≡ []
Facts piece.Blank before rest = (b : ℕ) × (bytes : List ℕ) × (rest ≡ b ∷ bytes) × (is_blank b ≡ true)
Facts piece.Comment before rest = ¬ EndsInSlash before × (more : List ℕ) × (rest ≡ 47 ∷ 47 ∷ more)
Facts (piece.Word kind n) before rest = WordFacts kind n before rest
Facts (piece.Fault kind) before rest = BeginsFault before kind rest

-- no comment can begin directly after a bare word that ends in a slash
not_after_slash : (before : Option Word) (more : List ℕ) → Stops before (47 ∷ more) → ¬ EndsInSlash before
not_after_slash None more stops ends = ends
not_after_slash (Some w) more stops ends = true≢false ((stops ends.0).1 ends.1 ends.2)

-- no bare word and no => begins directly after a bare word
stopped : (before : Option Word) (b : ℕ) (bytes : List ℕ) → Stops before (b ∷ bytes) → is_word_byte b ≡ true
    → opens_comment (b ∷ bytes) ≡ false → ¬ IsBareWord before
stopped None b bytes stops word opens bare = bare
stopped (Some w) b bytes stops word opens bare = absurd (omega (arith, (stops bare).0, bare_cons b bytes word opens))

last_of : (front : List ℕ) (b : ℕ) (after : List ℕ) → get_or ((front ++ b ∷ []) ++ after) (length (front ++ b ∷ []) - 1) 0 ≡ b
last_of [] b after = refl
last_of (c ∷ front) b after =
    let e : length (c ∷ front ++ b ∷ []) - 1 ≡ suc (length (front ++ b ∷ []) - 1) = omega (arith, length-append front (b ∷ [])) in
    ap (λ n. get_or ((c ∷ front ++ b ∷ []) ++ after) n 0) e ∙ last_of front b after

-- a text that begins with a string
string_facts : (before : Option Word) (quote : ℕ) (inside after bytes value : List ℕ) (n : ℕ) → ¬ IsBareWord before
    → quote < 128 → bytes ≡ inside ++ quote ∷ after → n ≡ length inside + 1
    → IsString (quote ∷ (inside ++ quote ∷ [])) value → WordFacts Text (n + 1) before (quote ∷ bytes)
string_facts before quote inside after bytes value n apart ascii e count shape =
    let text = quote ∷ (inside ++ quote ∷ []) in
    let parts : quote ∷ bytes ≡ text ++ after = rw (e, append_assoc inside (quote ∷ []) after) refl in
    let len : n + 1 ≡ length text = omega (arith, count, length-append inside (quote ∷ [])) in
    record {
      text = text;
      after = after;
      parts = parts;
      len = len;
      positive = omega arith;
      shape = (value, shape);
      may_follow = λ bare. absurd (apart bare);
      stops = λ bare. absurd cc;
      ascii_beside = inr (rw (ap (λ (t : List ℕ). get_or t (n + 1 - 1) 0) parts
          ∙ ap (λ (k : ℕ). get_or (text ++ after) (k - 1) 0) len ∙ last_of (quote ∷ inside) quote after) ascii);
    }

quoted_facts : (before : Option Word) (bytes : List ℕ) → ¬ IsBareWord before → (r : Result ℕ SyntaxKind)
    → QuotedFront r bytes → Facts (text_piece r) before (34 ∷ bytes)
quoted_facts before bytes apart (Ok n) h =
    string_facts before 34 _ h.1 bytes h.0 n apart (omega arith) h.2 h.3 (inl refl)
quoted_facts before bytes apart (Err OpenString) h = (
  apart,
  h.0,
  elim h.1 [
    | inl e ↦ inl (rw e refl)
    | inr e ↦ inr (inl (rw e refl))
  ],
)
quoted_facts before bytes apart (Err BadEscape) h = (apart, h.0, h.1, h.2, rw h.3 refl, h.4, h.5)
quoted_facts before bytes apart (Err kind) h = absurd h

raw_facts : (before : Option Word) (bytes : List ℕ) → ¬ IsBareWord before → (r : Result ℕ SyntaxKind) → RawFront r bytes
    → Facts (text_piece r) before (96 ∷ bytes)
raw_facts before bytes apart (Ok n) h =
    string_facts before 96 h.0 h.1 bytes h.0 n apart (omega arith) h.2 h.4 (inr (refl, h.3))
raw_facts before bytes apart (Err OpenString) h = (apart, bytes, inr (inr (refl, h)))
raw_facts before bytes apart (Err kind) h = absurd h

-- after a bare word there is an ASCII byte or nothing
stop_ascii : (after : List ℕ) → bare_len after ≡ 0 → get_or after 0 0 < 128
stop_ascii [] z = omega arith
stop_ascii (b ∷ after) z =
    elim (cases_Bool (is_word_byte b)) [
      | inr n ↦ other_ascii b n
      | inl w ↦ elim (cases_eq b 47) [
        | inl e ↦ omega arith
        | inr n ↦ absurd (omega (arith, z, bare_cons b after w (rw (ne_eqb b 47 n) refl)))
      ]
    ]

no_arrow_at : (b : ℕ) (bytes : List ℕ) (rest : List ℕ) → (eqb b 61 && begins 62 bytes) ≡ false → b ∷ bytes ≡ 61 ∷ 62 ∷ rest → ⊥
no_arrow_at b bytes rest h e = true≢false (sym (arrow_true rest _ e) ∙ h)

bare_facts : (before : Option Word) (b : ℕ) (bytes : List ℕ) → Stops before (b ∷ bytes) → is_word_byte b ≡ true
    → opens_comment (b ∷ bytes) ≡ false → (eqb b 61 && begins 62 bytes) ≡ false
    → WordFacts Bare (bare_len (b ∷ bytes)) before (b ∷ bytes)
bare_facts before b bytes stops word opens arrow =
    let f = bare_front _ in
    let one = bare_cons b bytes word opens in
    record {
      text = f.text;
      after = f.after;
      parts = f.parts;
      len = f.len;
      positive = omega (arith, one);
      shape = (
        f.text,
        (
          record {
            filled = λ e. absurd (omega (arith, one, f.len, ap length e));
            word_bytes = f.word_bytes;
            no_comment = f.no_comment;
            no_arrow = λ a. no_arrow_at b bytes _ arrow (f.parts ∙ ap (λ t. t ++ f.after) a.1);
          },
          refl,
        ),
      );
      may_follow = λ bare. absurd (stopped before b bytes stops word opens bare);
      stops = λ e. (f.stop, f.no_slash);
      ascii_beside = inl (rw (ap (λ (t : List ℕ). get_or t (bare_len (b ∷ bytes)) 0)
          f.parts ∙ ap (λ (n : ℕ). get_or (f.text ++ f.after) n 0) f.len ∙ at_end f.text f.after)
          (stop_ascii f.after f.stop));
    }
  where
    at_end : (text after : List ℕ) → get_or (text ++ after) (length text) 0 ≡ get_or after 0 0
    at_end [] after = refl
    at_end (c ∷ text) after = at_end text after

bracket_facts : (before : Option Word) (b : ℕ) (bytes : List ℕ) → is_bracket_or_comma b ≡ true → WordFacts Mark 1 before (b ∷ bytes)
bracket_facts before b bytes h = record {
  text = b ∷ [];
  after = bytes;
  parts = refl;
  len = refl;
  positive = omega arith;
  shape = (b ∷ [], (inl (b, h, refl), refl));
  may_follow = λ bare. (refl, λ e. cc);
  stops = λ bare. absurd cc;
  ascii_beside = inr (other_ascii b (word_not_bracket b h));
}

arrow_facts : (before : Option Word) (bytes : List ℕ) → ¬ IsBareWord before → WordFacts Mark 2 before (61 ∷ 62 ∷ bytes)
arrow_facts before bytes apart = record {
  text = 61 ∷ 62 ∷ [];
  after = bytes;
  parts = refl;
  len = refl;
  positive = omega arith;
  shape = (61 ∷ 62 ∷ [], (inr refl, refl));
  may_follow = λ bare. absurd (apart bare);
  stops = λ bare. absurd cc;
  ascii_beside = inr (omega arith);
}

quote_cases : (b : ℕ) → is_quote b ≡ true → (b ≡ 34) ⊎ (b ≡ 96)
unfolding is_quote
quote_cases b h = elim (cases_eq b 34) [
  | inl e ↦ inl e
  | inr n ↦ elim (cases_eq b 96)
      [ inl e ↦ inr e | inr m ↦ absurd (false≢true (sym (rw (ne_eqb b 34 n, ne_eqb b 96 m) refl) ∙ h)) ]
]

word_from_others : (b : ℕ) → is_blank b ≡ false → is_bracket_or_comma b ≡ false → is_quote b ≡ false → is_bad b ≡ false → is_word_byte b ≡ true
unfolding is_word_byte
word_from_others b p q r s = rw (p, q, r, s) refl

-- the cases of a byte that may be in a bare word
word_byte_facts : (t : Bool) (before : Option Word) (b : ℕ) (bytes : List ℕ) → Stops before (b ∷ bytes)
    → is_word_byte b ≡ true → Facts (piece_of t (b ∷ bytes)) before (b ∷ bytes)
word_byte_facts t before b bytes stops word =
    elim (cases_Bool (opens_comment (b ∷ bytes))) [
      | inl opens ↦ by_comment (opens_cases b bytes opens)
      | inr opens ↦ elim (cases_Bool (eqb b 61 && begins 62 bytes)) [
        | inr arrow ↦ rw (piece_bare t b bytes word opens arrow) (bare_facts before b bytes stops word opens arrow)
        | inl arrow ↦ by_arrow opens (arrow_is (b ∷ bytes) arrow)
      ]
    ]
  where
    by_comment : ((more : List ℕ) × (b ∷ bytes ≡ 47 ∷ 47 ∷ more)) ⊎ ((more : List ℕ) × (b ∷ bytes ≡ 47 ∷ 42 ∷ more))
        → Facts (piece_of t (b ∷ bytes)) before (b ∷ bytes)
    by_comment (inl m) = rw (m.1, piece_comment t m.0) (not_after_slash before (47 ∷ m.0) (rw (← m.1) stops), m.0, refl)
    by_comment (inr m) = rw (m.1, piece_block t m.0) (not_after_slash before (42 ∷ m.0) (rw (← m.1) stops), m.0, refl)

    by_arrow : opens_comment (b ∷ bytes) ≡ false → ((more : List ℕ) × (b ∷ bytes ≡ 61 ∷ 62 ∷ more)) → Facts (piece_of t (b ∷ bytes)) before (b ∷ bytes)
    by_arrow opens m =
        rw (m.1, piece_arrow t m.0) (arrow_facts before m.0 (stopped before b bytes stops word opens))

quote_facts : (t : Bool) (before : Option Word) (b : ℕ) (bytes : List ℕ) → Tracks t before → is_quote b ≡ true
    → Facts (piece_of t (b ∷ bytes)) before (b ∷ bytes)
quote_facts true before b bytes tracks quote =
    rw (piece_bad_quote b bytes quote) (b, bytes, refl, inr (quote, tracks.bare refl))
quote_facts false before b bytes tracks quote =
    elim (quote_cases b quote) [
      | inl e ↦ rw (e, piece_quoted bytes) (quoted_facts before bytes (tracks.not_bare refl) (quoted_len bytes) (quoted_front bytes))
      | inr e ↦ rw (e, piece_raw bytes) (raw_facts before bytes (tracks.not_bare refl) (raw_len bytes) (raw_front bytes))
    ]

-- the facts about the piece that a text begins with
pub facts : (t : Bool) (before : Option Word) (rest : List ℕ) → Tracks t before → Stops before rest → Facts (piece_of t rest) before rest
facts t before [] tracks stops = rw (piece_end t) refl
facts t before (b ∷ bytes) tracks stops =
    elim (cases_Bool (is_blank b)) [
      | inl blank ↦ rw (piece_blank t b bytes blank) (b, bytes, refl, blank)
      | inr blank ↦ elim (cases_Bool (is_bracket_or_comma b)) [
        | inl bracket ↦ rw (piece_bracket t b bytes bracket) (bracket_facts before b bytes bracket)
        | inr bracket ↦ elim (cases_Bool (is_quote b)) [
          | inl quote ↦ quote_facts t before b bytes tracks quote
          | inr quote ↦ elim (cases_Bool (is_bad b)) [
            | inl bad ↦ rw (piece_bad t b bytes bad) (b, bytes, refl, inl bad)
            | inr bad ↦ word_byte_facts t before b bytes stops (word_from_others b blank bracket quote bad)
          ]
        ]
      ]
    ]
