-- A reading of a text begins with the scanner's piece, and the rest of it is a reading of the text after that
-- piece.
use Rattle.std.proofs.Common.{◌≡◌, ℕ, Bool, true, false, eqb, List, [], ◌∷◌, ◌++◌, length, take, drop, Err, Option, Some, None, refl, sym, ap, subst, ◌∙◌, append_assoc, arith, inl, inr}
use Rattle.std.specs.Prelude.{◌&&◌, ◌≢◌}
use Rattle.std.proofs.lemmas.Bool.{eq-eqb, ne_eqb, cases_Bool, cases_eq, true≢false}
use Rattle.std.proofs.lemmas.List.{take_at, drop_at, length-append, append-nil}
use Rattle.gm_syntax_words.specs.declared.fault.SyntaxKind.{SyntaxKind}
use Rattle.gm_syntax_words.specs.declared.fault.SyntaxKind.TheVariants.{BadByte, OpenString, BadEscape, BlockComment}
use Rattle.gm_syntax_words.specs.declared.word.Kind.{Kind}
use Rattle.gm_syntax_words.specs.declared.word.Kind.TheVariants.{Bare, Text, Mark}
use Rattle.gm_syntax_words.specs.declared.scan.Piece.{Piece}
use Rattle.gm_syntax_words.specs.declared.scan.Piece.TheVariants as piece
use Rattle.gm_syntax_words.specs.Bytes.{is_blank, is_word_byte}
use Rattle.gm_syntax_words.specs.Words.{Word, AllBlank, IsBare, IsString, IsMark, HasShape, HasValue, escaped_value, HasNoGrave}
use Rattle.gm_syntax_words.specs.Spelling.{Ending, Nothing, Comment, Fault, touching_word, IsBareWord, EndsInSlash, MayFollow, BeginsFault, Ends, BeginsWithWord, Reads}
use Rattle.gm_syntax_words.specs.Bare.{begins, opens_comment, bare_len}
use Rattle.gm_syntax_words.specs.Private.Scan.{quoted_len, raw_len, longer, text_piece, piece_of, put_front, trim_end}
use Rattle.gm_syntax_words.proofs.Classes.{word_not_blank, word_not_bracket, quote_not_others, bad_not_others, word_not_others, slash_word, greater_word}
use Rattle.gm_syntax_words.proofs.Steps.{bare_cons, bare_stop_word, bare_stop_comment, bare_nil, quoted_end, quoted_nil, quoted_cut, quoted_bad, raw_end, raw_nil, escape_is_not}
use Rattle.gm_syntax_words.proofs.Scanned.{bare_len_is, quoted_len-escaped, raw_len-append}
use Rattle.gm_syntax_words.proofs.Pieces.{make_word, Stops, Tracks, Facts, facts, piece_end, piece_blank, piece_bracket, piece_bad_quote, piece_quoted, piece_raw, piece_bad, piece_comment, piece_block, piece_arrow, piece_bare}

-- ---- the text of a comment

trim_blanks : (blanks : List ℕ) → AllBlank blanks → trim_end blanks ≡ []
unfolding trim_end
trim_blanks [] h = refl
trim_blanks (b ∷ blanks) h = rw (trim_blanks blanks h.1) (rw h.0 refl)

pub trim_end-append : (text blanks : List ℕ) → AllBlank blanks
    → ((front : List ℕ) (b : ℕ) → is_blank b ≡ true → text ≢ front ++ b ∷ []) → trim_end (text ++ blanks) ≡ text
unfolding trim_end
trim_end-append [] blanks h trimmed = trim_blanks blanks h
trim_end-append (b ∷ []) blanks h trimmed =
    let plain : is_blank b ≡ false = elim (cases_Bool (is_blank b)) [ inl e ↦ absurd (trimmed [] b e refl) | inr n ↦ n ] in
    ap (put_front b) (trim_blanks blanks h) ∙ rw plain refl
trim_end-append (b ∷ c ∷ text) blanks h trimmed =
    rw (trim_end-append (c ∷ text) blanks h (λ front d e eq. trimmed (b ∷ front) d e (ap (λ t. b ∷ t) eq))) refl

-- a text is the trimmed text followed by blanks
pub record Trimmed (text : List ℕ) : Type 0 where
  pub blanks : List ℕ
  pub parts : text ≡ trim_end text ++ blanks
  pub are_blank : AllBlank blanks
  pub trimmed : (front : List ℕ) (b : ℕ) → is_blank b ≡ true → trim_end text ≢ front ++ b ∷ []

nil_not_push : (front : List ℕ) (b : ℕ) → [] ≢ front ++ b ∷ []
nil_not_push [] b e = cc
nil_not_push (c ∷ front) b e = cc

put_front_parts : (b : ℕ) (bytes t blanks : List ℕ) → bytes ≡ t ++ blanks → AllBlank blanks
    → ((front : List ℕ) (d : ℕ) → is_blank d ≡ true → t ≢ front ++ d ∷ [])
    → (rest : List ℕ) × (b ∷ bytes ≡ put_front b t ++ rest) × AllBlank rest × ((front : List ℕ) (d : ℕ) → is_blank d ≡ true → put_front b t ≢ front ++ d ∷ [])
put_front_parts b bytes [] blanks parts are trimmed =
    elim (cases_Bool (is_blank b)) [
      | inl blank ↦ (b ∷ blanks, rw parts (rw blank refl), (blank, are), λ front d k e. nil_not_push front d (sym (rw blank refl) ∙ e))
      | inr plain ↦ (blanks, rw parts (rw plain refl), are, λ front d k e. only_plain b plain front d k (sym (rw plain refl) ∙ e))
    ]
  where
    only_plain : (b : ℕ) → is_blank b ≡ false → (front : List ℕ) (d : ℕ) → is_blank d ≡ true → b ∷ [] ≢ front ++ d ∷ []
    only_plain b plain [] d k e = let same : b ≡ d = cc in true≢false (rw (← k, ← same) plain)
    only_plain b plain (c ∷ front) d k e = let none : [] ≡ front ++ d ∷ [] = cc in nil_not_push front d none
put_front_parts b bytes (c ∷ t) blanks parts are trimmed = (blanks, rw parts refl, are, keeps)
  where
    keeps : (front : List ℕ) (d : ℕ) → is_blank d ≡ true → b ∷ c ∷ t ≢ front ++ d ∷ []
    keeps [] d k e = cc
    keeps (x ∷ front) d k e = trimmed front d k cc

pub trim_parts : (text : List ℕ) → Trimmed text
unfolding trim_end
trim_parts [] = record { blanks = []; parts = refl; are_blank = tt; trimmed = λ front b k e. nil_not_push front b e }
trim_parts (b ∷ bytes) =
    let t = trim_parts bytes in
    let p = put_front_parts b bytes _ _ t.parts t.are_blank t.trimmed in
    record { blanks = p.0; parts = p.1; are_blank = p.2; trimmed = p.3 }

-- a text that begins with two slashes still does so when trimmed
pub trim_slashes : (more : List ℕ) → (rest : List ℕ) × (trim_end (47 ∷ 47 ∷ more) ≡ 47 ∷ 47 ∷ rest)
unfolding trim_end
trim_slashes more = by_rest _
  where
    slash_plain : is_blank 47 ≡ false
    slash_plain = (word_not_others 47 slash_word).0

    by_rest : (t : List ℕ) → (rest : List ℕ) × (put_front 47 (put_front 47 t) ≡ 47 ∷ 47 ∷ rest)
    by_rest [] = ([], rw slash_plain refl)
    by_rest (c ∷ t) = (c ∷ t, refl)

-- ---- from the piece to the reading

abbrev pub Continues : Piece → Option Word → List ℕ → List Word → Ending → Type 0
Continues piece.End before rest words e = (words ≡ []) × (e ≡ Nothing)
Continues piece.Blank before rest words e = Reads None (drop 1 rest) words e
Continues piece.Comment before rest words e = (words ≡ []) × (e ≡ Comment (trim_end rest))
Continues (piece.Word kind len) before rest words e = (others : List Word)
    × (words ≡ make_word kind (take len rest) ∷ others) × Reads (Some (make_word kind (take len rest))) (drop len rest)
    others e
Continues (piece.Fault kind) before rest words e = (words ≡ []) × (e ≡ Fault kind)

touching_none : (blanks : List ℕ) → touching_word None blanks ≡ None
touching_none [] = refl
touching_none (b ∷ blanks) = refl

ends_reading : (before : Option Word) (rest : List ℕ) (words : List Word) (e f : Ending) → words ≡ [] → e ≡ f → Ends before f rest → Reads before rest words e
ends_reading before rest words e f none same ends =
    rw none
    (rw same
    (record { blanks = []; rest = rest; parts = refl; are_blank = tt; ends = ends }))

pub blank_reading : (before : Option Word) (b : ℕ) (bytes : List ℕ) (words : List Word) (e : Ending) → is_blank b ≡ true
    → Reads None bytes words e → Reads before (b ∷ bytes) words e
blank_reading before b bytes [] e blank r =
    record {
      blanks = b ∷ r.blanks;
      rest = r.rest;
      parts = rw r.parts refl;
      are_blank =
          (blank, r.are_blank);
      ends = rw (← (touching_none r.blanks)) r.ends;
    }
blank_reading before b bytes (w ∷ words) e blank (rest, r, others) = (
  rest,
  record {
    blanks = b ∷ r.blanks;
    parts = rw r.parts refl;
    are_blank =
        (blank, r.are_blank);
    shape = r.shape;
    may_follow =
        subst (λ (x : Option Word). MayFollow x w) (touching_none r.blanks) r.may_follow;
  },
  others,
)

pub reads_from : (p : Piece) (before : Option Word) (rest : List ℕ) (words : List Word) (e : Ending)
    → Facts p before rest → Continues p before rest words e → Reads before rest words e
reads_from piece.End before rest words e facts k = ends_reading before rest words e Nothing k.0 k.1 facts
reads_from piece.Blank before rest words e facts k =
    rw facts.2
    (blank_reading before facts.0 facts.1 words e facts.3
    (subst (λ (t : List ℕ). Reads None (drop 1 t) words e) facts.2 k))
reads_from piece.Comment before rest words e facts k =
    let t = trim_parts rest in
    let s = trim_slashes facts.1 in
    ends_reading before rest words e _ k.0 k.1 (
      facts.0,
      record { slashes = (s.0, rw facts.2 s.1); trimmed = t.trimmed },
      t.blanks,
      t.are_blank,
      t.parts,
    )
reads_from (piece.Word kind n) before rest words e facts k =
    let at : take n rest ≡ facts.text = rw facts.parts (take_at facts.text facts.after n (sym facts.len)) in
    let past : drop n rest ≡ facts.after = rw facts.parts (drop_at facts.text facts.after n (sym facts.len)) in
    let begins : BeginsWithWord before rest (make_word kind (take n rest)) (drop n rest) =
    rw at
    (rw past
    (record { blanks = []; parts = facts.parts; are_blank = tt; shape = facts.shape; may_follow = facts.may_follow })) in
    rw k.1 (drop n rest, begins, k.2)
reads_from (piece.Fault kind) before rest words e facts k = ends_reading before rest words e _ k.0 k.1 facts

-- ---- from the reading to the piece

nonword_stops : (b : ℕ) (bytes : List ℕ) → is_word_byte b ≡ false → (bare_len (b ∷ bytes) ≡ 0) × (begins 47 (b ∷ bytes) ≡ false)
nonword_stops b bytes h = (bare_stop_word b bytes h, ne_eqb b 47 (λ e. true≢false (rw (← slash_word, ← e) h)))

abbrev BothStop : List ℕ → List ℕ → Type 0
BothStop text rest = (bare_len rest ≡ 0) × ((front : List ℕ) → text ≡ front ++ 47 ∷ [] → begins 47 rest ≡ false)

both_at : (text rest : List ℕ) (b : ℕ) (bytes : List ℕ) → rest ≡ b ∷ bytes → is_word_byte b ≡ false → BothStop text rest
both_at text rest b bytes e h = rw e ((nonword_stops b bytes h).0, λ front f. (nonword_stops b bytes h).1)

comment_stops : (w : Word) (rest : List ℕ) (d : ℕ) (more : List ℕ) → w.kind ≡ Bare → ¬ EndsInSlash (Some w)
    → rest ≡ 47 ∷ d ∷ more → opens_comment (47 ∷ d ∷ more) ≡ true → BothStop w.spelling rest
comment_stops w rest d more bare apart e opens =
    rw e (bare_stop_comment 47 _ slash_word opens, λ front f. absurd (apart (bare, front, f)))

fault_stops : (w : Word) (rest : List ℕ) (kind : SyntaxKind) → w.kind ≡ Bare → BeginsFault (Some w) kind rest → BothStop w.spelling rest
fault_stops w rest BadByte bare h =
    elim h.3 [
      | inl bad ↦ both_at _ rest h.0 h.1 h.2 (bad_not_others h.0 bad).3
      | inr quote ↦ both_at _ rest h.0 h.1 h.2 (quote_not_others h.0 quote.0).2
    ]
fault_stops w rest OpenString bare h = absurd (h.0 bare)
fault_stops w rest BadEscape bare h = absurd (h.0 bare)
fault_stops w rest BlockComment bare h = comment_stops w rest 42 h.1 bare h.0 h.2 refl
fault_stops w rest kind bare h = absurd h

end_stops : (w : Word) (rest : List ℕ) (e : Ending) → w.kind ≡ Bare → Ends (Some w) e rest → BothStop w.spelling rest
end_stops w rest Nothing bare h = rw h (bare_nil, λ front f. refl)
end_stops w rest (Comment text) bare h = comment_stops w rest 47 (h.1.slashes.0 ++ h.2) bare h.0 (rw (h.4, h.1.slashes.1) refl) refl
end_stops w rest (Fault kind) bare h = fault_stops w rest kind bare h

blank_stops : (text rest : List ℕ) (b : ℕ) (bytes : List ℕ) → rest ≡ b ∷ bytes → is_blank b ≡ true → BothStop text rest
blank_stops text rest b bytes e h = both_at text rest b bytes e (word_not_blank b h)

mark_stops : (text rest : List ℕ) (spelling after : List ℕ) → rest ≡ spelling ++ after → IsMark spelling → spelling ≢ 61 ∷ 62 ∷ [] → BothStop text rest
mark_stops text rest spelling after e (inl (b, bracket, is)) other =
    both_at text rest b after (rw (e, is) refl) (word_not_bracket b bracket)
mark_stops text rest spelling after e (inr is) other = absurd (other is)

mark_shape : (w : Word) → w.kind ≡ Mark → ((value : List ℕ) × HasValue w value) → IsMark w.spelling
mark_shape w e h = (subst (λ (kind : Kind). HasShape kind w.spelling h.0) e h.1).0

-- if a text that has a reading directly follows a bare word, that word ends there
pub reads_stops : (w : Word) (rest : List ℕ) (words : List Word) (e : Ending) → Reads (Some w) rest words e → Stops (Some w) rest
reads_stops w rest [] e r bare = by_blanks r.blanks r.parts r.are_blank r.ends
  where
    by_blanks : (blanks : List ℕ) → rest ≡ blanks ++ r.rest → AllBlank blanks → Ends (touching_word (Some w) blanks) e r.rest → BothStop w.spelling rest
    by_blanks [] parts are ends = rw parts (end_stops w r.rest e bare ends)
    by_blanks (b ∷ blanks) parts are ends = blank_stops _ rest b _ parts are.0
reads_stops w rest (v ∷ words) e (after, r, others) bare = by_blanks r.blanks r.parts r.are_blank r.may_follow
  where
    by_blanks : (blanks : List ℕ) → rest ≡ blanks ++ (v.spelling ++ after) → AllBlank blanks
        → MayFollow (touching_word (Some w) blanks) v → BothStop w.spelling rest
    by_blanks [] parts are follows = mark_stops _ rest _ after parts (mark_shape v (follows bare).0 r.shape) (follows bare).1
    by_blanks (b ∷ blanks) parts are follows = blank_stops _ rest b _ parts are.0

-- a text that begins with a blank is read like the text after the blank
blank_continues : (t : Bool) (before : Option Word) (rest : List ℕ) (b : ℕ) (bytes : List ℕ) (words : List Word)
    (e : Ending) → rest ≡ b ∷ bytes → is_blank b ≡ true → Reads None bytes words e
    → Continues (piece_of t rest) before rest words e
blank_continues t before rest b bytes words e parts blank r = rw (parts, piece_blank t b bytes blank) r

word_continues : (t : Bool) (before : Option Word) (rest : List ℕ) (kind : Kind) (text after : List ℕ)
    (words : List Word) (e : Ending) → piece_of t rest ≡ piece.Word kind (length text) → rest ≡ text ++ after
    → Reads (Some (make_word kind text)) after words e → Continues (piece_of t rest) before rest
    (make_word kind text ∷ words) e
word_continues t before rest kind text after words e same parts r =
    let at : take (length text) rest ≡ text = rw parts (take_at text after (length text) refl) in
    let past : drop (length text) rest ≡ after = rw parts (drop_at text after (length text) refl) in
    rw same (words, ap (λ x. make_word kind x ∷ words) (sym at), rw at (rw past r))

-- if there is no bare word before, the flag of the scanner says so
is_apart : (t : Bool) (before : Option Word) → Tracks t before → ¬ IsBareWord before → t ≡ false
is_apart true before tracks apart = absurd (apart (tracks.bare refl))
is_apart false before tracks apart = refl

is_beside : (t : Bool) (before : Option Word) → Tracks t before → IsBareWord before → t ≡ true
is_beside true before tracks bare = refl
is_beside false before tracks bare = absurd (tracks.not_bare refl bare)

fault_end : (t : Bool) (before : Option Word) (rest : List ℕ) (kind : SyntaxKind) → Tracks t before
    → BeginsFault before kind rest → piece_of t rest ≡ piece.Fault kind
fault_end t before rest BadByte tracks h =
    rw h.2 (elim h.3 [
      | inl bad ↦ piece_bad t h.0 h.1 bad
      | inr quote ↦ ap (λ x. piece_of x (h.0 ∷ h.1)) (is_beside t before tracks quote.1)
          ∙ piece_bad_quote h.0 h.1 quote.0
    ])
fault_end t before rest OpenString tracks h =
    rw (is_apart t before tracks h.0) (elim h.2 [
      | inl e ↦ ap (piece_of false) e ∙ piece_quoted _
          ∙ ap text_piece (open_plain h.1)
      | inr (inl e) ↦ ap (piece_of false) e ∙ piece_quoted _
          ∙ ap text_piece (quoted_len-escaped h.1 _
          ∙ ap (longer (length (escaped_value h.1))) (quoted_cut 92 refl))
      | inr (inr e) ↦ ap (piece_of false) e.0 ∙ piece_raw h.1
          ∙ ap text_piece (open_raw h.1 e.1)
    ])
  where
    open_plain : (value : List ℕ) → quoted_len (escaped_value value) ≡ Err OpenString
    open_plain value = rw (← append-nil (escaped_value value), quoted_len-escaped value [], quoted_nil) refl

    open_raw : (value : List ℕ) → HasNoGrave value → raw_len value ≡ Err OpenString
    open_raw value none = rw (← append-nil value, raw_len-append value [] none, raw_nil) refl
fault_end t before rest BadEscape tracks h =
    rw (
      is_apart t before tracks h.0,
      h.4,
      piece_quoted _,
      quoted_len-escaped h.1 _,
      quoted_bad 92 h.2 h.3 refl (escape_is_not h.2 h.5 h.6),
    ) refl
fault_end t before rest BlockComment tracks h = rw h.2 (piece_block t h.1)
fault_end t before rest kind tracks h = absurd h

end_continues : (t : Bool) (before : Option Word) (rest : List ℕ) (e : Ending) → Tracks t before → Ends before e rest
    → Continues (piece_of t rest) before rest [] e
end_continues t before rest Nothing tracks h =
    rw (h, piece_end t) (refl, refl)
end_continues t before rest (Comment text) tracks h =
    let begins : rest ≡ 47 ∷ 47 ∷ (h.1.slashes.0 ++ h.2) = rw (h.4, h.1.slashes.1) refl in
    let same : text ≡ trim_end rest = rw (← trim_end-append text h.2 h.3 h.1.trimmed, ← h.4) refl in
    rw (begins, piece_comment t _) (refl, rw (same, begins) refl)
end_continues t before rest (Fault kind) tracks h = rw (fault_end t before rest kind tracks h) (refl, refl)

-- the scanner takes the whole of a bare word
bare_piece : (t : Bool) (text after : List ℕ) → IsBare text → BothStop text after → piece_of t (text ++ after) ≡ piece.Word Bare (length text)
bare_piece t [] after bare stop = absurd (bare.filled refl)
bare_piece t (b ∷ text) after bare stop =
    let len = bare_len_is (b ∷ text) after bare.word_bytes bare.no_comment stop.0 stop.1 in
    let word = bare.word_bytes.0 in
    let opens : opens_comment (b ∷ text ++ after) ≡ false = elim (cases_Bool (opens_comment (b ∷ text ++ after))) [
      | inr e ↦ e
      | inl e ↦ absurd (omega (arith, len, bare_stop_comment b (text ++ after) word e))
    ] in
    piece_bare t b (text ++ after) word opens (no_arrow b text bare.no_arrow) ∙ ap (λ n. piece.Word Bare n) len
  where
    past_end : (after : List ℕ) → bare_len after ≡ 0 → begins 62 after ≡ false
    past_end [] z = refl
    past_end (c ∷ after) z = elim (cases_eq c 62) [
      | inr n ↦ ne_eqb c 62 n
      | inl e ↦ absurd (omega (arith, sym (ap (λ x. bare_len (x ∷ after)) e) ∙ z, bare_cons 62 after greater_word refl))
    ]

    no_arrow : (b : ℕ) (text : List ℕ) → ((rest : List ℕ) × (b ∷ text ≡ 61 ∷ 62 ∷ rest) → ⊥) → (eqb b 61 && begins 62 (text ++ after)) ≡ false
    no_arrow b [] h = elim (cases_Bool (eqb b 61)) [ inr e ↦ rw e refl | inl e ↦ rw (e, past_end after stop.0) refl ]
    no_arrow b (c ∷ text) h = elim (cases_eq b 61) [
      | inr n ↦ rw (ne_eqb b 61 n) refl
      | inl s ↦ elim (cases_eq c 62) [
        | inr n ↦ rw (ne_eqb c 62 n, eq-eqb b 61 s) refl
        | inl g ↦ absurd (h (text, rw (s, g) refl))
      ]
    ]

string_piece : (text after value : List ℕ) → IsString text value → piece_of false (text ++ after) ≡ piece.Word Text (length text)
string_piece text after value (inl e) =
    rw (
      e,
      piece_quoted _,
      append_assoc (escaped_value value) (34 ∷ []) after,
      quoted_len-escaped value _,
      quoted_end 34 after refl,
    ) (ap (λ n. piece.Word Text n) (omega (
      arith,
      ap length e,
      length-append (escaped_value value) (34 ∷ []),
    )))
string_piece text after value (inr (e, none)) =
    rw (
      e,
      piece_raw _,
      append_assoc value (96 ∷ []) after,
      raw_len-append value _ none,
      raw_end 96 after refl,
    ) (ap (λ n. piece.Word Text n) (omega (arith, ap length e, length-append value (96 ∷ []))))

mark_piece : (t : Bool) (text after : List ℕ) → IsMark text → piece_of t (text ++ after) ≡ piece.Word Mark (length text)
mark_piece t text after (inl (b, bracket, e)) = ap (λ x. piece_of t (x ++ after)) e
    ∙ piece_bracket t b after bracket ∙ ap (λ n. piece.Word Mark n) (sym (ap length e))
mark_piece t text after (inr e) = ap (λ x. piece_of t (x ++ after)) e ∙ piece_arrow t after ∙ ap (λ n. piece.Word Mark n) (sym (ap length e))

text_not_mark : Text ≡ Mark → ⊥
text_not_mark e = cc

shape_piece : (t : Bool) (before : Option Word) (kind : Kind) (text after value : List ℕ) → Tracks t before
    → HasShape kind text value → MayFollow before (make_word kind text) → Stops (Some (make_word kind text)) after
    → piece_of t (text ++ after) ≡ piece.Word kind (length text)
shape_piece t before Bare text after value tracks shape follows stops = bare_piece t text after shape.0 (stops refl)
shape_piece t before Text text after value tracks shape follows stops =
    rw (is_apart t before tracks (λ bare. text_not_mark (follows bare).0)) (string_piece text after value shape)
shape_piece t before Mark text after value tracks shape follows stops = mark_piece t text after shape.0

pub reads_to : (t : Bool) (before : Option Word) (rest : List ℕ) (words : List Word) (e : Ending) → Tracks t before
    → Reads before rest words e → Continues (piece_of t rest) before rest words e
reads_to t before rest [] e tracks r = by_blanks r.blanks r.parts r.are_blank r.ends
  where
    by_blanks : (blanks : List ℕ) → rest ≡ blanks ++ r.rest → AllBlank blanks
        → Ends (touching_word before blanks) e r.rest → Continues (piece_of t rest) before rest [] e
    by_blanks [] parts are ends = end_continues t before rest e tracks (rw parts ends)
    by_blanks (b ∷ blanks) parts are ends =
        blank_continues t before rest b (blanks ++ r.rest) [] e parts are.0
        (record {
          blanks = blanks;
          rest = r.rest;
          parts = refl;
          are_blank = are.1;
          ends =
              rw (touching_none blanks) ends;
        })
reads_to t before rest (w ∷ words) e tracks (after, r, others) = by_blanks r.blanks r.parts r.are_blank r.may_follow
  where
    by_blanks : (blanks : List ℕ) → rest ≡ blanks ++ (w.spelling ++ after) → AllBlank blanks
        → MayFollow (touching_word before blanks) w → Continues (piece_of t rest) before rest (w ∷ words) e
    by_blanks [] parts are follows =
        word_continues t before rest w.kind _ after words e
        (rw parts (shape_piece t before w.kind _ after _ tracks r.shape.1 follows (reads_stops w after words e others))) parts others
    by_blanks (b ∷ blanks) parts are follows =
        blank_continues t before rest b _ _ e parts are.0 (
          after,
          record {
            blanks = blanks;
            parts = refl;
            are_blank = are.1;
            shape = r.shape;
            may_follow =
                rw (touching_none blanks) follows;
          },
          others,
        )
