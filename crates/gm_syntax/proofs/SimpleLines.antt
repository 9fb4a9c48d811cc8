-- Lines that are read without a list of words.
use Rattle.std.proofs.Common.{◌≡◌, ℕ, ◌+◌, ◌-◌, ◌<◌, Bool, true, false, List, [], ◌∷◌, ◌++◌, length, get_or, take, drop, Option, Some, None, Ok, inl, inr, IsUtf8, refl, sym, ap, ◌∙◌, append_assoc, arith}
use Rattle.std.specs.Prelude.{IsTrue, ◌⊎◌}
use Rattle.std.specs.Str.{IsCharBoundary}
use Rattle.std.proofs.iter.FirstChar.{beside_ascii}
use Rattle.std.proofs.lemmas.Bool.{true≢false}
use Rattle.std.proofs.lemmas.List.{take_at, drop_at, drop-drop, append-nil, length-append}
use Rattle.gm_syntax_words.specs.declared.scan.Piece.TheVariants as piece
use Rattle.gm_syntax_words.specs.declared.word.Kind.TheVariants.{Bare}
use Rattle.gm_syntax_words.specs.Bytes.{is_blank, is_bracket_or_comma, is_plain}
use Rattle.gm_syntax_words.specs.Bare.{bare_len}
use Rattle.gm_syntax_words.specs.Private.Scan.{piece_of, trim_end}
use Rattle.gm_syntax_words.specs.Words.{Word, AllBlank, IsBare}
use Rattle.gm_syntax_words.specs.Tokens.{Placed, words_of, AreSlicesBetween, AreNumbered}
use Rattle.gm_syntax_words.specs.LineText.{IsTail, FillText}
use Rattle.gm_syntax_words.specs.Spelling.{EndsLine, Reads, ending_of}
use Rattle.gm_syntax_words.specs.ReadLine.{IsOnlyReading}
use Rattle.gm_syntax_words.proofs.Members.{all_together}
use Rattle.gm_syntax_words.proofs.Classes.{word_not_blank}
use Rattle.gm_syntax_words.proofs.Pieces.{piece_end, piece_blank, piece_bracket, piece_comment}
use Rattle.gm_syntax_words.proofs.WordPlaces.{stand_take}
use Rattle.gm_syntax_words.proofs.Progress.{Progress, progress_start, progress_blank, progress_word, progress_end, progress_comment, word_boundary, word_shaped, blank_boundary}
use Rattle.gm_syntax_words.proofs.Steps.{plain_piece}
use Rattle.gm_syntax.specs.Private.Reader.{IsOnlyLine}
use Rattle.gm_syntax.specs.Document.{Line, Blank, Open, Close, Entry, ends_open, begins_close, class_of, Place}
use Rattle.gm_syntax.specs.LineViews.{plain}
use Rattle.gm_syntax.specs.LineReading.{Unread, HasRead}
use Rattle.gm_syntax.specs.SimpleLines.{bare_word, IsPairRead, IsTripleRead, IsOpeningRead, IsSimpleRead}
use Rattle.gm_syntax.specs.Private.SimpleLines.{bare_at, IsWordsText, IsOpeningEnd, IsSimpleText, after_simple}
use Rattle.gm_syntax.specs.declared.simple_line.SimpleLine.{SimpleLine}
use Rattle.gm_syntax.specs.declared.simple_line.SimpleLine.TheVariants as simple
use Rattle.gm_syntax.proofs.LineReading.{IsCut, unread, read_more}
use Rattle.gm_syntax.proofs.OneLine.{one_line}
use Rattle.gm_syntax.proofs.Classing.{class_blank, class_close}
use Rattle.gm_syntax.proofs.Changes.{class_anywhere}
use Rattle.gm_syntax.proofs.Stable.{mark}

-- ---- blanks

-- the text begins with a blank
abbrev pub BeginsBlank : List ℕ → Type 0
BeginsBlank text = (b : ℕ) × (more : List ℕ) × (text ≡ b ∷ more) × IsTrue (is_blank b)

-- rest is the text after blanks
abbrev pub IsAfterBlanks : List ℕ → List ℕ → Type 0
IsAfterBlanks text rest = (blanks : List ℕ) × AllBlank blanks × (text ≡ blanks ++ rest)

pub blank_first : (text : List ℕ) → IsUtf8 text → BeginsBlank text → IsCharBoundary text 1
blank_first text utf8 (b, more, e, blank) =
    (blank_boundary (progress_start text) utf8 (rw e (piece_blank false b more blank))).0

pub one_more_blank : (text rest next : List ℕ) → IsAfterBlanks text rest → BeginsBlank rest → next ≡ drop 1 rest → IsAfterBlanks text next
one_more_blank text rest next (blanks, are, parts) (b, more, e, blank) is = (
  blanks ++ b ∷ [],
  all_together _ blanks (b ∷ []) are (blank, tt),
  parts ∙ ap (λ l. blanks ++ l) (e ∙ ap (λ l. b ∷ l) (sym (is ∙ ap (drop 1) e))) ∙ sym (append_assoc blanks (b ∷ []) next),
)

-- the end of an opening parenthesis that a text begins with is a character boundary
pub parenthesis_first : (text : List ℕ) → IsUtf8 text → ((more : List ℕ) × (text ≡ 40 ∷ more)) → IsCharBoundary text 1
parenthesis_first text utf8 (more, e) =
    let positive : 0 < length text = omega (arith, ap length e) in
    let ascii : get_or text 0 0 < 128 = rw (ap (λ (t : List ℕ). get_or t 0 0) e) (omega arith) in
    (beside_ascii text 0 utf8 positive ascii).1

-- a text as long as what follows its blanks has none
pub as_long : (text rest : List ℕ) → IsAfterBlanks text rest → length rest ≡ length text → text ≡ rest
as_long text rest ([], are, parts) e = parts
as_long text rest (b ∷ blanks, are, parts) e = absurd (omega (arith, e, ap length parts, length-append blanks rest))

-- ---- a bare word

-- the text begins with a plain byte
abbrev pub BeginsPlain : List ℕ → Type 0
BeginsPlain text = (b : ℕ) × (more : List ℕ) × (text ≡ b ∷ more) × IsTrue (is_plain b)

pub plain_begins_word : (text : List ℕ) (t : Bool) → BeginsPlain text → piece_of t text ≡ piece.Word Bare (bare_len text)
plain_begins_word text t (b, more, e, plain) =
    rw e (plain_piece t b more plain)

pub plain_word_bare : (text : List ℕ) → BeginsPlain text → IsBare (take (bare_len text) text)
plain_word_bare text begins =
    let shaped =
    word_shaped (progress_start text) (plain_begins_word text false begins) in
    shaped.1.0

pub plain_word_end : (text : List ℕ) → IsUtf8 text → BeginsPlain text → IsCharBoundary text (bare_len text)
plain_word_end text utf8 begins = word_boundary (progress_start text) utf8 (plain_begins_word text false begins)

-- ---- the line

-- the line is these words and then the rest
abbrev pub Sofar : List ℕ → List Word → List ℕ → Type 0
Sofar line words rest = (t : Bool) × Progress line words t rest

pub sofar_blanks : {line : List ℕ} {words : List Word} {text rest : List ℕ} → Sofar line words text → IsAfterBlanks text rest → Sofar line words rest
sofar_blanks {line} {words} {rest} (t, p) (blanks, are, parts) = by_blanks blanks t are (rw (← parts) p)
  where
    by_blanks : (blanks : List ℕ) (t : Bool) → AllBlank blanks → Progress line words t (blanks ++ rest) → Sofar line words rest
    by_blanks [] t are p = (t, p)
    by_blanks (b ∷ blanks) t are p = by_blanks blanks false are.1 (progress_blank p (piece_blank t b (blanks ++ rest) are.0))

-- a bare word and the blanks after it
pub sofar_word : {line : List ℕ} {words : List Word} {text rest : List ℕ} (word : List ℕ) → Sofar line words text
    → ((t : Bool) → piece_of t text ≡ piece.Word Bare (length word))
    → ((blanks : List ℕ) × AllBlank blanks × (text ≡ word ++ (blanks ++ rest)))
    → Sofar line (words ++ bare_word word ∷ []) rest
sofar_word {line} {words} {text} {rest} word (t, p) piece (blanks, are, parts) =
    let after = blanks ++ rest in
    let front : take (length word) text ≡ word = rw parts (take_at word after (length word) refl) in
    let back : drop (length word) text ≡ after = rw parts (drop_at word after (length word) refl) in
    let past : Progress line (words ++ bare_word word ∷ []) true after =
    rw (← front)
    (rw (← back)
    (progress_word p (piece t))) in
    sofar_blanks (true, past) (blanks, are, refl)

-- the first word, with blanks before it
pub sofar_first : {line start rest : List ℕ} (word : List ℕ) → IsAfterBlanks line start
    → ((t : Bool) → piece_of t start ≡ piece.Word Bare (length word))
    → ((blanks : List ℕ) × AllBlank blanks × (start ≡ word ++ (blanks ++ rest)))
    → Sofar line (bare_word word ∷ []) rest
sofar_first {line} word begins piece parts = sofar_word word (sofar_blanks (false, progress_start line) begins) piece parts

bracket_opening : is_bracket_or_comma 40 ≡ true
unfolding is_bracket_or_comma
bracket_opening = refl

bracket_closing : is_bracket_or_comma 41 ≡ true
unfolding is_bracket_or_comma
bracket_closing = refl

sofar_mark : {line : List ℕ} {words : List Word} {text : List ℕ} {byte : ℕ} {rest : List ℕ} → Sofar line words text
    → is_bracket_or_comma byte ≡ true → text ≡ byte ∷ rest → Sofar line (words ++ mark byte ∷ []) rest
sofar_mark {line} {words} {byte} {rest} (t, p) bracket parts =
    let here : Progress line words t (byte ∷ rest) = rw (← parts) p in
    (false, progress_word here (piece_bracket t byte rest bracket))

-- the line ends after these words
pub sofar_end : {line : List ℕ} {words : List Word} {rest : List ℕ} → Sofar line words rest → (rest ≡ []) ⊎ ((more : List ℕ) × (rest ≡ 47 ∷ 47 ∷ more))
    → (comment : Option (List ℕ)) × IsOnlyReading line words (ending_of comment)
sofar_end (t, p) (inl e) = (None, progress_end p (rw e (piece_end t)))
sofar_end {rest} (t, p) (inr (more, e)) = (Some (trim_end rest), progress_comment p (rw e (piece_comment t more)))

-- an opening parenthesis ends the line
pub sofar_opening : {line : List ℕ} {words : List Word} {text : List ℕ} → Sofar line words text → IsOpeningEnd text
    → (comment : Option (List ℕ)) × IsOnlyReading line (words ++ mark 40 ∷ []) (ending_of comment)
sofar_opening so (blanks, rest, are, parts, ends) = sofar_end (sofar_blanks (sofar_mark so bracket_opening parts) (blanks, are, refl)) ends

-- ---- the words' places

-- words with a number and spans, which make up the text from this offset on
record PlacedWords (first number : ℕ) (text : List ℕ) (words : List Word) (comment : Option (List ℕ)) : Type 0 where
  pub tokens : List Placed
  pub are : words_of tokens ≡ words
  pub numbered : AreNumbered number tokens
  pub fill : FillText first text tokens comment

tail_of : (before : Option Word) (text : List ℕ) (comment : Option (List ℕ)) → EndsLine before text (ending_of comment) → IsTail text comment
tail_of before text None r = rw (r.parts ∙ ap (λ (l : List ℕ). r.blanks ++ l) r.ends ∙ append-nil r.blanks) r.are_blank
tail_of before text (Some c) r = (r.ends.1, r.blanks, r.ends.2, r.are_blank, r.ends.3, rw (r.parts, r.ends.4) refl)

abbrev place_words : (first number : ℕ) (before : Option Word) (text : List ℕ) (words : List Word)
    (comment : Option (List ℕ)) → Reads before text words (ending_of comment)
    → PlacedWords first number text words comment
place_words first number before text [] comment r = record { tokens = []; are = refl; numbered = tt; fill = tail_of before text comment r }
place_words first number before text (w ∷ words) comment (rest, b, others) =
    let at = first + length b.blanks in
    let past = at + length w.spelling in
    let more = place_words past number (Some w) rest words comment others in
    record {
      tokens = record { word = w; line = number; span = Some (record { first = at; after = past }) } ∷ more.tokens;
      are = rw more.are refl;
      numbered = (refl, more.numbered);
      fill = (
        record { first = at; after = past },
        rest,
        record {
          blanks = b.blanks;
          are_blank = b.are_blank;
          parts =
              b.parts;
          placed = refl;
          first = refl;
          after = refl;
        },
        more.fill,
      );
    }

-- words that make up a text stand in the source where the text does
stand_filled : (source : List ℕ) (from : ℕ) (text after : List ℕ) (ts : List Placed) (comment : Option (List ℕ))
    → FillText from text ts comment → drop from source ≡ text ++ after
    → AreSlicesBetween source from (from + length text) ts
stand_filled source from text after [] comment f whole = omega arith
stand_filled source from text after (t ∷ ts) comment (span, rest, n, f) whole =
    let word = t.word.spelling in
    let parts : text ++ after ≡ n.blanks ++ (word ++ (rest ++ after)) =
    rw (n.parts, append_assoc n.blanks (word ++ rest) after, append_assoc word rest after) refl in
    let here : drop span.first source ≡ word ++ (rest ++ after) =
    rw (n.first, ← drop-drop (length n.blanks) from source, whole, parts) (drop_at n.blanks (word ++ (rest ++ after)) (length n.blanks) refl) in
    let past : drop span.after source ≡ rest ++ after =
    rw (n.after, ← drop-drop (length word) span.first source, here) (drop_at word (rest ++ after) (length word) refl) in
    let width : span.after - span.first ≡ length word = omega (arith, n.after) in
    let slice : take (span.after - span.first) (drop span.first source) ≡ word =
    rw (width, here) (take_at word (rest ++ after) (length word) refl) in
    let end : span.after + length rest ≡ from + length text =
    omega (
      arith,
      n.first,
      n.after,
      ap length n.parts,
      length-append n.blanks (word ++ rest),
      length-append word rest,
    ) in (
      span,
      n.placed,
      omega (arith, n.first),
      n.after,
      slice,
      rw (← end)
          (stand_filled source span.after rest after ts comment f past),
    )

-- ---- a verb and an opening parenthesis

-- a text that begins with a bare word has no blanks before it
no_blanks : (word rest blanks other : List ℕ) → IsBare word → word ++ rest ≡ blanks ++ other → AllBlank blanks → blanks ≡ []
no_blanks word rest [] other bare e are = refl
no_blanks [] rest (x ∷ blanks) other bare e are = absurd (bare.filled refl)
no_blanks (b ∷ word) rest (x ∷ blanks) other bare e are =
    let same : b ≡ x = cc e in
    absurd (true≢false (sym (rw (← same) bare.word_bytes.0) ∙ word_not_blank x are.0))

record OpeningFilled (first number : ℕ) (text verb : List ℕ) (comment : Option (List ℕ)) : Type 0 where
  pub opening : Placed
  pub spelled : opening.word.spelling ≡ 40 ∷ []
  pub fill : FillText first text (bare_at first number verb ∷ opening ∷ []) comment

opening_filled : (first number : ℕ) (text verb rest : List ℕ) (comment : Option (List ℕ)) → text ≡ verb ++ rest
    → Reads None text (bare_word verb ∷ mark 40 ∷ []) (ending_of comment)
    → OpeningFilled first number text verb comment
opening_filled first number text verb rest comment begins (more, b, others) =
    let none = no_blanks verb rest b.blanks (verb ++ more) b.shape.1.0 (sym begins ∙ b.parts) b.are_blank in
    let past = first + length verb in
    let w = place_words past number (Some (bare_word verb)) more (mark 40 ∷ []) comment others in
    let at = past + length others.1.blanks in
    let opening : Placed = record { word = mark 40; line = number; span = Some (record { first = at; after = at + 1 }) } in
    record {
      opening = opening;
      spelled = refl;
      fill = (
        record { first = first; after = past },
        more,
        record {
          blanks = [];
          are_blank = tt;
          parts = rw (b.parts, none) refl;
          placed = refl;
          first = omega arith;
          after = refl;
        },
        w.fill,
      );
    }

-- ---- one more line

opening_class : (verb : List ℕ) (comment : Option (List ℕ)) → class_of false (bare_word verb ∷ mark 40 ∷ []) comment ≡ Ok (Open (bare_word verb) comment)
unfolding class_of
opening_class verb comment = refl

module _ (left : Unread) (lines : List (Line Placed)) (front next : List ℕ) (so : HasRead left lines) (cut : IsCut left front next) where
  abbrev offset : ℕ
  offset = length left.source - length left.rest

  -- after a line that is these words alone
  words_read : (words : List Word) (comment : Option (List ℕ)) (at : Place)
      → at ≡ record left.at { number = left.at.number + 1 }
      → 0 < length words → ends_open words ≡ false → begins_close words ≡ false → IsOnlyReading front words (ending_of comment)
      → (line : Line Placed) × (suffix : Option (List ℕ)) × (plain line ≡ Entry words suffix) × HasRead (unread left.source next at) (lines ++ line ∷ [])
  words_read words comment at is filled opens closes reading =
      let w = place_words offset left.at.number None front words comment reading.reads in
      let l : Line Placed = Entry w.tokens comment in
      let same : plain l ≡ Entry words comment = rw w.are refl in
      let only : IsOnlyLine left.at.inside front (Ok (plain l)) =
      rw same
      (one_line left.at.inside front words comment reading (Entry words comment)
      (class_anywhere left.at.inside words comment filled opens closes)) in (
        l,
        comment,
        same,
        read_more so front next l at is cut only (λ source more whole. stand_filled source offset front more w.tokens comment w.fill
            whole) w.numbered w.fill,
      )

  -- after a line that is two bare words
  pair_read : (first second : List ℕ) (at : Place) → at ≡ record left.at { number = left.at.number + 1 }
      → IsWordsText front (bare_word first ∷ bare_word second ∷ []) → IsPairRead (unread left.source next at) lines first second
  pair_read first second at is (comment, reading) =
      words_read (bare_word first ∷ bare_word second ∷ []) comment at is (omega arith) refl refl reading

  -- after a line that is three bare words
  triple_read : (first second third : List ℕ) (at : Place) → at ≡ record left.at { number = left.at.number + 1 }
      → IsWordsText front (bare_word first ∷ bare_word second ∷ bare_word third ∷ []) → IsTripleRead (unread left.source next at) lines first second third
  triple_read first second third at is (comment, reading) =
      words_read (bare_word first ∷ bare_word second ∷ bare_word third ∷ []) comment at is (omega arith) refl refl reading

  -- after a line that opens a block
  opening_read : (verb : List ℕ) (token : Placed) (at : Place) → left.at.inside ≡ false
      → at ≡ record { number = left.at.number + 1; inside = true; opened = left.at.number }
      → token ≡ bare_at offset left.at.number verb → ((rest : List ℕ) × (front ≡ verb ++ rest) × IsWordsText front (bare_word verb ∷ mark 40 ∷ []))
      → IsOpeningRead (unread left.source next at) lines token
  opening_read verb token at outside is placed (rest, begins, (comment, reading)) =
      let words : List Word = bare_word verb ∷ mark 40 ∷ [] in
      let f = opening_filled offset left.at.number front verb rest comment begins reading.reads in
      let t : Placed = bare_at offset left.at.number verb in
      let l : Line Placed = Open t comment in
      let ts : List Placed = t ∷ f.opening ∷ [] in
      let only : IsOnlyLine left.at.inside front (Ok (Open (bare_word verb) comment)) =
      rw outside
      (one_line false front words comment reading (Open (bare_word verb) comment) (opening_class verb comment)) in (
        comment,
        rw placed
            (read_more so front next l at is cut only
            (λ source more whole. stand_take source offset (offset + length front) 1 ts
            (stand_filled source offset front more ts comment f.fill whole)) (refl, tt)
            (f.opening, f.spelled, f.fill)),
      )

  -- after a line that closes a block
  closing_read : (at : Place) → left.at.inside ≡ true → at
      ≡ record left.at { number = left.at.number + 1; inside = false } → front ≡ 41 ∷ []
      → HasRead (unread left.source next at) (lines ++ Close None ∷ [])
  closing_read at inside is closing =
      let words : List Word = mark 41 ∷ [] in
      let so_far : Sofar front words [] = sofar_mark (false, progress_start front) bracket_closing closing in
      let reading : IsOnlyReading front words (ending_of None) = progress_end so_far.1 (piece_end so_far.0) in
      let w = place_words offset left.at.number None front words None reading.reads in
      let at_mark : ℕ = offset + length reading.reads.1.blanks in
      let closing_mark : Placed = record { word = mark 41; line = left.at.number; span = Some (record { first = at_mark; after = at_mark + 1 }) } in
      let only : IsOnlyLine left.at.inside front (Ok (Close None)) =
      rw inside (one_line true front words None reading (Close None) (class_close words None refl (omega arith))) in
      read_more so front next (Close None) at is cut only (λ source more whole. omega arith) tt (closing_mark, refl, w.fill)

  -- after an empty line
  blank_read : (at : Place) → at ≡ record left.at { number = left.at.number + 1 } → front ≡ [] → HasRead (unread left.source next at) (lines ++ Blank ∷ [])
  blank_read at is empty =
      let only =
      one_line left.at.inside front [] None (progress_end (progress_start front)
      (rw empty (piece_end false))) Blank (class_blank left.at.inside) in
      read_more so front next Blank at is cut only (λ source more whole. omega arith) tt (rw empty tt)

  -- after a simple line
  pub simple_read : (verb : List ℕ) (line : SimpleLine) (at : Place) → at ≡ after_simple left.at line → IsSimpleText left.at offset front verb line
      → IsSimpleRead (unread left.source next at) lines verb line
  simple_read verb simple.Blank at is text = blank_read at is text
  simple_read verb (simple.Pair first second) at is text = pair_read first.now second.now at is text
  simple_read verb (simple.PairAfter first second) at is text = triple_read verb first.now second.now at is text
  simple_read verb (simple.Opening token) at is (outside, placed, rest, begins, words) =
      (rw placed refl, opening_read verb token at outside is placed (rest, begins, words))
  simple_read verb simple.Closing at is (inside, text) = closing_read at inside is text
