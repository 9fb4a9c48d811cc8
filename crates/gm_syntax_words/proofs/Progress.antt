-- The invariant of the loop over the pieces of a line.
use Rattle.std.proofs.Common.{◌≡◌, ℕ, ◌+◌, ◌-◌, ◌<◌, ◌≤◌, Bool, true, false, List, [], ◌∷◌, ◌++◌, length, get_or, take, drop, Option, Some, None, IsUtf8, refl, sym, ap, ◌∙◌, append_assoc, arith, inl, inr}
use Rattle.std.specs.Str.{IsCharBoundary}
use Rattle.std.proofs.iter.FirstChar.{beside_ascii}
use Rattle.std.proofs.lemmas.Bool.{cases_lt}
use Rattle.std.proofs.lemmas.List.{append-nil, take_at, drop_at, length-append, length-take-le, get_or_at}
use Rattle.gm_syntax_words.specs.declared.fault.SyntaxKind.{SyntaxKind}
use Rattle.gm_syntax_words.specs.declared.word.Kind.{Kind}
use Rattle.gm_syntax_words.specs.declared.word.Kind.TheVariants.{Bare, Text, Mark}
use Rattle.gm_syntax_words.specs.declared.scan.Piece.{Piece}
use Rattle.gm_syntax_words.specs.declared.scan.Piece.TheVariants as piece
use Rattle.gm_syntax_words.specs.Bytes.{is_blank}
use Rattle.gm_syntax_words.specs.Words.{Word, AllBlank, IsShaped, is_bare}
use Rattle.gm_syntax_words.specs.Spelling.{Ending, Nothing, Comment, Fault, Reads}
use Rattle.gm_syntax_words.specs.Private.Scan.{piece_of, trim_end}
use Rattle.gm_syntax_words.specs.ReadLine.{IsOnlyReading}
use Rattle.gm_syntax_words.proofs.Classes.{blank_ascii}
use Rattle.gm_syntax_words.proofs.Pieces.{make_word, Stops, Tracks, WordFacts, Facts, facts}
use Rattle.gm_syntax_words.proofs.Reading.{Continues, reads_from, reads_to, trim_parts}

-- the words so far, followed by the reading of the rest, are the reading of the line
pub record Progress (line : List ℕ) (words : List Word) (after_bare : Bool) (rest : List ℕ) : Type 0 where
  pub before : Option Word
  pub tracks : Tracks after_bare before
  pub stops : Stops before rest
  pub there : (more : List Word) (e : Ending) → Reads before rest more e → Reads None line (words ++ more) e
  pub back : (all : List Word) (e : Ending) → Reads None line all e → (more : List Word) × (all ≡ words ++ more) × Reads before rest more e

tracks_none : Tracks false None
tracks_none = record { bare = λ e. cc; not_bare = λ e h. h }

pub progress_start : (line : List ℕ) → Progress line [] false line
progress_start line = record { before = None; tracks = tracks_none; stops = tt; there = λ more e r. r; back = λ all e r. (all, refl, r) }

module _ {line : List ℕ} {words : List Word} {after_bare : Bool} {rest : List ℕ} (p : Progress line words after_bare rest) where
  facts_of : (q : Piece) → piece_of after_bare rest ≡ q → Facts q p.before rest
  facts_of q e = rw (← e) (facts _ _ rest p.tracks p.stops)

  goes_on : (q : Piece) → piece_of after_bare rest ≡ q → (all : List Word) (e : Ending) → Reads None line all e
      → (more : List Word) × (all ≡ words ++ more) × Continues q p.before rest more e
  goes_on q same all e r =
      let b = p.back all e r in
      (b.0, b.1, rw (← same) (reads_to _ _ rest b.0 e p.tracks b.2))

  comes_from : (q : Piece) → piece_of after_bare rest ≡ q → (more : List Word) (e : Ending)
      → Continues q p.before rest more e → Reads None line (words ++ more) e
  comes_from q same more e k = p.there more e (reads_from q _ rest more e (facts_of q same) k)

  -- at a piece that ends the line in this way
  ends_with : (end : Ending) (q : Piece) → ((more : List Word) (e : Ending) → Continues q p.before rest more e → (more ≡ []) × (e ≡ end))
      → Continues q p.before rest [] end → piece_of after_bare rest ≡ q → IsOnlyReading line words end
  ends_with end q only here same = record {
    reads = rw (← append-nil words) (comes_from q same [] end here);
    only = λ all e r.
        let g = goes_on q same all e r in
        let last = only g.0 e g.2 in
        (rw (g.1, last.0) (append-nil words), last.1);
  }

  pub progress_end : piece_of after_bare rest ≡ piece.End → IsOnlyReading line words Nothing
  progress_end same = ends_with Nothing _ (λ more e k. k) (refl, refl) same

  pub progress_comment : piece_of after_bare rest ≡ piece.Comment → IsOnlyReading line words (Comment (trim_end rest))
  progress_comment same = ends_with _ _ (λ more e k. k) (refl, refl) same

  pub progress_fault : (kind : SyntaxKind) → piece_of after_bare rest ≡ piece.Fault kind → IsOnlyReading line words (Fault kind)
  progress_fault kind same = ends_with _ _ (λ more e k. k) (refl, refl) same

  pub progress_blank : piece_of after_bare rest ≡ piece.Blank → Progress line words false (drop 1 rest)
  progress_blank same = record {
    before = None;
    tracks = tracks_none;
    stops = tt;
    there = λ more e r. comes_from _ same more e r;
    back = λ all e r. goes_on _ same all e r;
  }

  word_facts : {kind : Kind} {n : ℕ} → piece_of after_bare rest ≡ piece.Word kind n → WordFacts kind n p.before rest
  word_facts {kind} {n} same = facts_of _ same

  pub progress_word : {kind : Kind} {n : ℕ} → piece_of after_bare rest ≡ piece.Word kind n
      → Progress line (words ++ make_word kind (take n rest) ∷ []) (is_bare kind) (drop n rest)
  progress_word {kind} {n} same =
      let w : Word = make_word kind (take n rest) in
      record {
        before = Some w;
        tracks = tracks_kind kind _;
        stops = stops_at (word_facts same);
        there = λ more e r. rw (append_assoc words (w ∷ []) more)
            (comes_from _ same (w ∷ more) e (more, refl, r));
        back = λ all e r. let g = goes_on _ same all e r in
            (g.2.0, g.1 ∙ ap (λ m. words ++ m) g.2.1 ∙ sym (append_assoc words (w ∷ []) g.2.0), g.2.2);
      }
    where
      tracks_kind : (kind : Kind) (text : List ℕ) → Tracks (is_bare kind) (Some (make_word kind text))
      tracks_kind Bare text = record { bare = λ e. refl; not_bare = λ e h. cc }
      tracks_kind Text text = record { bare = λ e. cc; not_bare = λ e h. cc }
      tracks_kind Mark text = record { bare = λ e. cc; not_bare = λ e h. cc }

      stops_at : WordFacts kind n p.before rest → Stops (Some (make_word kind (take n rest))) (drop n rest)
      stops_at f =
          let at : take n rest ≡ f.text = rw f.parts (take_at f.text f.after n (sym f.len)) in
          let past : drop n rest ≡ f.after = rw f.parts (drop_at f.text f.after n (sym f.len)) in
          rw at
          (rw past f.stops)

  -- a word is not empty, and its end is a character boundary
  pub word_positive : {kind : Kind} {n : ℕ} → piece_of after_bare rest ≡ piece.Word kind n → 0 < n
  word_positive same = (word_facts same).positive

  -- a word has a shape of its kind
  pub word_shaped : {kind : Kind} {n : ℕ} → piece_of after_bare rest ≡ piece.Word kind n → IsShaped (make_word kind (take n rest))
  word_shaped {n} same =
      let f = word_facts same in
      let at : take n rest ≡ f.text = ap (take n) f.parts ∙ take_at f.text f.after n (sym f.len) in
      rw at f.shape

  pub word_in_range : {kind : Kind} {n : ℕ} → piece_of after_bare rest ≡ piece.Word kind n → n ≤ length rest
  word_in_range same =
      let f = word_facts same in
      omega (arith, f.len, ap length f.parts, length-append f.text f.after)

  pub word_boundary : {kind : Kind} {n : ℕ} → IsUtf8 rest → piece_of after_bare rest ≡ piece.Word kind n → IsCharBoundary rest n
  word_boundary {n} utf8 same =
      let f = word_facts same in
      let le = word_in_range same in
      elim f.ascii_beside [
        | inl ascii ↦ elim (cases_lt n (length rest)) [
          | inl lt ↦ (beside_ascii rest n utf8 lt ascii).0
          | inr ge ↦ (le, λ lt. omega arith)
        ]
        | inr ascii ↦
            let e : n - 1 + 1 ≡ n = omega (arith, f.positive) in
            rw (← e) (beside_ascii rest (n - 1) utf8 (omega (arith, f.positive)) ascii).1
      ]

  -- what the text is where the piece is its end or a blank
  pub end_empty : piece_of after_bare rest ≡ piece.End → rest ≡ []
  end_empty same = facts_of _ same

  pub blank_begins : piece_of after_bare rest ≡ piece.Blank → (b : ℕ) × (bytes : List ℕ) × (rest ≡ b ∷ bytes) × (is_blank b ≡ true)
  blank_begins same = facts_of _ same

  pub blank_positive : piece_of after_bare rest ≡ piece.Blank → 0 < length rest
  blank_positive same =
      let f : (b : ℕ) × (bytes : List ℕ) × (rest ≡ b ∷ bytes) × (is_blank b ≡ true) = facts_of _ same in
      omega (arith, ap length f.2)

  pub blank_boundary : IsUtf8 rest → piece_of after_bare rest ≡ piece.Blank → IsCharBoundary rest 1 × (0 < length rest)
  blank_boundary utf8 same =
      let f : (b : ℕ) × (bytes : List ℕ) × (rest ≡ b ∷ bytes) × (is_blank b ≡ true) = facts_of _ same in
      let positive : 0 < length rest = omega (arith, ap length f.2) in
      let ascii : get_or rest 0 0 < 128 = rw (ap (λ (t : List ℕ). get_or t 0 0) f.2) (blank_ascii f.0 f.3) in
      ((beside_ascii rest 0 utf8 positive ascii).1, positive)

-- the end of the trimmed text is a character boundary
pub trim_boundary : (rest : List ℕ) (n : ℕ) → IsUtf8 rest → n ≤ length rest → take n rest ≡ trim_end rest → IsCharBoundary rest n
trim_boundary rest n utf8 le same =
    let t = trim_parts rest in
    let len : n ≡ length (trim_end rest) = rw (← length-take-le n rest le, same) refl in
    by_blanks t.blanks t.parts t.are_blank len
  where
    by_blanks : (blanks : List ℕ) → rest ≡ trim_end rest ++ blanks → AllBlank blanks → n ≡ length (trim_end rest) → IsCharBoundary rest n
    by_blanks [] parts are len = (le, λ lt. absurd (omega (arith, ap length parts, length-append (trim_end rest) [])))
    by_blanks (b ∷ blanks) parts are len =
        let lt : n < length rest = omega (arith, ap length parts, length-append (trim_end rest) (b ∷ blanks)) in
        let byte : get_or rest n 0 ≡ b = rw parts (get_or_at (trim_end rest) b blanks 0 n (sym len)) in
        (beside_ascii rest n utf8 lt (rw byte (blank_ascii b are.0))).0
