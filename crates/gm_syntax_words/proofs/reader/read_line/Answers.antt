use Rattle.std.proofs.Common.{ℕ, ◌+◌, ◌-◌, List, ◌≡◌, ◌++◌, ◌∷◌, [], ◌≤◌, length, take, Option, Some, None, ap, subst, sym, ◌∙◌, arith}
use Rattle.std.proofs.iter.FirstChar.{cut}
use Rattle.std.proofs.lemmas.List.{length-drop, length-take-le, map_push}
use Rattle.gm_syntax_words.specs.declared.scan.Piece.TheVariants as piece
use Rattle.gm_syntax_words.specs.declared.word.Span.{Span}
use Rattle.gm_syntax_words.specs.Words.{Word}
use Rattle.gm_syntax_words.specs.Private.Scan.{piece_of, trim_end}
use Rattle.gm_syntax_words.specs.Tokens.{words_of, AreSlicesBetween}
use Rattle.gm_syntax_words.proofs.Pieces.{make_word}
use Rattle.gm_syntax_words.proofs.WordPlaces.{stand_widen, stand_push, suffix_more}
use Rattle.gm_syntax_words.proofs.Members.{all_together}
use Rattle.gm_syntax_words.proofs.Progress.{progress_end, progress_comment, progress_fault, progress_blank, progress_word, word_positive, word_shaped, word_in_range, word_boundary, blank_boundary, blank_begins, end_empty, trim_boundary}
use Rattle.gm_syntax_words.proofs.LineText.{fills_blank, fills_word, fills_end, fills_comment, read_comment}
use Rattle.gm_syntax_words.proofs.reader.read_line.Goals as goal

abbrev span_of_length : ℕ → ℕ → Option Span
span_of_length first n = Some (record { first = first; after = first + n })

pub returns-in-End-clause-read : goal.returns-in-End-clause-read
returns-in-End-clause-read c = progress_end c.pieces.invariant.progress
    (rw (← c.as_bytes.ensures.value) (sym c.in-End.ensures))

pub split_at-requires : goal.split_at-requires
split_at-requires c =
    let text = c.as_bytes-in-Comment.ensures.value in
    trim_boundary _ _ c.pieces.invariant.utf8
    (omega (arith, ap length text, c.trimmed_len.ensures.in_range))
    (rw (← text) c.trimmed_len.ensures.text)

pub returns-in-Comment-clause-read : goal.returns-in-Comment-clause-read
returns-in-Comment-clause-read c =
    let same : piece_of c.pieces.after_bare c.pieces.rest.now ≡ piece.Comment =
    rw (← c.as_bytes.ensures.value) (sym c.in-Comment.ensures) in
    let trimmed = subst (λ (l : List ℕ). take c.trimmed_len.result l ≡ trim_end l) c.as_bytes-in-Comment.ensures.value c.trimmed_len.ensures.text in
    rw (c.split_at.ensures.front ∙ trimmed) (progress_comment c.pieces.invariant.progress same)

pub returns-in-Fault-clause-read : goal.returns-in-Fault-clause-read
returns-in-Fault-clause-read c = (
  words_of c.pieces.words.items,
  progress_fault c.pieces.invariant.progress c.in-Fault.kind
      (rw (← c.as_bytes.ensures.value) (sym c.in-Fault.ensures)),
)

pub split_at-requires-in-Blank : goal.split_at-requires-in-Blank
split_at-requires-in-Blank c = (blank_boundary c.pieces.invariant.progress c.pieces.invariant.utf8
    (rw (← c.as_bytes.ensures.value) (sym c.in-Blank.ensures))).0

pub pieces-preserved-in-Blank : goal.pieces-preserved-in-Blank
pieces-preserved-in-Blank c =
    let same : piece_of c.pieces.after_bare c.pieces.rest.now ≡ piece.Blank =
    rw (← c.as_bytes.ensures.value) (sym c.in-Blank.ensures) in
    let back = c.split_at-in-Blank.ensures.back in
    let positive : 1 ≤ length c.pieces.rest.now = (blank_boundary c.pieces.invariant.progress c.pieces.invariant.utf8 same).1 in
    record {
      utf8 = rw back (cut _ 1 c.pieces.invariant.utf8 (blank_boundary c.pieces.invariant.progress c.pieces.invariant.utf8 same).0).1;
      progress = rw back (progress_blank c.pieces.invariant.progress same);
      in_range = omega (arith, ap length back, length-drop 1 c.pieces.rest.now, c.pieces.invariant.in_range);
      suffix = rw back (suffix_more _ _ 1 c.pieces.invariant.in_range positive c.pieces.invariant.suffix);
      placed = λ source after whole. stand_widen _ _ _ _ _
          (omega (arith, ap length back, length-drop 1 c.pieces.rest.now))
          (c.pieces.invariant.placed source after whole);
      numbered = c.pieces.invariant.numbered;
      filled = rw back (fills_blank _ _ _ _ c.pieces.invariant.in_range c.pieces.invariant.filled (blank_begins c.pieces.invariant.progress same));
    }

pub split_at-requires-in-Word : goal.split_at-requires-in-Word
split_at-requires-in-Word c = word_boundary c.pieces.invariant.progress {kind = c.in-Word.kind} c.pieces.invariant.utf8
    (rw (← c.as_bytes.ensures.value) (sym c.in-Word.ensures))

pub in_source-requires : goal.in_source-requires
in_source-requires c =
    let same : piece_of c.pieces.after_bare c.pieces.rest.now ≡ piece.Word c.in-Word.kind c.in-Word.len =
    rw (← c.as_bytes.ensures.value) (sym c.in-Word.ensures) in
    rw c.split_at-in-Word.ensures.front
    (word_shaped c.pieces.invariant.progress same)

pub pieces-smaller : goal.pieces-smaller
pieces-smaller c =
    let same : piece_of c.pieces.after_bare c.pieces.rest.now ≡ piece.Word c.in-Word.kind c.in-Word.len =
    rw (← c.as_bytes.ensures.value) (sym c.in-Word.ensures) in
    omega (
      arith,
      ap length c.split_at-in-Word.ensures.back,
      length-drop c.in-Word.len c.pieces.rest.now,
      word_positive c.pieces.invariant.progress same,
      word_in_range c.pieces.invariant.progress same,
    )

pub pieces-preserved : goal.pieces-preserved
pieces-preserved c =
    let same : piece_of c.pieces.after_bare c.pieces.rest.now ≡ piece.Word c.in-Word.kind c.in-Word.len =
    rw (← c.as_bytes.ensures.value) (sym c.in-Word.ensures) in
    let back = c.split_at-in-Word.ensures.back in
    let fits = word_in_range c.pieces.invariant.progress same in
    let pushed : words_of c.push_word.new.words.items ≡ words_of c.pieces.words.items
    ++ (c.in_source.result.word ∷ []) = rw c.in_ok-push_word-in-Word.ensures (map_push _ c.pieces.words.items c.in_source.result) in
    let word : c.in_source.result.word ≡ make_word c.in-Word.kind (take c.in-Word.len c.pieces.rest.now) =
    rw c.in_source.ensures (ap (make_word c.in-Word.kind) c.split_at-in-Word.ensures.front) in
    let spelling : c.in_source.result.word.spelling ≡ take c.in-Word.len c.pieces.rest.now = ap (λ w. w.spelling) word in
    let at = c.args.first + (length c.args.line.now - length c.pieces.rest.now) in
    let span : c.in_source.result.span ≡ span_of_length at c.in-Word.len =
    rw c.in_source.ensures (ap (span_of_length at) c.split_at-in-Word.ensures.front_len) in
    record {
      utf8 = rw back (cut _ c.in-Word.len c.pieces.invariant.utf8
          (word_boundary c.pieces.invariant.progress c.pieces.invariant.utf8 same)).1;
      progress = rw (pushed ∙ ap (λ (w : Word). words_of c.pieces.words.items ++ w ∷ [])
          word)
          (rw back
          (rw c.is_bare-after_bare.ensures
          (progress_word c.pieces.invariant.progress same)));
      in_range = omega (arith, ap length back, length-drop c.in-Word.len c.pieces.rest.now, c.pieces.invariant.in_range);
      suffix = rw back (suffix_more _ _ _ c.pieces.invariant.in_range fits c.pieces.invariant.suffix);
      placed = λ source after whole.
          rw c.in_ok-push_word-in-Word.ensures
          (subst (λ (k : ℕ). AreSlicesBetween source c.args.first (c.args.first + k)
          (c.pieces.words.items ++ c.in_source.result ∷ []))
          (omega (
            arith,
            ap length back,
            length-drop c.in-Word.len c.pieces.rest.now,
            fits,
            c.pieces.invariant.in_range,
          ))
          (stand_push _ _ _ _ _ _ _ _ _ whole c.pieces.invariant.suffix (omega arith) fits (c.pieces.invariant.placed source after whole)
          (rw c.in_source.ensures
          (ap (span_of_length (c.args.first + (length c.args.line.now - length c.pieces.rest.now))) c.split_at-in-Word.ensures.front_len))
          (ap (λ w. w.spelling) word)));
      numbered = rw c.in_ok-push_word-in-Word.ensures
          (all_together _ _ _ c.pieces.invariant.numbered
          (ap (λ t. t.line) c.in_source.ensures, tt));
      filled = rw c.in_ok-push_word-in-Word.ensures
          (rw back
          (fills_word _ _ _ _ c.pieces.invariant.in_range
          c.pieces.invariant.filled c.in-Word.len c.in_source.result fits span spelling
          (sym (ap length spelling ∙ length-take-le c.in-Word.len c.pieces.rest.now fits))));
    }

pub returns-in-End-clause-placed : goal.returns-in-End-clause-placed
returns-in-End-clause-placed c = λ source after whole.
    stand_widen _ _ _ _ _ (omega arith)
    (c.pieces.invariant.placed source after whole)

pub returns-in-Comment-clause-placed : goal.returns-in-Comment-clause-placed
returns-in-Comment-clause-placed c = λ source after whole.
    stand_widen _ _ _ _ _ (omega arith)
    (c.pieces.invariant.placed source after whole)

pub returns-in-End-clause-filled : goal.returns-in-End-clause-filled
returns-in-End-clause-filled c = fills_end _ _ _ _ c.pieces.invariant.in_range c.pieces.invariant.filled
    (end_empty c.pieces.invariant.progress (rw (← c.as_bytes.ensures.value) (sym c.in-End.ensures)))

pub returns-in-Comment-clause-filled : goal.returns-in-Comment-clause-filled
returns-in-Comment-clause-filled c =
    let same : piece_of c.pieces.after_bare c.pieces.rest.now ≡ piece.Comment =
    rw (← c.as_bytes.ensures.value) (sym c.in-Comment.ensures) in
    let trimmed = subst (λ (l : List ℕ). take c.trimmed_len.result l ≡ trim_end l) c.as_bytes-in-Comment.ensures.value c.trimmed_len.ensures.text in
    let text : c.split_at.result.0.now ≡ trim_end c.pieces.rest.now = c.split_at.ensures.front ∙ trimmed in
    let is = read_comment None _ _ _
    (progress_comment c.pieces.invariant.progress same).reads in
    fills_comment _ _ _ _ c.pieces.invariant.in_range
    c.pieces.invariant.filled c.split_at.result.0.now (rw text is) text
