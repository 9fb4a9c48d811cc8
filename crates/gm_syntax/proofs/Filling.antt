-- The words of a line, the blanks around them and the comment make up its text.
use Rattle.std.proofs.Common.{◌≡◌, ℕ, ◌+◌, ◌-◌, ◌<◌, ◌≤◌, Bool, List, [], ◌∷◌, ◌++◌, length, take, drop, Option, Some, None, Ok, refl, sym, ap, ◌∙◌, append_assoc, arith}
use Rattle.std.proofs.lemmas.List.{append-nil, length-map, take_all}
use Rattle.gm_syntax_words.specs.Words.{Word}
use Rattle.gm_syntax_words.specs.Lines.{lines_of}
use Rattle.gm_syntax_words.specs.Tokens.{Placed, words_of}
use Rattle.gm_syntax_words.specs.LineText.{FillText}
use Rattle.gm_syntax.specs.Document.{Line, Blank, Comment, Open, Close, Entry, class_of}
use Rattle.gm_syntax.specs.LineViews.{tokens_of, plain}
use Rattle.gm_syntax.specs.Placing.{FillsLine, FillLines}
use Rattle.gm_syntax.specs.LineReading.{LinesFillUpTo}
use Rattle.gm_syntax.proofs.Lines.{lines_nil}
use Rattle.gm_syntax.proofs.Stable.{mark, FromWords, from_words}

-- ---- the line that the words are

-- the words of a line that stores its first words
one_word : (v : Placed) (ts : List Placed) (w : Word) (ws : List Word) → v ∷ [] ≡ take 1 ts → words_of ts ≡ w ∷ ws
    → (rest : List Placed) × (ts ≡ v ∷ rest) × (words_of rest ≡ ws)
one_word v [] w ws same e = cc
one_word v (t ∷ ts) w ws same e =
    let here : v ≡ t = cc in
    (ts, rw here refl, ap (drop 1) e)

one_left : (ts : List Placed) (w : Word) → words_of ts ≡ w ∷ [] → (t : Placed) × (ts ≡ t ∷ []) × (t.word ≡ w)
one_left [] w e = cc
one_left (t ∷ []) w e = (t, refl, cc)
one_left (t ∷ u ∷ ts) w e = absurd (omega (arith, ap length e))

pub line_filled : (inside : Bool) (first : ℕ) (text : List ℕ) (ts : List Placed) (comment : Option (List ℕ))
    (l : Line Placed) → class_of inside (words_of ts) comment ≡ Ok (plain l)
    → tokens_of l ≡ take (length (tokens_of l)) ts
    → FillText first text ts comment → FillsLine first text l
line_filled inside first text ts comment l classed same f = by_line l (from_words inside _ comment _ classed) same
  where
    fill_as : (us : List Placed) (c : Option (List ℕ)) → ts ≡ us → comment ≡ c → FillText first text us c
    fill_as us c e d = rw (← d) (rw (← e) f)

    none : (us : List Placed) → words_of us ≡ [] → us ≡ []
    none [] e = refl
    none (u ∷ us) e = cc

    by_line : (l : Line Placed) → FromWords (plain l) (words_of ts) comment → tokens_of l ≡ take (length (tokens_of l)) ts → FillsLine first text l
    by_line Blank w same = fill_as [] None (none ts w.0) w.1
    by_line (Comment c) w same = fill_as [] (Some c) (none ts w.0) w.1
    by_line (Open verb suffix) w same =
        let o = one_word verb ts verb.word (mark 40 ∷ []) same w.0 in
        let k = one_left o.0 _ o.2 in
        (k.0, rw k.2 refl, fill_as _ suffix (o.1 ∙ ap (λ x. verb ∷ x) k.1) w.1)
    by_line (Close suffix) w same =
        let k = one_left ts _ w.0 in
        (k.0, rw k.2 refl, fill_as _ suffix k.1 w.1)
    by_line (Entry words suffix) w same =
        let len : length ts ≡ length words = rw (← length-map ts (λ (t : Placed). t.word), w.0) (length-map words (λ (t : Placed). t.word)) in
        fill_as words suffix (sym (same ∙ take_all (length words) ts (omega (arith, len)))) w.1

-- ---- the lines of a text

-- without lines the offset is nothing to them
no_lines : (m n : ℕ) (more : List (Line Placed)) → FillLines m [] more → FillLines n [] more
no_lines m n [] f = tt
no_lines m n (l ∷ more) f = absurd f

pub lines_fill_more : (text rest front next : List ℕ) (lines : List (Line Placed)) (l : Line Placed)
    → length rest ≤ length text → LinesFillUpTo text lines rest → lines_of rest ≡ front ∷ lines_of next
    → (0 < length next → length rest ≡ length front + 1 + length next) → FillsLine (length text - length rest) front l
    → LinesFillUpTo text (lines ++ l ∷ []) next
lines_fill_more text rest front next lines l le p cut feed filled more f =
    let at = length text - length rest in
    let here = next_lines next cut feed f in
    rw (append_assoc lines (l ∷ []) more)
    (p (l ∷ more) (rw cut (filled, here)))
  where
    next_lines : (next : List ℕ) → lines_of rest ≡ front ∷ lines_of next
        → (0 < length next → length rest ≡ length front + 1 + length next)
        → FillLines (length text - length next) (lines_of next) more
        → FillLines (length text - length rest + length front + 1) (lines_of next) more
    next_lines [] cut feed f = rw lines_nil
        (no_lines (length text - 0) (length text - length rest + length front + 1) more
        (rw (← lines_nil) f))
    next_lines (b ∷ next) cut feed f =
        let same : length text - length (b ∷ next) ≡ length text - length rest + length front + 1 = omega (arith, le, feed (omega arith)) in
        rw (← same) f

pub lines_fill_end : (text rest : List ℕ) (lines : List (Line Placed)) → LinesFillUpTo text lines rest → lines_of rest ≡ [] → FillLines 0 (lines_of text) lines
lines_fill_end text rest lines p none = rw (← (append-nil lines))
    (p [] (rw none tt))
