-- The number of a line is one more than the number of line feeds before it.
use Rattle.std.proofs.Common.{◌≡◌, ℕ, ◌+◌, Bool, eqb, cond, List, [], ◌∷◌, ◌++◌, length, take, drop, Option, refl, sym, ap, subst, ◌∙◌, append_assoc, arith}
use Rattle.std.specs.List.{AllByRecursion}
use Rattle.std.proofs.lemmas.Bool.{eq-eqb, ne_eqb}
use Rattle.std.proofs.lemmas.List.{take_at, length-append}
use Rattle.std.proofs.lemmas.List.Sums.{sum_by-cons, sum_by-append}
use Rattle.gm_syntax_words.specs.declared.word.Span.{Span}
use Rattle.gm_syntax_words.specs.Lines.{lines_of, HasNoLineFeed}
use Rattle.gm_syntax_words.specs.Tokens.{Placed, AreNumbered}
use Rattle.gm_syntax_words.specs.LineText.{IsNextWord, FillText}
use Rattle.gm_syntax_words.proofs.Members.{all_together}
use Rattle.gm_syntax.specs.Document.{Line, Open, Entry}
use Rattle.gm_syntax.specs.LineViews.{tokens_of, all_tokens, AreLinesNumbered}
use Rattle.gm_syntax.specs.Placing.{FillsLine, FillLines, line_feeds, IsLineCounted, AreLinesCounted}
use Rattle.gm_syntax.proofs.Lines.{IsAfterLine, first_line, lines_nil}
use Rattle.gm_syntax.proofs.Stable.{plain_append, plain_parts}

feeds-cons : (b : ℕ) (bytes : List ℕ) → line_feeds (b ∷ bytes) ≡ cond (eqb b 10) 1 0 + line_feeds bytes
feeds-cons b bytes = sum_by-cons (λ (x : ℕ). cond (eqb x 10) 1 0) b bytes

feeds-append : (xs ys : List ℕ) → line_feeds (xs ++ ys) ≡ line_feeds xs + line_feeds ys
feeds-append xs ys = sum_by-append (λ (x : ℕ). cond (eqb x 10) 1 0) xs ys

no_feeds : (xs : List ℕ) → HasNoLineFeed xs → line_feeds xs ≡ 0
no_feeds [] h = refl
no_feeds (b ∷ xs) h = omega (arith, feeds-cons b xs, ap {B = ℕ} (λ (t : Bool). cond t 1 0) (ne_eqb b 10 h.0), no_feeds xs h.1)

one_feed : (b : ℕ) → b ≡ 10 → line_feeds (b ∷ []) ≡ 1
one_feed b e = omega (arith, feeds-cons b [], ap {B = ℕ} (λ (t : Bool). cond t 1 0) (eq-eqb b 10 e), no_feeds [] tt)

-- text has no line feed, and begins at the offset `from` of the source, in the line with this number
record Stands (source : List ℕ) (from number : ℕ) (text : List ℕ) : Type 0 where
  pub front : List ℕ
  pub tail : List ℕ
  pub parts : source ≡ front ++ (text ++ tail)
  pub offset : from ≡ length front
  pub count : number ≡ 1 + line_feeds front
  pub plain : HasNoLineFeed text

module _ {source : List ℕ} {from number : ℕ} {text rest : List ℕ} {t : Placed} {span : Span}
    (s : Stands source from number text) (n : IsNextWord from text t span rest) where
  word_counted : t.line ≡ number → IsLineCounted source t
  word_counted is =
      let inner : text ++ s.tail ≡ n.blanks ++ ((t.word.spelling ++ rest) ++ s.tail) =
      rw n.parts (append_assoc n.blanks (t.word.spelling ++ rest) s.tail) in
      let whole : source ≡ (s.front ++ n.blanks) ++ ((t.word.spelling ++ rest) ++ s.tail) =
      rw (s.parts, inner, append_assoc s.front n.blanks ((t.word.spelling ++ rest) ++ s.tail)) refl in
      let len : span.first ≡ length (s.front ++ n.blanks) = omega (arith, n.first, s.offset, length-append s.front n.blanks) in
      let before : take span.first source ≡ s.front ++ n.blanks =
      rw whole (take_at (s.front ++ n.blanks) ((t.word.spelling ++ rest) ++ s.tail) span.first (sym len)) in
      let plain = (plain_parts n.blanks (t.word.spelling ++ rest) (rw (← n.parts) s.plain)).0 in
      let feeds : line_feeds (take span.first source) ≡ line_feeds s.front =
      rw (before, feeds-append s.front n.blanks, no_feeds n.blanks plain) (omega arith) in
      (span, n.placed, rw (is, s.count, feeds) refl)

  word_past : Stands source span.after number rest
  word_past =
      let plains = plain_parts n.blanks (t.word.spelling ++ rest) (rw (← n.parts) s.plain) in
      let last = plain_parts t.word.spelling rest plains.1 in
      let head : List ℕ = n.blanks ++ t.word.spelling in
      let text_parts : text ≡ head ++ rest = n.parts ∙ sym (append_assoc n.blanks t.word.spelling rest) in
      let inner : text ++ s.tail ≡ head ++ (rest ++ s.tail) = rw text_parts (append_assoc head rest s.tail) in
      let feeds : line_feeds (s.front ++ head) ≡ line_feeds s.front =
      rw (feeds-append s.front head, no_feeds head (plain_append n.blanks t.word.spelling plains.0 last.0)) (omega arith) in
      record {
        front = s.front ++ head;
        tail = s.tail;
        parts = rw (s.parts, inner, append_assoc s.front head (rest ++ s.tail)) refl;
        offset = omega (arith, n.after, n.first, s.offset, length-append s.front head, length-append n.blanks t.word.spelling);
        count = rw (s.count, feeds) refl;
        plain = last.1;
      }

words_counted : (source : List ℕ) (from number : ℕ) (text : List ℕ) (ts : List Placed) (comment : Option (List ℕ))
    → Stands source from number text → FillText from text ts comment → AreNumbered number ts
    → AllByRecursion (IsLineCounted source) ts
words_counted source from number text [] comment s f h = tt
words_counted source from number text (t ∷ ts) comment s f h =
    (word_counted s f.2 h.0, words_counted source f.0.after number f.1 ts comment (word_past s f.2) f.3 h.1)

line_counted : (source : List ℕ) (from number : ℕ) (text : List ℕ) (l : Line Placed) → Stands source from number text
    → FillsLine from text l → AreNumbered number (tokens_of l) → AllByRecursion (IsLineCounted source) (tokens_of l)
line_counted source from number text (Open verb suffix) s f h = (word_counted s f.2.2 h.0, tt)
line_counted source from number text (Entry words suffix) s f h = words_counted source from number text words suffix s f h
line_counted source from number text l s f h = tt

-- the words of the lines after the first one
after_first : (source front first after : List ℕ) (number : ℕ) (ls : List (Line Placed)) → HasNoLineFeed first
    → IsAfterLine after → source ≡ front ++ (first ++ after) → number ≡ 1 + line_feeds front
    → FillLines (length front + length first + 1) (lines_of (drop 1 after)) ls
    → ((past rest : List ℕ) → source ≡ past ++ rest → number + 1 ≡ 1 + line_feeds past
    → FillLines (length past) (lines_of rest) ls → AllByRecursion (IsLineCounted source) (all_tokens ls))
    → AllByRecursion (IsLineCounted source) (all_tokens ls)
after_first source front first [] number ls plain ended parts count f again =
    none_left ls (rw (← lines_nil) f)
  where
    none_left : (ls : List (Line Placed)) → FillLines (length front + length first + 1) [] ls → AllByRecursion (IsLineCounted source) (all_tokens ls)
    none_left [] f = tt
    none_left (l ∷ ls) f = absurd f
after_first source front first (b ∷ after) number ls plain ended parts count f again =
    let past = front ++ (first ++ b ∷ []) in
    let inner = sym (append_assoc first (b ∷ []) after) in
    let whole : source ≡ past ++ after = rw (parts, inner, append_assoc front (first ++ b ∷ []) after) refl in
    let len : length front + length first + 1 ≡ length past = omega (arith, length-append front (first ++ b ∷ []), length-append first (b ∷ [])) in
    let feeds : line_feeds past ≡ line_feeds front + (0 + 1) =
    rw (feeds-append front _, feeds-append first _, no_feeds first plain, one_feed b ended) refl in
    again past after whole (omega (arith, count, feeds)) (rw (← len) f)

pub lines_counted : (source front rest : List ℕ) (number : ℕ) (ls : List (Line Placed)) → source ≡ front ++ rest
    → number ≡ 1 + line_feeds front → FillLines (length front) (lines_of rest) ls → AreLinesNumbered number ls
    → AllByRecursion (IsLineCounted source) (all_tokens ls)
lines_counted source front rest number [] parts count f h = tt
lines_counted source front [] number (l ∷ ls) parts count f h = absurd (subst (λ (ts : List (List ℕ)). FillLines (length front) ts (l ∷ ls)) lines_nil f)
lines_counted source front (b ∷ bytes) number (l ∷ ls) parts count f h =
    let first = first_line _ in
    let g = subst (λ (ts : List (List ℕ)). FillLines (length front) ts (l ∷ ls)) (first.lines (omega arith)) f in
    let s : Stands source (length front) number first.line = record {
      front = front;
      tail = first.after;
      parts = parts ∙ ap (λ x. front ++ x) first.parts;
      offset = refl;
      count = count;
      plain = first.no_line_feed;
    } in
    all_together (IsLineCounted source) (tokens_of l) (all_tokens ls) (line_counted source _ number _ l s g.0 h.0)
    (after_first source front _ _ number ls first.no_line_feed first.ended s.parts count g.1
    (λ past rest whole feeds k. lines_counted source past rest _ ls whole feeds k h.1))

-- the words of a document, from its start on
pub document_counted : (source : List ℕ) (doc : List (Line Placed)) → FillLines 0 (lines_of source) doc → AreLinesNumbered 1 doc → AreLinesCounted source doc
document_counted source doc f h = lines_counted source [] source 1 doc refl refl f h
