-- A document has one placing in its source.
use Rattle.std.proofs.Common.{◌≡◌, ℕ, ◌+◌, Bool, false, List, [], ◌∷◌, ◌++◌, length, Option, Some, None, Ok, refl, sym, ap, subst, ◌∙◌, arith, inl, inr}
use Rattle.std.specs.List.{AllByRecursion}
use Rattle.std.proofs.lemmas.Bool.{true≢false}
use Rattle.std.proofs.lemmas.List.{append_cancel_left}
use Rattle.gm_syntax_words.specs.declared.word.Span.{Span}
use Rattle.gm_syntax_words.specs.declared.word.Kind.{Kind}
use Rattle.gm_syntax_words.specs.declared.word.Kind.TheVariants.{Bare, Text, Mark}
use Rattle.gm_syntax_words.specs.Bytes.{is_blank}
use Rattle.gm_syntax_words.specs.Words.{Word, AllBlank, HasShape, IsShaped, escaped_value}
use Rattle.gm_syntax_words.specs.Tokens.{Placed, words_of}
use Rattle.gm_syntax_words.specs.Spelling.{Ending, Reads}
use Rattle.gm_syntax_words.specs.LineText.{IsNextWord, FillText}
use Rattle.gm_syntax_words.proofs.Classes.{bracket_not_blank, quote_not_others, word_not_others, equals_word, quote_quote, grave_quote}
use Rattle.gm_syntax.specs.Document.{Line, Blank, Comment, Open, Close, Entry, Finish, Whole, IsLineAt, ReadsLines, start, after, Place}
use Rattle.gm_syntax.specs.LineViews.{plain, plain_lines, tokens_of, all_tokens}
use Rattle.gm_syntax.specs.Parsed.{IsParsedAs}
use Rattle.gm_syntax.specs.Placing.{FillsLine, FillLines, IsLineCounted, IsPlacedIn}
use Rattle.gm_syntax.proofs.Stable.{from_words}
use Rattle.gm_syntax_words.proofs.Members.{all_parts}

-- ---- the blanks before a word

-- a word begins with a byte that is not a blank
record Solid (text : List ℕ) : Type 0 where
  pub byte : ℕ
  pub more : List ℕ
  pub parts : text ≡ byte ∷ more
  pub solid : is_blank byte ≡ false

shape_solid : (kind : Kind) (text value : List ℕ) → HasShape kind text value → Solid text
shape_solid Bare [] value (bare, e) = absurd (bare.filled refl)
shape_solid Bare (b ∷ text) value (bare, e) = record { byte = b; more = text; parts = refl; solid = (word_not_others b bare.word_bytes.0).0 }
shape_solid Text text value (inl e) = record { byte = 34; more = escaped_value value ++ 34 ∷ []; parts = e; solid = (quote_not_others 34 quote_quote).0 }
shape_solid Text text value (inr (e, none)) = record { byte = 96; more = value ++ 96 ∷ []; parts = e; solid = (quote_not_others 96 grave_quote).0 }
shape_solid Mark text value (inl (b, bracket, e), same) = record { byte = b; more = []; parts = e; solid = bracket_not_blank b bracket }
shape_solid Mark text value (inr e, same) = record { byte = 61; more = 62 ∷ []; parts = e; solid = (word_not_others 61 equals_word).0 }

-- the blanks before a byte that is not one are the same, and so is what follows
same_blanks : (b : ℕ) (xs ys us vs : List ℕ) → is_blank b ≡ false → AllBlank xs → AllBlank ys
    → xs ++ b ∷ us ≡ ys ++ b ∷ vs → (length xs ≡ length ys) × (us ≡ vs)
same_blanks b [] [] us vs solid p q e = (refl, cc)
same_blanks b [] (y ∷ ys) us vs solid p q e =
    let same : b ≡ y = cc in
    absurd (true≢false (rw (← q.0, ← same) solid))
same_blanks b (x ∷ xs) [] us vs solid p q e =
    let same : x ≡ b = cc in
    absurd (true≢false (rw (← p.0, same) solid))
same_blanks b (x ∷ xs) (y ∷ ys) us vs solid p q e =
    let r = same_blanks b xs ys us vs solid p.1 q.1 cc in
    (omega (arith, r.0), r.1)

same_span : (s r : Span) → s.first ≡ r.first → s.after ≡ r.after → s ≡ r
same_span s r e f = rw (e, f) refl

-- ---- one word

module _ (from : ℕ) (text : List ℕ) (t u : Placed) (s r : Span) (rest other : List ℕ) (shaped : IsShaped t.word)
    (same : t.word ≡ u.word) (n : IsNextWord from text t s rest) (m : IsNextWord from text u r other) where
  pub one_next : (s ≡ r) × (rest ≡ other)
  one_next =
      let p = shape_solid _ _ _ shaped.1 in
      let spelling : u.word.spelling ≡ t.word.spelling = rw same refl in
      let here = n.parts ∙ ap (λ l. n.blanks ++ (l ++ rest)) p.parts in
      let there = m.parts ∙ ap (λ l. m.blanks ++ (l ++ other)) (spelling ∙ p.parts) in
      let b = same_blanks p.byte _ _ _ _ p.solid n.are_blank m.are_blank (sym here ∙ there) in
      let first : s.first ≡ r.first = omega (arith, n.first, m.first, b.0) in
      (same_span s r first (omega (arith, n.after, m.after, first, ap length spelling)), append_cancel_left p.more rest other b.1)

same_placed : (t u : Placed) → t.word ≡ u.word → t.line ≡ u.line → t.span ≡ u.span → t ≡ u
same_placed t u e f g = rw (e, f, g) refl

same_some : (s r : Span) → Some s ≡ Some r → s ≡ r
same_some s r e = cc

one_word : (source : List ℕ) (t u : Placed) (s r : Span) → t.word ≡ u.word → t.span ≡ Some s → u.span ≡ Some r → s ≡ r
    → IsLineCounted source t → IsLineCounted source u → t ≡ u
one_word source t u s r word at that same p q =
    let spans : t.span ≡ u.span = rw (at, same, that) refl in
    let counted = same_some p.0 q.0 (sym p.1 ∙ spans ∙ q.1) in
    same_placed t u word (rw (p.2, counted, q.2) refl) spans

-- ---- the words of a line

words_same : (source : List ℕ) (from : ℕ) (text : List ℕ) (ts us : List Placed) (c d : Option (List ℕ))
    → AllByRecursion IsShaped (words_of ts) → words_of ts ≡ words_of us → FillText from text ts c
    → FillText from text us d
    → AllByRecursion (IsLineCounted source) ts → AllByRecursion (IsLineCounted source) us → ts ≡ us
words_same source from text [] [] c d shaped e f g p q = refl
words_same source from text [] (u ∷ us) c d shaped e f g p q = cc
words_same source from text (t ∷ ts) [] c d shaped e f g p q = cc
words_same source from text (t ∷ ts) (u ∷ us) c d shaped e f g p q =
    let word : t.word ≡ u.word = cc in
    let words : words_of ts ≡ words_of us = cc in
    let o = one_next from text t u f.0 g.0 f.1 g.1 shaped.0 word f.2 g.2 in
    let here = one_word source t u f.0 g.0 word f.2.placed g.2.placed o.0 p.0 q.0 in
    let there : FillText f.0.after f.1 us d = rw o.0
    (rw o.1 g.3) in
    ap (λ x. x ∷ ts) here ∙ ap (λ xs. u ∷ xs) (words_same source f.0.after f.1 ts us c d shaped.1 words f.3 there p.1 q.1)

reads_shaped : (before : Option Word) (text : List ℕ) (words : List Word) (e : Ending) → Reads before text words e → AllByRecursion IsShaped words
reads_shaped before text [] e r = tt
reads_shaped before text (w ∷ words) e (rest, b, others) = (b.shape, reads_shaped _ rest words e others)

line_shaped : (inside : Bool) (text : List ℕ) (l : Line Placed) → IsLineAt inside text (plain l) → AllByRecursion IsShaped (words_of (tokens_of l))
line_shaped inside text (Open verb suffix) h =
    let w = from_words inside h.words _ _ h.classed in
    ((subst (AllByRecursion IsShaped) w.0 (reads_shaped None text h.words _ h.spelled)).0, tt)
line_shaped inside text (Entry words suffix) h =
    let w = from_words inside h.words _ _ h.classed in
    rw (← w.0) (reads_shaped None text h.words _ h.spelled)
line_shaped inside text l h = tt

module _ (source : List ℕ) (from : ℕ) (text : List ℕ) where
  line_same : (l m : Line Placed) → AllByRecursion IsShaped (words_of (tokens_of l)) → plain l ≡ plain m → FillsLine from text l → FillsLine from text m
      → AllByRecursion (IsLineCounted source) (tokens_of l) → AllByRecursion (IsLineCounted source) (tokens_of m) → l ≡ m
  line_same Blank Blank shaped e f g p q = refl
  line_same (Comment c) (Comment d) shaped e f g p q = cc
  line_same (Open t c) (Open u d) shaped e f g p q =
      let word : t.word ≡ u.word = cc in
      let suffix : c ≡ d = cc in
      let o = one_next from text t u f.2.0 g.2.0 f.2.1 g.2.1 shaped.0 word f.2.2 g.2.2 in
      let here = one_word source t u f.2.0 g.2.0 word f.2.2.placed g.2.2.placed o.0 p.0 q.0 in
      ap (λ x. Open x c) here ∙ ap (λ x. Open u x) suffix
  line_same (Close c) (Close d) shaped e f g p q = let suffix : c ≡ d = cc in ap (λ x. Close x) suffix
  line_same (Entry ts c) (Entry us d) shaped e f g p q =
      let words : words_of ts ≡ words_of us = cc in
      let suffix : c ≡ d = cc in
      ap (λ x. Entry x c) (words_same source from text ts us c d shaped words f g p q) ∙ ap (λ x. Entry us x) suffix
  line_same l m shaped e f g p q = cc

-- ---- the lines of a document

lines_same : (source : List ℕ) (at : Place) (from : ℕ) (texts : List (List ℕ)) (ls ms : List (Line Placed)) (f : Finish)
    → ReadsLines at texts (plain_lines ls) f → plain_lines ls ≡ plain_lines ms → FillLines from texts ls
    → FillLines from texts ms
    → AllByRecursion (IsLineCounted source) (all_tokens ls) → AllByRecursion (IsLineCounted source) (all_tokens ms) → ls ≡ ms
lines_same source at from texts [] [] f r e a b p q = refl
lines_same source at from texts [] (m ∷ ms) f r e a b p q = cc
lines_same source at from texts (l ∷ ls) [] f r e a b p q = cc
lines_same source at from [] (l ∷ ls) (m ∷ ms) f r e a b p q = absurd a
lines_same source at from (text ∷ texts) (l ∷ ls) (m ∷ ms) f r e a b p q =
    let first : plain l ≡ plain m = cc in
    let others : plain_lines ls ≡ plain_lines ms = cc in
    let ps = all_parts (IsLineCounted source) (tokens_of l) (all_tokens ls) p in
    let qs = all_parts (IsLineCounted source) (tokens_of m) (all_tokens ms) q in
    let here = line_same source from text l m (line_shaped at.inside text l r.0) first a.0 b.0 ps.0 qs.0 in
    let there = lines_same source (after at (plain l)) (from + length text + 1) texts ls ms f r.1 others a.1 b.1 ps.1 qs.1 in
    ap (λ x. x ∷ ls) here ∙ ap (λ xs. m ∷ xs) there

pub one_placing : (source : List ℕ) (doc other : List (Line Placed)) → IsParsedAs source (Ok doc)
    → IsParsedAs source (Ok other) → IsPlacedIn source doc → IsPlacedIn source other → doc ≡ other
one_placing source doc other p q a b =
    let words : plain_lines other ≡ plain_lines doc = (p.1.only (plain_lines other) Whole q.1.reads).0 in
    lines_same source start 0 _ doc other Whole p.1.reads (sym words) a.fills_lines b.fills_lines a.counted_lines b.counted_lines
