-- The words of a line, the blanks around them and the comment make up its text.
use Rattle.std.proofs.Common.{◌≡◌, ℕ, ◌+◌, ◌-◌, ◌≤◌, true, List, [], ◌∷◌, ◌++◌, length, take, drop, Option, Some, None, refl, sym, ap, subst, ◌∙◌, append_assoc, arith}
use Rattle.std.proofs.lemmas.List.{append-nil, take-append-drop, length-drop}
use Rattle.gm_syntax_words.specs.Bytes.{is_blank}
use Rattle.gm_syntax_words.specs.Words.{Word}
use Rattle.gm_syntax_words.specs.Tokens.{Placed}
use Rattle.gm_syntax_words.specs.Spelling.{Comment as CommentEnd, IsComment, Reads}
use Rattle.gm_syntax_words.specs.Private.Scan.{trim_end}
use Rattle.gm_syntax_words.specs.LineText.{IsTail, FillText}
use Rattle.gm_syntax_words.proofs.Reading.{trim_parts}

-- one more blank before the words
fill_blank : (at : ℕ) (b : ℕ) (rest : List ℕ) (ts : List Placed) (comment : Option (List ℕ)) → is_blank b ≡ true
    → FillText (at + 1) rest ts comment → FillText at (b ∷ rest) ts comment
fill_blank at b rest [] None blank f = (blank, f)
fill_blank at b rest [] (Some comment) blank f = (f.0, b ∷ f.1, f.2, (blank, f.3), f.4, rw f.5 refl)
fill_blank at b rest (t ∷ ts) comment blank f =
    let n = f.2 in (
      f.0,
      f.1,
      record {
        blanks = b ∷ n.blanks;
        are_blank = (blank, n.are_blank);
        parts = rw n.parts refl;
        placed = n.placed;
        first = omega (arith, n.first);
        after = n.after;
      },
      f.3,
    )

-- one more word
fill_word : (at n : ℕ) (rest : List ℕ) (t : Placed) (ts : List Placed) (comment : Option (List ℕ))
    → t.span ≡ Some (record { first = at; after = at + n }) → t.word.spelling ≡ take n rest → n ≡ length t.word.spelling
    → FillText (at + n) (drop n rest) ts comment → FillText at rest (t ∷ ts) comment
fill_word at n rest t ts comment is text len f = (
  record { first = at; after = at + n },
  drop n rest,
  record {
    blanks = [];
    are_blank = tt;
    parts = sym (ap (λ l. l ++ drop n rest) text ∙ take-append-drop n rest);
    placed = is;
    first = omega arith;
    after = omega (arith, len);
  },
  f,
)

-- the words so far take the line up to its rest, which begins at the offset `at`: whatever the rest is made of, the
-- line is made of these words and that
abbrev pub FillsUpTo : ℕ → List ℕ → List Placed → ℕ → List ℕ → Type 0
FillsUpTo first line words at rest = (more : List Placed) (comment : Option (List ℕ)) → FillText at rest more comment
    → FillText first line (words ++ more) comment

module _ (first : ℕ) (line : List ℕ) (words : List Placed) (rest : List ℕ) (le : length rest ≤ length line)
    (p : FillsUpTo first line words (first + (length line - length rest)) rest) where
  pub fills_blank : ((b : ℕ) × (bytes : List ℕ) × (rest ≡ b ∷ bytes) × (is_blank b ≡ true))
      → FillsUpTo first line words (first + (length line - length (drop 1 rest))) (drop 1 rest)
  fills_blank (b, bytes, e, blank) more comment f =
      let past : drop 1 rest ≡ bytes = rw e refl in
      let at : first + (length line - length (drop 1 rest)) ≡ first + (length line - length rest) + 1 = omega (arith, le, ap length e, ap length past) in
      let g =
      subst (λ (l : List ℕ). FillText (first + (length line - length rest) + 1) l more comment) past
      (subst (λ (n : ℕ). FillText n (drop 1 rest) more comment) at f) in
      p more comment (subst (λ (l : List ℕ). FillText (first + (length line - length rest)) l more comment) (sym e)
      (fill_blank _ b bytes more comment blank g))

  pub fills_word : (n : ℕ) (t : Placed) → n ≤ length rest
      → t.span ≡ Some (record {
        first = first + (length line - length rest);
        after =
            first + (length line - length rest) + n;
      }) → t.word.spelling ≡ take n rest → n ≡ length t.word.spelling
      → FillsUpTo first line (words ++ t ∷ []) (first + (length line - length (drop n rest))) (drop n rest)
  fills_word n t fits is text len more comment f =
      let at : first + (length line - length (drop n rest)) ≡ first + (length line - length rest) + n = omega (arith, le, fits, length-drop n rest) in
      let g = fill_word _ n rest t more comment is text len
      (rw (← at) f) in
      rw (append_assoc words (t ∷ []) more) (p (t ∷ more) comment g)

  whole : (comment : Option (List ℕ)) → IsTail rest comment → FillText first line words comment
  whole comment tail = rw (← (append-nil words)) (p [] comment tail)

  pub fills_end : rest ≡ [] → FillText first line words None
  fills_end e = whole None (rw e tt)

  pub fills_comment : (text : List ℕ) → IsComment text → text ≡ trim_end rest → FillText first line words (Some text)
  fills_comment text is e =
      let t = trim_parts rest in
      whole (Some text) (is, [], t.blanks, tt, t.are_blank, t.parts ∙ ap (λ l. l ++ t.blanks) (sym e))

-- what is read as a comment is one
pub read_comment : (before : Option Word) (text : List ℕ) (words : List Word) (comment : List ℕ)
    → Reads before text words (CommentEnd comment) → IsComment comment
read_comment before text [] comment r = r.ends.1
read_comment before text (w ∷ words) comment (rest, b, others) = read_comment _ rest words comment others
