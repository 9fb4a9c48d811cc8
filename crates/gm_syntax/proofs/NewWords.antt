-- The words made by edits, and the values of words.
use Rattle.std.proofs.Common.{◌≡◌, ℕ, ◌-◌, ◌==◌, Bool, true, false, List, [], ◌∷◌, ◌++◌, length, None, refl, sym, ◌∙◌, arith, inl, inr, length-append}
use Rattle.std.specs.Prelude.{◌||◌, ◌↔◌, if◌then◌else◌}
use Rattle.std.proofs.lemmas.Bool.{cases_Bool, true≢false}
use Rattle.std.proofs.lemmas.List.{take_at}
use Rattle.gm_syntax_words.specs.declared.word.Kind.{Kind}
use Rattle.gm_syntax_words.specs.declared.word.Kind.TheVariants.{Bare, Text, Mark}
use Rattle.gm_syntax_words.specs.Lines.{HasNoLineFeed}
use Rattle.gm_syntax_words.specs.Words.{Word, IsBare, IsString, HasShape, HasValue, escaped_value, is_mark}
use Rattle.gm_syntax_words.specs.Bare.{can_be_bare, in_quotes, new_word}
use Rattle.gm_syntax_words.specs.Values.{all_but_last, string_value, unescaped_bytes, value_of, value_of_kind}
use Rattle.gm_syntax_words.specs.Spelling.{IsWord}
use Rattle.gm_syntax_words.specs.Tokens.{Placed, IsNewWord}
use Rattle.gm_syntax_words.proofs.Spelled.{is_bare_word, bare_word_is}
use Rattle.gm_syntax.proofs.Stable.{plain_append}

-- ---- values

last-cut : (text : List ℕ) (b : ℕ) → all_but_last (text ++ b ∷ []) ≡ text
last-cut text b =
    let len : length (text ++ b ∷ []) - 1 ≡ length text = omega (arith, length-append text (b ∷ [])) in
    rw len (take_at text (b ∷ []) (length text) refl)

-- a byte that needs no backslash, before others
unescaped-plain : (b : ℕ) (bytes : List ℕ) → (b == 92) ≡ false → unescaped_bytes (b ∷ bytes) ≡ b ∷ unescaped_bytes bytes
unescaped-plain b [] e = refl
unescaped-plain b (c ∷ bytes) e = rw e refl

escape-by : (b : ℕ) (rest : List ℕ) (q s : Bool) → q ≡ (b == 34) → s ≡ (b == 92)
    → unescaped_bytes ((if q || s then 92 ∷ b ∷ [] else b ∷ []) ++ rest) ≡ b ∷ unescaped_bytes rest
escape-by b rest true s eq es = refl
escape-by b rest false true eq es = refl
escape-by b rest false false eq es = unescaped-plain b rest (sym es)

pub unescaped-escaped : (value : List ℕ) → unescaped_bytes (escaped_value value) ≡ value
unescaped-escaped [] = refl
unescaped-escaped (b ∷ value) =
    rw (escape-by b _ _ _ refl refl, unescaped-escaped value) refl

string_is : (text value : List ℕ) → IsString text value → string_value text ≡ value
string_is text value (inl e) = rw (e, last-cut _ 34) (unescaped-escaped value)
string_is text value (inr e) = rw e.0 (last-cut value 96)

shape_is : (kind : Kind) (text value : List ℕ) → HasShape kind text value → value_of_kind kind text ≡ value
shape_is Bare text value h = sym h.1
shape_is Text text value h = string_is text value h
shape_is Mark text value h = sym h.1

pub value_is : (w : Word) (value : List ℕ) → HasValue w value → value_of w ≡ value
value_is w value h = shape_is w.kind _ value h

-- ---- new words

pub bare_is_tested : (text : List ℕ) → can_be_bare text ≡ true ↔ IsBare text
bare_is_tested text = (is_bare_word text, bare_word_is text)

pub not_bare_tested : (text : List ℕ) → can_be_bare text ≡ false → ¬ IsBare text
not_bare_tested text e h = true≢false (sym (bare_word_is text h) ∙ e)

plain_escaped : (value : List ℕ) → HasNoLineFeed value → HasNoLineFeed (escaped_value value)
plain_escaped [] h = tt
plain_escaped (b ∷ value) h = plain_append _
    _ (piece ((b == 34) || (b == 92))) (plain_escaped value h.1)
  where
    piece : (x : Bool) → HasNoLineFeed (if x then 92 ∷ b ∷ [] else b ∷ [])
    piece true = (omega arith, (h.0, tt))
    piece false = (h.0, tt)

pub plain_quoted : (value : List ℕ) → HasNoLineFeed value → HasNoLineFeed (in_quotes value)
plain_quoted value h = (omega arith, plain_append _ _ (plain_escaped value h) (omega arith, tt))

-- the function and the relation describe the same word
pub new_word_is : (value : List ℕ) (t : Placed) → IsNewWord value t → t ≡ record { word = new_word value; line = 0; span = None }
new_word_is value t h =
    elim (cases_Bool (can_be_bare value)) [
      | inl e ↦ rw e (h.bare (is_bare_word value e))
      | inr e ↦ rw e (h.quoted (not_bare_tested value e))
    ]

new_value : (value : List ℕ) → HasNoLineFeed value → IsWord (new_word value) × HasValue (new_word value) value
new_value value plain =
    elim (cases_Bool (can_be_bare value)) [
      | inl e ↦ let shape : HasValue (new_word value) value = rw e (is_bare_word value e, refl) in (((value, shape), rw e plain), shape)
      | inr e ↦ let shape : HasValue (new_word value) value = rw e (inl refl) in (((value, shape), rw e (plain_quoted value plain)), shape)
    ]

pub new_word_stands : (value : List ℕ) (t : Placed) → HasNoLineFeed value → IsNewWord value t → IsWord t.word × HasValue t.word value
new_word_stands value t plain h = rw (new_word_is value t h) (new_value value plain)

pub no_mark : (b : ℕ) (value : List ℕ) → is_mark b (new_word value) ≡ false
no_mark b value = elim (cases_Bool (can_be_bare value)) [ inl e ↦ rw e refl | inr e ↦ rw e refl ]

-- a new word is not punctuation
pub new_word_no_mark : (b : ℕ) (value : List ℕ) (t : Placed) → IsNewWord value t → is_mark b t.word ≡ false
new_word_no_mark b value t h = rw (new_word_is value t h) (no_mark b value)
