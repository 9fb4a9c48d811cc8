-- Lines of bare words, and how their text is read.
use Rattle.std.proofs.Common.{◌≡◌, ◌≢◌, ◌<◌, ◌≤◌, ◌∷◌, ℕ, Bool, true, false, IsTrue, IsUtf8, List, [], None, Ok, arith, get_or, length, lit<, refl, subst, suc, zero}
use Rattle.std.specs.Prelude.{◌&&◌, map, nat_lt, not}
use Rattle.std.specs.List.{AllByRecursion, list_all}
use Rattle.std.proofs.lemmas.Bool.{false≢true, not-true}
use Rattle.std.proofs.lemmas.Bool.Decides.{nat_tests}
use Rattle.std.proofs.lemmas.Str.{IsUtf8-from_ascii}
use Rattle.std.specs.Cmp.{first_so, second_so}
use Rattle.gm_name.specs.Element.{is_path_byte}
use Rattle.gm_name.specs.Path.{is_byte_of_path}
use Rattle.gm_syntax_words.specs.declared.word.Kind.TheVariants.{Bare}
use Rattle.gm_syntax_words.specs.Bytes.{is_bad, is_blank, is_bracket_or_comma, is_quote, is_word_byte}
use Rattle.gm_syntax_words.specs.Lines.{lines_of}
use Rattle.gm_syntax_words.specs.Spelling.{IsWord}
use Rattle.gm_syntax_words.specs.Words.{BeginsWithArrow, HoldsNoComment, IsBare, Word}
use Rattle.gm_syntax.specs.Document.{AreLines, Entry, IsValidLine, Line, Place, ReadsLines, Whole, after, begins_close, ends_open, start}
use Rattle.gm_syntax.specs.Layout.{initial_state, layout}
use Rattle.gm_syntax.proofs.LayoutLines.{layout_lines}
use Rattle.gm_syntax.specs.LineViews.{plain_lines}
use Rattle.gm_syntax.specs.Parsed.{IsParsedAs}
use Rattle.gm_syntax.proofs.Changes.{entry_stands}
use Rattle.gm_syntax.proofs.OneText.{reading_parsed}
use Rattle.gm_syntax.proofs.Readings.{reading_of}
use Rattle.gm_syntax.proofs.Stable.{is_stable}
use Rattle.gomod_texts.specs.Queries.{longest}
use Rattle.gomod_run.proofs.ListLines.{Lacks, lacks}
use Rattle.gomod_laws.proofs.FormattingRead.{placeless, plain_placeless}

-- ---- words

word_byte : (b : ℕ) → is_byte_of_path b ≡ true → is_word_byte b ≡ true
unfolding is_word_byte is_blank is_bracket_or_comma is_quote is_bad
word_byte b e = grind (arith, nat_tests)

word_bytes : (text : List ℕ) → list_all is_byte_of_path text ≡ true → AllByRecursion (λ b. IsTrue (is_word_byte b)) text
word_bytes [] all = tt
word_bytes (b ∷ text) all = (word_byte b (first_so _ _ all), word_bytes text (second_so _ _ all))

no_arrow : (text : List ℕ) → list_all is_byte_of_path text ≡ true → BeginsWithArrow text → ⊥
no_arrow text all (rest, is) = false≢true (rw is at all)

-- a text without a slash opens no comment
no_comment : (text : List ℕ) → Lacks 47 text → HoldsNoComment text
no_comment [] lack = tt
no_comment (a ∷ []) lack = tt
no_comment (a ∷ b ∷ text) lack = ((λ opens. lack.0 opens.0), no_comment (b ∷ text) lack.1)

abbrev bare : List ℕ → Word
bare text = record { kind = Bare; spelling = text }

-- the bytes are those of an element of a path, and there are some
abbrev is_plain : List ℕ → Bool
is_plain text = nat_lt 0 (length text) && (list_all is_byte_of_path text && list_all is_path_byte text)

word_is : (text : List ℕ) → text ≢ [] → list_all is_byte_of_path text ≡ true → list_all is_path_byte text ≡ true → IsWord (bare text)
word_is text some paths elements = ((text, (is_bare, refl)), lacks 10 _ refl _ elements)
  where
    is_bare : IsBare text
    is_bare = record {
      filled = some;
      word_bytes = word_bytes _ paths;
      no_comment = no_comment _ (lacks _ _ refl _ elements);
      no_arrow = no_arrow _ paths;
    }

plain_word : (text : List ℕ) → is_plain text ≡ true → IsWord (bare text)
plain_word [] is = absurd (false≢true is)
plain_word (b ∷ text) is = word_is _ (λ e. cc e) (first_so _ _ (second_so _ _ is)) (second_so _ _ (second_so _ _ is))

plain_words : (texts : List (List ℕ)) → list_all is_plain texts ≡ true → AllByRecursion IsWord (map bare texts)
plain_words [] all = tt
plain_words (text ∷ texts) all = (plain_word text (first_so _ _ all), plain_words texts (second_so _ _ all))

-- ---- lines

abbrev pub line : List (List ℕ) → Line Word
line texts = Entry (map bare texts) None

abbrev pub is_plain_line : List (List ℕ) → Bool
is_plain_line [] = false
is_plain_line texts = list_all is_plain texts && (not (ends_open (map bare texts)) && not (begins_close (map bare texts)))

line_stands : (texts : List (List ℕ)) → is_plain_line texts ≡ true → IsValidLine false (line texts)
line_stands [] is = absurd (false≢true is)
line_stands (first ∷ texts) is =
    entry_stands false (map bare (first ∷ texts)) None
    (record {
      are_words = plain_words (first ∷ texts) (first_so _ _ is);
      is_suffix = tt;
      filled = omega arith;
      opens_nothing = not-true _ (first_so _ _ (second_so _ _ is));
      closes_nothing = not-true _ (second_so _ _ (second_so _ _ is));
    })

lines_stand : (at : Place) → at.inside ≡ false → (texts : List (List (List ℕ))) → list_all is_plain_line texts ≡ true → AreLines at (map line texts)
lines_stand at outside [] all = outside
lines_stand at outside (one ∷ texts) all = (
  rw outside (line_stands _ (first_so _ _ all)),
  lines_stand (after at (line one)) outside texts (second_so _ _ all),
)

-- ---- their text

pub ascii : (text : List ℕ) → AllByRecursion (λ b. b < 128) text → (i : ℕ) → get_or text i 0 < 128
ascii [] low i = lit< tt
ascii (b ∷ text) low zero = low.0
ascii (b ∷ text) low (suc i) = ascii text low.1 i

byte_below : (b : ℕ) → nat_lt b 128 ≡ true → b < 128
byte_below b e = grind (arith, nat_tests)

all_below : (text : List ℕ) → list_all (λ b. nat_lt b 128) text ≡ true → AllByRecursion (λ b. b < 128) text
all_below [] all = tt
all_below (b ∷ text) all = (byte_below b (first_so _ _ all), all_below text (second_so _ _ all))

pub ascii_utf8 : {text : List ℕ} → list_all (λ b. nat_lt b 128) text ≡ true → IsUtf8 text
ascii_utf8 all = IsUtf8-from_ascii _ (ascii _ (all_below _ all))

-- plain lines are what their text is read as, if they are laid out as it
pub laid_parsed : (text : List ℕ) (texts : List (List (List ℕ))) → list_all is_plain_line texts ≡ true
    → layout (map line texts) ≡ text → layout_lines initial_state (map line texts) ≡ map line texts
    → length text ≤ longest → list_all (λ b. nat_lt b 128) text ≡ true → IsParsedAs text (Ok (placeless (map line texts)))
laid_parsed text texts plain laid same short ascii =
    let ls = map line texts in
    let stable = (is_stable _ (lines_stand start refl _ plain)).reads in
    let laid_out : ReadsLines start (lines_of (layout ls)) ls Whole =
    subst (λ (others : List (Line Word)). ReadsLines start (lines_of (layout ls)) others Whole) same stable in
    let read : ReadsLines start (lines_of text) ls Whole = rw laid at laid_out in
    let reads : ReadsLines start (lines_of text) (plain_lines (placeless ls)) Whole =
    rw (plain_placeless ls)
    read in
    reading_parsed text (Ok (placeless ls)) ((short, ascii_utf8 ascii), reading_of _ _ _ reads)
