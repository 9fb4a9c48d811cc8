-- The text of a class determines it.
use Rattle.std.proofs.Common.{◌≡◌, ◌∙◌, ◌^◌, ◌<◌, ◌≤◌, ℕ, Bool, true, false, List, [], ◌∷◌, ◌++◌, Option, Some, codes, ap, ap₂, append_assoc, arith, refl, sym, subst}
use Rattle.std.specs.Prelude.{find, nat_lt}
use Rattle.std.specs.Char.{is_ascii_digit}
use Rattle.std.specs.Fmt.{decimal}
use Rattle.std.specs.List.{list_all}
use Rattle.std.specs.Str.{bytes_eq}
use Rattle.std.proofs.lemmas.Fmt.{decimal_injective}
use Rattle.gm_version.proofs.Numbers.{decimal-digits}
use Rattle.gm_syntax_words.specs.declared.fault.SyntaxKind.TheVariants as syntax
use Rattle.gm_file.specs.declared.fault.DirectiveKind.TheVariants as directive
use Rattle.gm_graph_files.specs.declared.class.Class.{Class}
use Rattle.gm_graph_files.specs.declared.class.Class.TheVariants.{NotFetchable, Missing, TooLong, NoSum, SumDiffers, Malformed, WrongPath}
use Rattle.gm_file.specs.declared.misreading.Misreading.{Misreading}
use Rattle.gm_file.specs.declared.misreading.Misreading.TheVariants as misreading
use Rattle.gm_file.specs.Misreading.{misreading_word}
use Rattle.gomod_texts.specs.PrintedLines.{IsProperClass}
use Rattle.gomod_texts.specs.Reports.{class_text, malformed_text}
use Rattle.gomod_run.proofs.ListLines.{Lacks, both_lack, cut_at, has_it, lacks, plain}

-- ---- the misreading that a word is for

-- all misreadings
abbrev misreadings : List Misreading
misreadings = misreading.TooMany ∷ misreading.NotUtf8
    ∷ misreading.Syntax syntax.BadByte ∷ misreading.Syntax syntax.OpenString ∷ misreading.Syntax syntax.BadEscape
    ∷ misreading.Syntax syntax.BlockComment ∷ misreading.Syntax syntax.StrayClose ∷ misreading.Syntax syntax.NestedOpen
    ∷ misreading.Syntax syntax.OpenBlock
    ∷ misreading.Directive directive.UnknownVerb ∷ misreading.Directive directive.WrongArguments ∷ misreading.Directive directive.BadPath
    ∷ misreading.Directive directive.BadVersion ∷ misreading.Directive directive.Misfit ∷ misreading.Directive directive.Repeated
    ∷ misreading.Directive directive.NoModule ∷ misreading.Directive directive.ConflictingReplace ∷ misreading.Directive directive.BadGo ∷ []

-- the first whose word this is
abbrev misreading_of : List ℕ → Option Misreading
misreading_of word = find (λ kind. bytes_eq word (misreading_word kind)) misreadings

-- a byte of a word: none is a blank or a line feed
abbrev is_byte_of_word : ℕ → Bool
is_byte_of_word b = nat_lt 32 b

-- the word is that of the misreading alone, and has such bytes
word_is : (kind : Misreading) → (misreading_of (misreading_word kind) ≡ Some kind) × (list_all is_byte_of_word (misreading_word kind) ≡ true)
word_is misreading.TooMany = (refl, refl)
word_is misreading.NotUtf8 = (refl, refl)
word_is (misreading.Syntax syntax.BadByte) = (refl, refl)
word_is (misreading.Syntax kind) = (refl, refl)
word_is (misreading.Directive directive.UnknownVerb) = (refl, refl)
word_is (misreading.Directive kind) = (refl, refl)

-- a word is that of one misreading
says_misreading : (one other : Misreading) → misreading_word one ≡ misreading_word other → one ≡ other
says_misreading one other e = let found : Some one ≡ Some other = sym (word_is _).0 ∙ ap misreading_of e ∙ (word_is _).0 in cc found

-- ---- bytes

-- a number of a line is small enough for its digits
small : (n : ℕ) → n ≤ 16777216 → n < 2 ^ 64
small n le = omega (arith, le)

number_lacks : (c n : ℕ) → is_ascii_digit c ≡ false → n ≤ 16777216 → Lacks c (decimal n)
number_lacks c n none le = lacks c _ none _ (decimal-digits n (small n le))

feed_lacked : (text : List ℕ) → list_all is_byte_of_word text ≡ true → Lacks 10 text
feed_lacked text all = lacks _ _ refl _ all

blank_lacked : (text : List ℕ) → list_all is_byte_of_word text ≡ true → Lacks 32 text
blank_lacked text all = lacks _ _ refl _ all

malformed_plain : (number : ℕ) (kind : Misreading) → number ≤ 16777216 → Lacks 10 (malformed_text number kind)
malformed_plain number kind le =
    both_lack 10 ((codes "Malformed " ++ decimal number) ++ codes " ") _
    (both_lack 10 (codes "Malformed " ++ decimal number) _
    (both_lack 10 (codes "Malformed ") _ (plain (codes "Malformed ") refl) (number_lacks 10 number refl le)) (plain (codes " ") refl))
    (feed_lacked _ (word_is kind).1)

-- ---- `Malformed LINE KIND`

spread : (number : ℕ) (kind : Misreading) → malformed_text number kind ≡ codes "Malformed" ++ 32 ∷ (decimal number ++ 32 ∷ misreading_word kind)
spread number kind =
    append_assoc (codes "Malformed " ++ decimal number) _ _
    ∙ append_assoc (codes "Malformed ") (decimal number) _

front_plain : Lacks 32 (codes "Malformed")
front_plain = blank_lacked (codes "Malformed") refl

says_malformed : (m n : ℕ) (one other : Misreading) → m ≤ 16777216 → n ≤ 16777216
    → malformed_text m one ≡ malformed_text n other → Malformed m one ≡ Malformed n other
says_malformed m n one other p q e =
    let (front, after) = cut_at 32 (codes "Malformed") (codes "Malformed") (decimal m ++ 32 ∷ misreading_word one)
    _ front_plain front_plain (sym (spread m one) ∙ e ∙ spread n other) in
    let (number, word) = cut_at 32 _ (decimal n) _ (misreading_word other)
    (number_lacks 32 m refl p) (number_lacks 32 n refl q) after in
    ap₂ Malformed (decimal_injective m n (small m p) (small n q) number) (says_misreading one other word)

-- a text of such bytes is not that of a `Malformed`
not_malformed : (word : List ℕ) (number : ℕ) (kind : Misreading) → list_all is_byte_of_word word ≡ true → word ≡ malformed_text number kind → ⊥
not_malformed word number kind all e =
    has_it 32 (codes "Malformed") _ (subst (Lacks 32) (e ∙ spread _ _) (blank_lacked _ all))

-- ---- the class that a word is for

abbrev class_of : List ℕ → Option Class
class_of word = find (λ class. bytes_eq word (class_text class)) (NotFetchable ∷ Missing ∷ TooLong ∷ NoSum ∷ SumDiffers ∷ WrongPath ∷ [])

-- a class whose text is a word
record IsOfAWord (class : Class) : Type 0 where
  bytes : list_all is_byte_of_word (class_text class) ≡ true
  found : class_of (class_text class) ≡ Some class

says_word : (one other : Class) → IsOfAWord one → IsOfAWord other → class_text one ≡ class_text other → one ≡ other
says_word one other p q e = let found : Some one ≡ Some other = sym p.found ∙ ap class_of e ∙ q.found in cc found

-- the line and the kind of a misreading, or a class whose text is a word
data ClassCase : Class → Type 0 where
  misread : (number : ℕ) (kind : Misreading) → ClassCase (Malformed number kind)
  worded : (class : Class) → IsOfAWord class → ClassCase class

class_case : (class : Class) → ClassCase class
class_case (Malformed number kind) = misread _ _
class_case class = worded _ (record { bytes = refl; found = refl })

by_cases : {one other : Class} → ClassCase one → ClassCase other → IsProperClass one → IsProperClass other → class_text one ≡ class_text other → one ≡ other
by_cases (misread m one) (misread n other) p q e = says_malformed m n _ other p q e
by_cases (misread m one) (worded other w) p q e = absurd (not_malformed _ m one w.bytes (sym e))
by_cases (worded one w) (misread n other) p q e = absurd (not_malformed _ n _ w.bytes e)
by_cases (worded one w) (worded other v) p q e = says_word one _ w v e

-- the text of a class has no line feed
pub class_has_no_feed : (class : Class) → IsProperClass class → Lacks 10 (class_text class)
class_has_no_feed (Malformed number kind) proper = malformed_plain number _ proper
class_has_no_feed class proper = feed_lacked (class_text class) refl

-- a text is that of one class
pub says_class : (one other : Class) → IsProperClass one → IsProperClass other → class_text one ≡ class_text other → one ≡ other
says_class one other p q e = by_cases (class_case _) (class_case _) p q e
