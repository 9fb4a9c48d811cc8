use Rattle.std.proofs.Common.{◌≡◌, ◌∙◌, ◌==◌, ap, sym, Bool, ℕ, List, [], ◌∷◌, false, length, true}
use Rattle.gm_name.specs.Cuts.{prepend_word}
use Rattle.gm_store_sums.specs.Sums.{are_valid_fields}
use Rattle.gm_name.proofs.FieldLemmas.{is_empty_word, is_some, put_none, put_some}
use Rattle.gm_store_sums.proofs.sum_lines.fields_of.Goals as goal

-- ---- the fields of a text whose first word was cut off and tested

none_left : {word w : List ℕ} {b : Bool} {all : List (List ℕ)} (words : List (List ℕ)) → all ≡ prepend_word word words → w ≡ word
    → b ≡ (length w == 0) → b ≡ true → all ≡ []
none_left {word} {w} {b} {all} words fields same test empty = put_none word all words fields (is_empty_word word w b same test empty)

one_more : {word w : List ℕ} {b : Bool} {all words : List (List ℕ)} → all ≡ prepend_word word words → w ≡ word
    → b ≡ (length w == 0) → b ≡ false → all ≡ word ∷ words
one_more {word} {w} {b} {all} {words} fields same test filled = put_some word all words fields (is_some word w b same test filled)

after_one : {all one rest : List (List ℕ)} {a : List ℕ} → all ≡ a ∷ one → one ≡ rest → all ≡ a ∷ rest
after_one {all} {one} {rest} {a} first then = first ∙ ap (λ more. a ∷ more) then

pub returns-then-is_empty : goal.returns-then-is_empty
returns-then-is_empty c = none_left _ c.cut_word-path.ensures.fields c.cut_word-path.ensures.word c.is_empty.ensures c.if-is_empty.true

-- one field, or two, are neither valid nor three
one_field : (all : List (List ℕ)) (a : List ℕ) → all ≡ a ∷ []
    → (are_valid_fields all ≡ false) × ((path version hash : List ℕ) → ¬ (all ≡ path ∷ version ∷ hash ∷ []))
one_field all a e = (ap are_valid_fields e, λ path version hash is. cc (sym e ∙ is))

two_fields : (all : List (List ℕ)) (a b : List ℕ) → all ≡ a ∷ b ∷ []
    → (are_valid_fields all ≡ false) × ((path version hash : List ℕ) → ¬ (all ≡ path ∷ version ∷ hash ∷ []))
two_fields all a b e = (ap are_valid_fields e, λ path version hash is. cc (sym e ∙ is))

four_fields : (all : List (List ℕ)) (a b d f : List ℕ) (more : List (List ℕ)) → all ≡ a ∷ b ∷ d ∷ f ∷ more
    → (are_valid_fields all ≡ false) × ((path version hash : List ℕ) → ¬ (all ≡ path ∷ version ∷ hash ∷ []))
four_fields all a b d f more e = (ap are_valid_fields e, λ path version hash is. cc (sym e ∙ is))

pub returns-then-is_empty-2 : goal.returns-then-is_empty-2
returns-then-is_empty-2 c =
    let one = one_more c.cut_word-path.ensures.fields c.cut_word-path.ensures.word c.is_empty.ensures c.if-is_empty.false in
    let none = none_left _ c.cut_word-version.ensures.fields c.cut_word-version.ensures.word c.is_empty-2.ensures c.if-is_empty-2.true in
    one_field _ _ (after_one one none)

pub returns-then-is_empty-3 : goal.returns-then-is_empty-3
returns-then-is_empty-3 c =
    let one = one_more c.cut_word-path.ensures.fields c.cut_word-path.ensures.word c.is_empty.ensures c.if-is_empty.false in
    let two = one_more c.cut_word-version.ensures.fields c.cut_word-version.ensures.word c.is_empty-2.ensures c.if-is_empty-2.false in
    let none = none_left _ c.cut_word-hash.ensures.fields c.cut_word-hash.ensures.word c.is_empty-3.ensures c.if-is_empty-3.true in
    two_fields _ _ _ (after_one one (after_one two none))

pub returns-then-not-is_empty : goal.returns-then-not-is_empty
returns-then-not-is_empty c =
    let one = one_more c.cut_word-path.ensures.fields c.cut_word-path.ensures.word c.is_empty.ensures c.if-is_empty.false in
    let two = one_more c.cut_word-version.ensures.fields c.cut_word-version.ensures.word c.is_empty-2.ensures c.if-is_empty-2.false in
    let three = one_more c.cut_word-hash.ensures.fields c.cut_word-hash.ensures.word c.is_empty-3.ensures c.if-is_empty-3.false in
    let four = one_more c.cut_word-more.ensures.fields c.cut_word-more.ensures.word c.is_empty-4.ensures c.if-not-is_empty.true in
    four_fields _ _ _ _ _ _ (after_one one (after_one two (after_one three four)))

pub returns : goal.returns
returns c =
    let one = one_more c.cut_word-path.ensures.fields c.cut_word-path.ensures.word c.is_empty.ensures c.if-is_empty.false in
    let two = one_more c.cut_word-version.ensures.fields c.cut_word-version.ensures.word c.is_empty-2.ensures c.if-is_empty-2.false in
    let three = one_more c.cut_word-hash.ensures.fields c.cut_word-hash.ensures.word c.is_empty-3.ensures c.if-is_empty-3.false in
    let none = none_left _ c.cut_word-more.ensures.fields c.cut_word-more.ensures.word c.is_empty-4.ensures c.if-not-is_empty.false in
    rw (c.cut_word-path.ensures.word, c.cut_word-version.ensures.word, c.cut_word-hash.ensures.word)
    (after_one one (after_one two (after_one three none)))
