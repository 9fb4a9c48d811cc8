use Rattle.std.proofs.Common.{◌≡◌, ◌∙◌, ◌==◌, ◌∷◌, ℕ, List, [], arith, false, inl, inr, length, lit<, nat_lt, refl, sym}
use Rattle.std.proofs.lemmas.Bool.{cases_Bool}
use Rattle.std.proofs.lemmas.Bool.Decides.{nat_tests}
use Rattle.std.proofs.lemmas.Str.Pattern.{split_once_first}
use Rattle.std.specs.List.{position_or_len}
use Rattle.gm_operation.specs.Operations.{has_byte}
use Rattle.gomod_words.specs.Dashed.{is_operation}
use Rattle.gomod_words.proofs.dashed.is_operation.Goals as goal

-- a text has a byte if and only if the position of the first one is in range
any_position : (b : ℕ) (text : List ℕ) → has_byte b text ≡ nat_lt (position_or_len (λ c. c == b) text) (length text)
any_position b [] = refl
any_position b (x ∷ text) = elim (cases_Bool (x == b)) [
  | inl holds ↦ rw holds (grind (arith, nat_tests))
  | inr fails ↦ let rest = any_position b text in rw (fails, rest) (grind (arith, nat_tests))
]

-- a text without `=` is no operation
no_equals : (text : List ℕ) → position_or_len (λ c. c == 61) text ≡ length text → is_operation text ≡ false
no_equals text none =
    let lacks : has_byte 61 text ≡ false = any_position 61 text
    ∙ (let past : nat_lt (position_or_len (λ c. c == 61) text) (length text) ≡ false = grind (arith, nat_tests) in past) in
    rw lacks refl

pub returns-in-None : goal.returns-in-None
returns-in-None c =
    let cases = split_once_first 61 c.args.text.now c.split_once.result c.split_once.ensures.cases (lit< tt) in
    let none = rw c.in-None.is at cases in
    sym (no_equals c.args.text.now none)
