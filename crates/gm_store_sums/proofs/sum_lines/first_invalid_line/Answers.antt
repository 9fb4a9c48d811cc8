use Rattle.std.proofs.Common.{◌≡◌, ◌<◌, ◌≤◌, ℕ, not, cond, length, Option, Some, None, rules, refl, inl, inr, ap, ◌∙◌}
use borrow.Author.Tests.{tests}
use Rattle.std.proofs.lemmas.Bool.{cases_lt, le-ltb, lt-ltb}
use Rattle.std.proofs.lemmas.Iterator.Search.{position_from_yields_List}
use Rattle.std.proofs.lemmas.Iterator.Splits.{YieldsList-from_slice_split}
use Rattle.std.specs.Option.{MatchOption}
use Rattle.std.specs.Prelude.{nat_lt}
use Rattle.gm_name.specs.Lines.{fields, is_line_end, lines}
use Rattle.gm_store_sums.specs.Sums.{are_valid_fields, lines_before_invalid}
use Rattle.gm_store_sums.proofs.sum_lines.first_invalid_line.Goals as goal

told : (n all : ℕ) (r : Option ℕ) → r ≡ cond (nat_lt n all) (Some n) None → MatchOption r (all ≤ n) (λ before. (before ≡ n) × (before < all))
told n all r e = elim (cases_lt n all) [
  | inl less ↦ rw (e ∙ ap (λ b. cond b (Some n) None) (lt-ltb n all less)) (refl, less)
  | inr more ↦ rw (e ∙ ap (λ b. cond b (Some n) None) (le-ltb n all more)) more
]

pub returns-clause-found : goal.returns-clause-found
returns-clause-found c =
    told (lines_before_invalid c.args.text.now) (length (lines c.args.text.now)) c.position.result
    (position_from_yields_List (λ line. not (are_valid_fields (fields line))) _ _ _ c.position.ensures.ran
    (YieldsList-from_slice_split _ is_line_end c.args.text.now c.split.ensures.rest c.split.ensures.done
    c.split.ensures.closure (λ x r q k. search (rules, tests)))
    (λ x b q k. search (rules, tests)))
