-- Counts of failures of a device: they don't fall, and a failure raises them unless they are at their greatest value.
use Rattle.std.proofs.Common.{◌≡◌, ◌∙◌, ◌<◌, ◌≤◌, ◌^◌, ◌⊎◌, inl, inr, ℕ, List, arith}
use Rattle.std.proofs.lemmas.Bool.{cases_lt}
use Rattle.gm_store_parts.specs.declared.fallback.proxy_list.Mark.{Mark}
use Rattle.gm_store_parts.specs.Steps.{Counts, HasCounted, Seen, counted_up}

-- a count doesn't fall
pub count_rises : (old new failures : ℕ) → new ≡ counted_up old failures → old < 2 ^ 64 → old ≤ new
count_rises old new failures grown small = omega arith

pub counted_rises : (may_find : ℕ → Seen → Type 0) (marks : List Mark) (old new : Counts) → HasCounted may_find marks old new
    → old.failures < 2 ^ 64 → old.failures ≤ new.failures
counted_rises may_find marks old new (looks, made, grown) small = count_rises old.failures new.failures _ grown.1 small

pub later_both : (a b c : ℕ) → a ≤ b → b ≤ c → a ≤ c
later_both a b c h k = omega arith

-- a failure after other requests
pub cause_later : (a b c m : ℕ) → a ≤ b → b ≤ c → (b < c) ⊎ (b ≡ m) → (a < c) ⊎ (a ≡ m)
cause_later a b c m h k (inl less) = inl (omega arith)
cause_later a b c m h k (inr most) = elim (cases_lt a m) [ inl less ↦ inl (omega arith) | inr more ↦ inr (omega arith) ]

-- two requests one after the other, of which each may have been refused
pub cause_both : {N : Type 0} (r s t : List N) (a b c m : ℕ) → a ≤ b → b ≤ c → (s ≡ r) ⊎ ((a < b) ⊎ (a ≡ m))
    → (t ≡ s) ⊎ ((b < c) ⊎ (b ≡ m)) → (t ≡ r) ⊎ ((a < c) ⊎ (a ≡ m))
cause_both r s t a b c m h k (inl same) (inl still) = inl (still ∙ same)
cause_both r s t a b c m h k (inl same) (inr cause) = inr (cause_later a b c m h k cause)
cause_both r s t a b c m h k (inr (inl less)) two = inr (inl (omega arith))
cause_both r s t a b c m h k (inr (inr most)) two = inr (inr most)
