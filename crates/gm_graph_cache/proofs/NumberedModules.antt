-- The numbers of modules: distinct ones, and those of a list that grows at its end.
use Rattle.std.proofs.Common.{◌≡◌, ◌∙◌, ◌<◌, [], ℕ, List, arith, inl, inr, length, sym, ◌++◌, ap, length-append}
use Rattle.std.specs.List.{IsDistinct}
use Rattle.std.proofs.lemmas.Bool.{cases_lt, false≢true}
use Rattle.std.proofs.lemmas.Map.Keys.{apart_from_distinct}
use Rattle.gm_name.specs.Private.ModuleVersion.{pair-self}
use Rattle.gm_name.specs.ModuleVersion.{ModuleVersion, module_at, pair_eq}
use Rattle.gm_name_table.specs.Listed.{BeginsWith}
use Rattle.std.proofs.lemmas.List.{get_or_append_left}

module _ (modules : List ModuleVersion) (distinct : IsDistinct pair_eq modules) where
  apart : (n m : ℕ) → n < m → m < length modules → module_at modules n ≡ module_at modules m → ⊥
  apart n m lt below same = false≢true (sym (apart_from_distinct pair_eq modules n m ([], []) distinct lt below) ∙ rw (same, pair-self (module_at modules m)))

  -- A module has one number.
  pub number_same : (n m : ℕ) → n < length modules → m < length modules → module_at modules n ≡ module_at modules m → n ≡ m
  number_same n m below inside same = elim (cases_lt n m) [
    | inl lt ↦ absurd (apart n m lt inside same)
    | inr ge ↦ elim (cases_lt m n) [ inl lt ↦ absurd (apart m n lt below (sym same)) | inr le ↦ omega (arith, ge, le) ]
  ]

-- ---- a list that grows at its end

pub vertex_stays : (modules more : List ModuleVersion) (number : ℕ) → number < length modules
    → module_at (modules ++ more) number ≡ module_at modules number
vertex_stays modules more number below = get_or_append_left modules more ([], []) number below

-- A module has its number still, and the number is one of a module.
pub number_stays : (old new : List ModuleVersion) (number : ℕ) → BeginsWith old new → number < length old
    → module_at new number ≡ module_at old number
number_stays old new number begins below =
    ap (λ (modules : List ModuleVersion). module_at modules number) begins.1 ∙ vertex_stays old begins.0 number below

pub number_below : (old new : List ModuleVersion) (number : ℕ) → BeginsWith old new → number < length old
    → number < length new
number_below old new number begins below = omega (arith, below, ap length begins.1, length-append old begins.0)
