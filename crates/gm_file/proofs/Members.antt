-- Membership in lists of modules.
use Rattle.std.proofs.Common.{◌≡◌, ◌↔◌, Bool, List, IsTrue, sym, ◌∙◌}
use Rattle.std.proofs.lemmas.List.Folds.{Any-from_list_any, list_any-from_Any}
use Rattle.std.specs.List.{Contains, list_any}
use Rattle.gm_name.specs.ModuleVersion.{ModuleVersion, pair_eq}
use Rattle.gm_name.specs.Private.ModuleVersion.{pair-same, pair-self}

-- the meaning of the result of `contains`
pub contains-tells : (q : ModuleVersion) (xs : List ModuleVersion) (b : Bool) → b ≡ list_any (λ y. pair_eq y q) xs → IsTrue b ↔ Contains xs q
contains-tells q xs b e = (
  λ t.
      let a = Any-from_list_any _ _ (sym e ∙ t) in
      (a.0, a.2, rw (pair-same a.1 q a.4) at a.3),
  λ c. e ∙ list_any-from_Any _ _ (c.0, q, c.1, c.2, pair-self q),
)
