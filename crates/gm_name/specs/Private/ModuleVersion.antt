-- Modules at versions are equal, and tie in their order, only if they are the same.
use Rattle.std.proofs.Common.{◌≡◌, ◌∙◌, ℕ, true, List, nat_eq, ap, refl, subst, sym}
use Rattle.std.proofs.lemmas.Bool.{and_parts}
use Rattle.std.specs.Bool.{Decides}
use Rattle.std.specs.Cmp.{IsEquivalence, decided}
use Rattle.std.specs.Cmp.Lexicographic.{nat_list_eq_equiv, pointwise, same_text}
use Rattle.std.specs.Ordering.{is_eq}
use Rattle.std.specs.declared.cmp.Ordering.TheVariants.{Equal}
use Rattle.gm_name.specs.ModuleVersion.{ModuleVersion, pair_cmp, pair_eq, pair_ties}

-- Modules are equal, and tie, only if they are the same.
pub pair-self : (a : ModuleVersion) → pair_eq a a ≡ true
pair-self a = rw (nat_list_eq_equiv.refl a.0, nat_list_eq_equiv.refl a.1) refl

pub pair-same : (a b : ModuleVersion) → pair_eq a b ≡ true → a ≡ b
pair-same a b e =
    let p = and_parts (pointwise nat_eq a.0 b.0) (pointwise nat_eq a.1 b.1) e in
    ap (λ (x : List ℕ). (x, a.1)) (same_text a.0 b.0 (sym p.0))
    ∙ ap (λ (x : List ℕ). (b.0, x)) (same_text a.1 b.1 (sym p.1))

pub pair_eq-Decides : (a b : ModuleVersion) → Decides (pair_eq a b) (a ≡ b)
pair_eq-Decides a b = (pair-same a b, λ same. subst (λ (x : ModuleVersion). pair_eq a x ≡ true) same (pair-self a))

pub pair-tie : (a b : ModuleVersion) → Decides (is_eq (pair_cmp a b)) (a ≡ b)
pair-tie a b = (
  λ tie. (pair_eq-Decides a b).0 (pair_ties a b ∙ tie),
  λ same. sym (pair_ties a b) ∙ (pair_eq-Decides a b).1 same,
)

pub pair-anti : (a b : ModuleVersion) → pair_cmp a b ≡ Equal → a ≡ b
pair-anti a b e = (pair-tie a b).0 (ap is_eq e)

pub pairs-equivalence : IsEquivalence pair_eq
pairs-equivalence = decided pair_eq pair_eq-Decides
