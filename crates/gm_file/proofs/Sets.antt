-- The set of excluded versions after one more line.
use Rattle.std.proofs.Common.{◌≡◌, ◌||◌, Bool, true, false, cond, List, [], ◌∷◌, ◌++◌, refl, sym, ◌∙◌}
use Rattle.std.proofs.lemmas.List.Folds.{list_any-append}
use Rattle.std.specs.BTreeSet as set
use Rattle.std.specs.List.{list_any}
use Rattle.gm_name.specs.ModuleVersion.{ModuleVersion, pair_cmp, pair_eq, pair_ties}

or-by : (b c d : Bool) → b ≡ d → cond b true c ≡ (c || (d || false))
or-by true true d e = refl
or-by true false true e = refl
or-by true false false e = cc e
or-by false true d e = refl
or-by false false true e = cc e
or-by false false false e = refl

-- the set after one more line
pub set-with : (old new : set.BTreeSet ModuleVersion) (lines : List ModuleVersion) (p : ModuleVersion)
    → ((q : ModuleVersion) → set.contains pair_cmp old q ≡ list_any (λ y. pair_eq y q) lines)
    → set.Updates pair_cmp old new p true
    → (q : ModuleVersion) → set.contains pair_cmp new q ≡ list_any (λ y. pair_eq y q) (lines ++ p ∷ [])
set-with old new lines p same updates q =
    updates.0 q ∙ rw (same q) (or-by _ (list_any (λ y. pair_eq y q) lines) _ (sym (pair_ties p q))
    ∙ sym (list_any-append (λ y. pair_eq y q) lines (p ∷ [])))
