-- What some definitions mean, searched for and not taken by place: another form that says the same is proved, too.
use Rattle.std.proofs.Common.{◌≡◌, ◌∙◌, ◌⊎◌, Bool, true, false, List, ◌∷◌, Some, inl, inr, refl, sym}
use Rattle.std.specs.Ordering.{is_gt}
use Rattle.std.specs.declared.cmp.Ordering.{Ordering}
use Rattle.std.specs.declared.cmp.Ordering.TheVariants.{Less, Equal, Greater}
use Rattle.std.proofs.lemmas.Bool.{false≢true}
use Rattle.std.proofs.lemmas.Option.{same_Some}
use Rattle.page.specs.Asked.{Name, Reply, answer_in, same_name}
use Rattle.page.specs.Graph.{Edges, IsEdgeEnd}
use Rattle.page.specs.ModuleVersion.{ModuleVersion}
use Rattle.page.specs.Types.{Step}

-- ---- answers

ruleset either = (inl, inr)

answer_of : (pair : Name × Reply) (pairs : List (Name × Reply)) (name : Name) (is : Bool) → same_name name pair.0 ≡ is
    → (answer_in (pair ∷ pairs) name ≡ Some pair.1) ⊎ (answer_in (pair ∷ pairs) name ≡ answer_in pairs name)
answer_of pair pairs name true is = rw is (search either)
answer_of pair pairs name false is = rw is (search either)

-- it is the first one, or one of the others
pub answer_is : (pair : Name × Reply) (pairs : List (Name × Reply)) (name : Name) (reply : Reply) → answer_in (pair ∷ pairs) name ≡ Some reply
    → (pair.1 ≡ reply) ⊎ (answer_in pairs name ≡ Some reply)
answer_is pair pairs name reply at = elim (answer_of pair pairs name (same_name name pair.0) refl) [
  | inl own ↦ inl (same_Some pair.1 reply (sym own ∙ at))
  | inr others ↦ inr (sym others ∙ at)
]

-- ---- edges

pub end_of : (edges : Edges) (step : Step) (x : ModuleVersion) → edges step x → IsEdgeEnd edges x
end_of edges step x leads = search

pub edge_to : (edges : Edges) (x : ModuleVersion) → IsEdgeEnd edges x → (step : Step) × edges step x
edge_to edges x is = (is.0, assumption)

-- ---- orders

-- what is not greater, said in either way
pub not_greater : (o : Ordering) → is_gt o ≡ false → o ≡ Greater → ⊥
not_greater Less is e = cc e
not_greater Equal is e = cc e
not_greater Greater is e = false≢true (sym is)

pub not_gt : (o : Ordering) → (o ≡ Greater → ⊥) → is_gt o ≡ false
not_gt Less differs = refl
not_gt Equal differs = refl
not_gt Greater differs = absurd (differs refl)

pub ruleset no_greater = (not_greater, not_gt)
