-- If at most 65,536 modules are opened, the edges are those of a list.
use Rattle.std.proofs.Common.{◌≡◌, ◌∙◌, ◌⊎◌, ◌≤◌, ◌+◌, ◌↔◌, ◌||◌, ℕ, zero, suc, Bool, true, false, List, [], ◌∷◌, ◌++◌, length, map, Contains, ap, sym, refl, subst, inl, inr, arith, length-append}
use Rattle.std.specs.List.{list_any}
use Rattle.std.proofs.lemmas.List.Elements.{Contains-append_cases, Contains-append_left, Contains-append_right, Contains-push_cases}
use Rattle.std.proofs.lemmas.Map.Keys.{IsDistinct-push}
use Rattle.gm_name.specs.ModuleVersion.{ModuleVersion, pair_eq}
use Rattle.gm_name.specs.Private.ModuleVersion.{pair-same, pairs-equivalence}
use Rattle.gm_file.specs.Main.{without_excluded}
use Rattle.gm_graph_select.specs.declared.step.Edge.{Edge}
use Rattle.gm_graph_select.specs.declared.step.Step.{Step}
use Rattle.gm_graph_select.specs.declared.step.Step.TheVariants.{Main as FromMain, Of}
use Rattle.gm_graph_select.specs.Graph.{among, edge}
use Rattle.gm_graph_select.proofs.Ascending.{member_cases, member_head, member_tail, no_member}
use Rattle.gm_graph_select.proofs.Same.{AreSame}
use Rattle.gm_graph.specs.Run.{AreOpened, IsEdge, IsOpened, IsTop}
use Rattle.gm_graph_cache.specs.Sayings.{Requires, Run}
use Rattle.gm_graph_cache.proofs.Sayings.{required_of}
use Rattle.gm_graph_select.proofs.RankedLists.{from_mapped, in_mapped}
use Rattle.gm_name_table.proofs.Lists.{no_pairs}

-- at most 65,536 modules are opened
abbrev pub IsFew : Run → Type 0
IsFew run = (xs : List ModuleVersion) → AreOpened run xs → length xs ≤ 65536

in_or_out : (x : ModuleVersion) (all : List ModuleVersion) → Contains all x ⊎ (list_any (pair_eq x) all ≡ false)
in_or_out x [] = inr refl
in_or_out x (first ∷ all) = by_test _ refl (in_or_out x all)
  where
    by_test : (b : Bool) → pair_eq x first ≡ b → Contains all x ⊎ (list_any (pair_eq x) all ≡ false)
        → Contains (first ∷ all) x ⊎ (list_any (pair_eq x) (first ∷ all) ≡ false)
    by_test true e rest = inl (subst (λ (z : ModuleVersion). Contains (z ∷ all) x) (pair-same x first e) (member_head x all))
    by_test false e (inl there) = inl (member_tail first x all there)
    by_test false e (inr out) = inr (ap (λ (b : Bool). b || list_any (pair_eq x) all) e ∙ out)

module _ (run : Run) (few : IsFew run) where
  -- ---- the opened modules are those of a list

  -- the modules of the list are opened, and no others
  abbrev AreAll : List ModuleVersion → Type 0
  AreAll all = (x : ModuleVersion) → IsOpened run x ↔ Contains all x

  one_more : (all : List ModuleVersion) (x : ModuleVersion) → AreOpened run all → IsOpened run x → list_any (pair_eq x) all ≡ false
      → AreOpened run (all ++ x ∷ [])
  one_more all x are is out = record {
    once = IsDistinct-push pairs-equivalence _ x are.once out;
    each = λ y there. elim (Contains-push_cases _ x y there) [ inl before ↦ are.each y before | inr same ↦ subst (IsOpened run) same is ];
  }

  are_all : (all : List ModuleVersion) → AreOpened run all → ((x : ModuleVersion) → AreOpened run (all ++ x ∷ []) → ⊥) → AreAll all
  are_all all are full x = (
    (λ is. elim (in_or_out x _) [ inl there ↦ there | inr out ↦ absurd (full x (one_more all x are is out)) ]),
    are.each x,
  )

  -- Starting from a list of opened modules with room for `n` more: it can't be refuted that some list has exactly
  -- the opened modules.
  opened_from : (n : ℕ) (all : List ModuleVersion) → AreOpened run all → 65536 ≤ length all + n
      → ((whole : List ModuleVersion) → AreAll whole → ⊥) → ⊥
  opened_from zero all are long none = none all (are_all all are (λ x more.
      let size = few (all ++ x ∷ []) more in omega (arith, length-append all (x ∷ []), size, long)))
  opened_from (suc n) all are long none = none all (are_all _ are (λ x more.
      opened_from n (all ++ x ∷ []) more (omega (arith, length-append all (x ∷ []), long)) none))

  -- ---- the edges that leave them

  -- the step's file requires the module
  abbrev Leads : Step → ModuleVersion → Type 0
  Leads FromMain y = IsTop run y
  Leads (Of x) y = Requires run x y

  -- It can't be refuted that some list has what a step's file requires: if that of a module says something, it is one
  -- thing.
  required_listed : (s : Step) → ((ys : List ModuleVersion) → ((y : ModuleVersion) → Leads s y ↔ Contains ys y) → ⊥) → ⊥
  required_listed FromMain none = none (without_excluded run.main run.main.requirements) (λ y. ((λ top. top), (λ top. top)))
  required_listed (Of x) none = none [] (λ y. (
    (λ (file, says, there). absurd (none (without_excluded run.main file.requirements) (required_of _ x _ says))),
    (λ there. absurd (no_member y there)),
  ))

  -- an edge of one of these
  abbrev Leaves : List Step → Step → ModuleVersion → Type 0
  Leaves steps s y = Contains steps s × Leads s y

  leaving_more : (t : Step) (steps : List Step) (ys : List ModuleVersion) (edges : List Edge) → ((y : ModuleVersion) → Leads t y ↔ Contains ys y)
      → AreSame (among edges) (Leaves steps) → AreSame (among (map (edge t) ys ++ edges)) (Leaves (t ∷ steps))
  leaving_more t steps ys edges are same s y = (from, to)
    where
      from : Contains (map (edge t) ys ++ edges) (edge s y) → Leaves (t ∷ steps) s y
      from there = elim (Contains-append_cases _ _ _ there) [
        | inl own ↦ (let (z, inside, is) = from_mapped _ _ _ own in
            let leaves : Leaves (t ∷ steps) t z = (member_head t _, (are z).1 inside) in
            subst (λ e. Leaves (t ∷ steps) e.from e.to) is leaves)
        | inr other ↦ (let (behind, leads) = (same s y).0 other in (member_tail t s _ behind, leads))
      ]

      to : Leaves (t ∷ steps) s y → Contains (map (edge t) ys ++ edges) (edge s y)
      to (there, leads) = elim (member_cases t s _ there) [
        | inl is ↦ Contains-append_left _ _ _
            (subst (λ u. Contains (map (edge t) ys) (edge u y)) is
            (in_mapped _ _ y ((are y).0 (subst (λ u. Leads u y) (sym is) leads))))
        | inr behind ↦ Contains-append_right _ _ _ ((same s y).1 (behind, leads))
      ]

  leaving : (steps : List Step) → ((edges : List Edge) → AreSame (among edges) (Leaves steps) → ⊥) → ⊥
  leaving [] none = none [] (λ s y. ((λ there. absurd (no_member _ there)), (λ leaves. absurd (no_member s leaves.0))))
  leaving (t ∷ steps) none =
      leaving steps (λ edges same. required_listed t (λ ys are. none (map (edge t) ys ++ edges) (leaving_more t _ ys _ are same)))

  module_among : (all : List ModuleVersion) (x : ModuleVersion) → Contains (FromMain ∷ map Of all) (Of x) → Contains all x
  module_among all x there = elim (member_cases FromMain (Of x) (map Of all) there) [
    | inl never ↦ absurd (cc never)
    | inr behind ↦ (let (z, inside, is) = from_mapped Of all (Of x) behind in let same : z ≡ x = cc is in subst (Contains all) same inside)
  ]

  leaves_edge : (all : List ModuleVersion) → AreAll all → AreSame (Leaves (FromMain ∷ map Of all)) (IsEdge run)
  leaves_edge all are FromMain y = ((λ leaves. leaves.1), (λ top. (member_head FromMain (map Of all), top)))
  leaves_edge all are (Of x) y = (
    (λ (there, requires). ((are x).1 (module_among all x there), requires)),
    (λ (opens, requires). (member_tail FromMain (Of x) (map Of all) (in_mapped Of all x ((are x).0 opens)), requires)),
  )

  -- so it can't be refuted that the edges are those of a list
  pub edges_listed : ((edges : List Edge) → AreSame (among edges) (IsEdge run) → ⊥) → ⊥
  edges_listed none = opened_from 65536 [] (record { once = no_pairs; each = λ y there. absurd (no_member y there) }) (omega arith)
      (λ all are. leaving (FromMain ∷ map Of all) (λ edges same. none edges (λ s y. (
        (λ there. (leaves_edge all are s y).0 ((same s y).0 there)),
        (λ is. (same s y).1 ((leaves_edge all are s y).1 is)),
      ))))
