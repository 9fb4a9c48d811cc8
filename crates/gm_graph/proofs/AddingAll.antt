-- Adding several turns.
use Rattle.std.proofs.Common.{◌+◌, ◌<◌, ℕ, List, [], ◌∷◌, ◌++◌, length, map, take, get_or, inl, inr}
use Rattle.std.proofs.lemmas.List.{get_or_default, map-append, map_more, take-append-drop}
use Rattle.std.proofs.lemmas.List.Elements.{Contains-append_left, Contains-append_right, Contains-append_cases}
use Rattle.gm_name.specs.ModuleVersion.{ModuleVersion, module_at}
use Rattle.gm_name_table.proofs.Listed.{begins_after}
use Rattle.gm_graph_files.specs.declared.depth.Turn.{Turn}
use Rattle.gm_graph_files.specs.declared.depth.Depth.{Depth}
use Rattle.gm_graph.proofs.Adding.{only_one, overflow_later}
use Rattle.gm_graph_select.proofs.RankedLists.{in_mapped}
use Rattle.gm_graph.specs.Private.Turns.{AddsAll, OverflowsWith}

-- first these, then those
adds_both : {old mid new : List Turn} {xs ys : List ModuleVersion} {d : Depth} → AddsAll old mid xs d → AddsAll mid new ys d
    → AddsAll old new (xs ++ ys) d
adds_both {old} {mid} {new} {xs} {ys} first then' = record {
  extends = begins_after old mid new first.extends then'.extends;
  each = λ z c. elim (Contains-append_cases xs ys z c) [
    | inl in_xs ↦ rw then'.extends.1 (Contains-append_left mid _ _ (first.each z in_xs))
    | inr in_ys ↦ then'.each z in_ys
  ];
  only = λ one c. elim (then'.only one c) [
    | inl in_mid ↦ elim (first.only one in_mid) [
      | inl in_old ↦ inl in_old
      | inr found ↦ inr (found.0, Contains-append_left xs ys found.0 found.1, found.2)
    ]
    | inr found ↦ inr (found.0, Contains-append_right xs ys found.0 found.1, found.2)
  ];
}

-- The turns of the modules before this number were added.
module _ (modules : List ModuleVersion) {old mid : List Turn} (numbers : List ℕ) (i : ℕ) (d : Depth) (below : i < length numbers)
    (adds : AddsAll old mid (map (module_at modules) (take i numbers)) d) where
  -- So was the next one.
  pub adds_number : {new : List Turn} → AddsAll mid new (module_at modules (get_or numbers i 0) ∷ []) d
      → AddsAll old new (map (module_at modules) (take (i + 1) numbers)) d
  adds_number one = rw (map_more (module_at modules) numbers i 0 below) (adds_both adds one)

  -- The next one is one too many.
  pub overflow_at : OverflowsWith mid (module_at modules (get_or numbers i 0) ∷ []) → OverflowsWith old (map (module_at modules) numbers)
  overflow_at over = overflow_later (module_at modules (get_or numbers i 0) ∷ []) _ adds
      (λ y h. rw⁻¹ (take-append-drop i numbers) (rw map-append (Contains-append_left _ _ _ h)))
      (λ y h. rw⁻¹ (only_one h)
      (in_mapped (module_at modules) numbers (get_or numbers i 0) (i, below, get_or_default numbers i (get_or numbers i 0) 0 below)))
      over
