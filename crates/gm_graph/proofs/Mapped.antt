-- Mapped lists, and the list of a map's entries.
use mathlib.Core.List.{map-map}
use Rattle.std.proofs.Common.{◌≡◌, ◌↔◌, ◌++◌, Bool, true, false, cond, List, [], ◌∷◌, map, All, Option, Some, Contains, ◌∙◌, sym, refl, arith, inl, inr, subst}
use Rattle.std.specs.Prelude.{AllPairs, IsSome}
use Rattle.std.specs.BTreeMap as tree
use Rattle.std.specs.declared.cmp.Ordering.TheVariants.{Less}
use Rattle.std.proofs.lemmas.List.{length-map, get_or-map}
use Rattle.std.proofs.lemmas.List.Elements.{All-contains, All-push, All-weaker, Contains-append_left, Contains-push}
use Rattle.std.proofs.lemmas.Option.{same_Some}
use Rattle.std.specs.Ordering.{is_eq}
use Rattle.std.proofs.lemmas.Map.Keys.{Less-from_sorted}
use Rattle.std.proofs.lemmas.Map.Views.{btree_map_get_iff}
use Rattle.std.proofs.lemmas.Bool.{cases_Bool}
use Rattle.gm_name.specs.ModuleVersion.{ModuleVersion, module_at, pair_cmp, pair_eq, pair_ties, pair_total}
use Rattle.gm_name.specs.Private.ModuleVersion.{pair-anti, pair-same, pair-self}
use Rattle.gm_graph_select.proofs.RankedLists.{from_mapped, in_mapped}
use Rattle.gm_graph.proofs.RunLemmas.{value_of}
use Rattle.gm_graph_files.specs.declared.class.Class.{Class}
use Rattle.gm_graph.specs.declared.fault.Fault.{Fault}
use Rattle.gm_graph.specs.declared.findings.NumberedFault.{NumberedFault}
use Rattle.gm_graph.specs.Private.Findings.{numbered}
use Rattle.gm_graph.specs.Private.Gathering.{AreFaultsOf, HasFaultOf, fault}

abbrev entry_fault : ModuleVersion × Class → Fault
entry_fault e = fault e.0 e.1

-- A map has a fault of the vertex with this number.
abbrev HasEntry : List ModuleVersion → tree.BTreeMap ModuleVersion Class → NumberedFault → Type 0
HasEntry modules faults one = IsSome (tree.get pair_cmp faults (module_at modules one.number))

module _ (faults : tree.BTreeMap ModuleVersion Class) (ordered : tree.IsOrdered pair_cmp faults) where
  -- A fault is in the list of a map's faults exactly if the map has it.
  pub fault_listed : (one : Fault) → Contains (map entry_fault faults.entries) one ↔ (tree.get pair_cmp faults one.vertex ≡ Some one.class)
  fault_listed one = (
    (λ h. let ((vertex, class), there, is) = from_mapped entry_fault faults.entries one h in
        rw⁻¹ is ((btree_map_get_iff pair_total pair-anti faults ordered vertex class).1 there)),
    (λ h. in_mapped entry_fault faults.entries (one.vertex, one.class) ((btree_map_get_iff pair_total pair-anti faults ordered one.vertex one.class).0 h)),
  )

  pub faults_ascend : AllPairs (λ (a b : Fault). pair_cmp a.vertex b.vertex ≡ Less) (map entry_fault faults.entries)
  faults_ascend i j d lt below =
      let listed = map entry_fault faults.entries in
      let vertex : Fault → ModuleVersion = λ one. one.vertex in
      let keys : map vertex listed ≡ map (λ (e : ModuleVersion × Class). e.0) faults.entries = map-map vertex entry_fault faults.entries in
      rw (← get_or-map vertex listed i d d.vertex (omega arith), ← get_or-map vertex listed j d d.vertex below)
      (Less-from_sorted pair_cmp (map vertex listed) i j d.vertex (rw keys ordered) lt (rw length-map below))

  -- If each of the vertices has a fault in the map, and the map has no others, the list has these faults.
  pub faults_listed : (modules : List ModuleVersion) (numbers : List NumberedFault)
      → ((x : ModuleVersion) (class : Class) → tree.get pair_cmp faults x ≡ Some class → HasFaultOf modules numbers x class)
      → All (HasEntry modules faults) numbers
      → AreFaultsOf modules numbers (map entry_fault faults.entries)
  faults_listed modules numbers only each = record {
    ascending = faults_ascend;
    only = λ one h. only one.vertex one.class ((fault_listed one).0 h);
    each = λ number class h.
        let x = module_at modules number in
        let (other, there) = value_of (tree.get pair_cmp faults x) (All-contains (HasEntry modules faults) numbers (numbered number class) each h) in
        (other, (fault_listed (fault x other)).1 there);
  }

-- One more fault was put into a map.
module _ (modules : List ModuleVersion) (old new : tree.BTreeMap ModuleVersion Class) (v : ModuleVersion) (one : NumberedFault)
    (at : v ≡ module_at modules one.number) (puts : (q : ModuleVersion) → tree.get pair_cmp new q
    ≡ cond (is_eq (pair_cmp v q)) (Some one.class) (tree.get pair_cmp old q))
    (before after : List NumberedFault) (is : after ≡ before ++ one ∷ []) where
  got : (q : ModuleVersion) → tree.get pair_cmp new q ≡ cond (pair_eq v q) (Some one.class) (tree.get pair_cmp old q)
  got q = puts q ∙ rw (← pair_ties v q)

  pub only_more : ((x : ModuleVersion) (c : Class) → tree.get pair_cmp old x ≡ Some c → HasFaultOf modules before x c)
      → (x : ModuleVersion) (class : Class) → tree.get pair_cmp new x ≡ Some class → HasFaultOf modules after x class
  only_more only x class e = elim (cases_Bool (pair_eq v x)) [
    | inl same ↦
        (let class_is = same_Some one.class class (rw (got x, same) at e) in
        (one.number, rw (is, ← class_is) (Contains-push before one), sym at ∙ pair-same v x same))
    | inr differs ↦
        (let (number, there, of) = only x class (rw (got x, differs) at e) in (
          number,
          subst (λ (fs : List NumberedFault). Contains fs (numbered number class)) (sym is)
              (Contains-append_left before (one ∷ []) (numbered number class) there),
          of,
        ))
  ]

  some_still : (b : Bool) (o : Option Class) → IsSome o → IsSome (cond b (Some one.class) o)
  some_still true o some = refl
  some_still false o some = some

  pub each_more : All (HasEntry modules old) before → All (HasEntry modules new) after
  each_more each = rw is
      (All-push (HasEntry modules new) before one
      (All-weaker (HasEntry modules old) (HasEntry modules new)
      (λ f some. let x = module_at modules f.number in rw (got x) (some_still (pair_eq v x) (tree.get pair_cmp old x) some)) before each)
      (rw (← at, got v, pair-self v)))
