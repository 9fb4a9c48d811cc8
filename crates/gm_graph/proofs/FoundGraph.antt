-- What was found makes the edges and the faults of the graph.
use Rattle.std.proofs.Common.{◌≡◌, ◌∙◌, ◌↔◌, ◌<◌, ◌+◌, ℕ, suc, List, Option, Some, Result, Ok, Err, All, Contains, ap, arith, get_or, inl, inr, length, refl, subst, sym}
use Rattle.std.proofs.lemmas.List.{get_or_default}
use Rattle.std.proofs.lemmas.Slice.{between_from_start}
use Rattle.gm_name.specs.ModuleVersion.{ModuleVersion, module_at}
use Rattle.gm_name_table.specs.Listed.{modules_at, modules_of}
use Rattle.gm_name_table.proofs.Listed.{part_as}
use Rattle.gm_file.specs.Fields.{Dependency}
use Rattle.gm_file.specs.Main.{without_excluded}
use Rattle.gm_graph_files.proofs.Ordered.{own_spans}
use Rattle.gm_graph_cache.specs.declared.cache.Cache.{Cache}
use Rattle.gm_graph_files.specs.declared.class.Class.{Class}
use Rattle.gm_graph_cache.specs.declared.cache.parts.CacheParts.{CacheParts}
use Rattle.gm_graph.specs.declared.fault.Fault.{Fault}
use Rattle.gm_graph.specs.declared.findings.Findings.{Findings}
use Rattle.gm_graph.specs.declared.worklist.Worklist.{Worklist}
use Rattle.gm_graph_cache.specs.Cached.{ArePartsOf, module_numbered}
use Rattle.gm_graph.specs.Private.Findings.{WasVisited, place_at}
use Rattle.gm_graph.specs.Private.Gathering.{AreFaultsOf, AreFilePlaces, HasFaultOf, fault, gathered_sources, steps_by}
use Rattle.gm_graph.specs.Run.{AreFaults, IsEdge, IsFault, IsOpened}
use Rattle.gm_graph_cache.specs.Sayings.{Requires, Run, Says}
use Rattle.gm_graph.specs.Private.Visiting.{IsOpenedIn}
use Rattle.gm_graph_select.specs.declared.adjacency.Source.{Source}
use Rattle.gm_graph_select.specs.declared.step.Edge.{Edge}
use Rattle.gm_graph_select.specs.declared.step.Step.{Step}
use Rattle.gm_graph_select.specs.declared.step.Step.TheVariants.{Main as FromMain, Of}
use Rattle.gm_graph_select.specs.Adjacency.{StepEdges, edges_of, left_by, list_at, sources_of as steps_left, step_edges, step_with}
use Rattle.gm_graph_select.specs.Graph.{edge}
use Rattle.gm_graph.proofs.Gathered.{each_source, file_source, lists_by, main_source, own_list, source_there}
use Rattle.gm_graph.proofs.RunLemmas.{value_of}
use Rattle.gm_graph_files.proofs.SharedLists.{own_there}
use Rattle.gm_graph_select.proofs.RankedLists.{edges_each, edges_only, from_mapped, in_mapped}
use Rattle.gm_graph_cache.proofs.Sayings.{class_same, file_same, not_both}
use Rattle.gm_graph_files.specs.Turns.{turn}
use Rattle.gm_graph.proofs.DoneTurns.{opened_from, takes_some}
use Rattle.gm_graph.proofs.FoundFiles.{found_turn}

-- ---- what was found, by the parts of the cache

module _ {run : Run} {cache : Cache} {worklist : Worklist} {findings : Findings} (opened : IsOpenedIn run cache worklist findings)
    {parts : CacheParts} (are : ArePartsOf cache parts) where
  abbrev places : List (Option ℕ)
  places = findings.places.items

  abbrev modules : List ModuleVersion
  modules = parts.modules.items

  abbrev steps : List StepEdges
  steps = steps_by parts places

  abbrev lists : List (List ℕ)
  lists = lists_by parts

  -- The numbers are those of modules, and the places those of files.
  pub found_places : AreFilePlaces parts places
  found_places number place e =
      let (below, _, sound) = opened.found.files number place e in rw (are.modules, are.files) (below, sound.within)

  pub found_faults : All (λ one. one.number < length modules) findings.faults.items
  found_faults k d below =
      let one = get_or findings.faults.items k d in
      rw are.modules (opened.found.faults one.number one.class (k, below, get_or_default findings.faults.items k one d below)).0

  number_module : (number : ℕ) → module_at modules number ≡ module_numbered cache number
  number_module number = rw are.modules

  -- Something was found of each opened vertex.
  opened_found : (x : ModuleVersion) → IsOpened run x → (number : ℕ) × WasVisited findings number × (module_numbered cache number ≡ x)
  opened_found x is = let (d, taken) = takes_some run x is in opened.found.each (turn x d) ((opened.turns.each x d).1 taken)

  -- ---- the lists

  main_list : modules_at modules (list_at lists 0) ≡ without_excluded run.main run.main.requirements
  main_list =
      part_as _ _ _ _ 0 parts.first are.modules are.numbers
      ∙ between_from_start (modules_of cache.modules) parts.first
      ∙ rw (are.first, ← opened.main_is) cache.consistent.first_are

  -- The list at the place that was found is what the vertex requires.
  file_list : (number place : ℕ) (e : place_at places number ≡ Some place)
      → modules_at modules (list_at lists (place + 1)) ≡ without_excluded run.main (opened.found.files number place e).2.file.requirements
  file_list number place e =
      let (below, _, sound) = opened.found.files number place e in
      let own = own_there cache.files.files.items place sound.span sound.own in
      let next : place + 1 ≡ suc place = omega arith in
      rw next
      (ap (modules_at modules) (own_list parts.numbers.items parts.first (own_spans parts.files.items) place sound.span (rw are.files own))
      ∙ part_as _ _ _ _ sound.span.start sound.span.end are.modules are.numbers
      ∙ opened.lists (module_numbered cache number) place sound)

  -- So its file says.
  file_says : (number place : ℕ) (e : place_at places number ≡ Some place)
      → Says run (module_at modules number) (Ok (opened.found.files number place e).2.file)
  file_says number place e = rw are.modules (opened.found.files number place e).2.says

  -- Each opened vertex says something.
  pub known : (x : ModuleVersion) → IsOpened run x → (said : Result Dependency Class) × Says run x said
  known x is = let (number, w, same) = opened_found x is in rw⁻¹ same (by number w)
    where
      by : (number : ℕ) → WasVisited findings number → (said : Result Dependency Class) × Says run (module_numbered cache number) said
      by number (inl some) =
          let (place, e) = value_of (place_at places number) some in
          let sound = (opened.found.files number place e).2 in (Ok sound.file, sound.says)
      by number (inr (class, h)) = (Err class, (opened.found.faults number class h).2)

  -- ---- the edges

  is_opened : (number : ℕ) → WasVisited findings number → IsOpened run (module_at modules number)
  is_opened number w = let (_, has) = found_turn opened.found number w in rw are.modules (opened_from run _ has.0 ((opened.turns.each _ has.0).0 has.1))

  has_place : (number place : ℕ) → place_at places number ≡ Some place → WasVisited findings number
  has_place number place e = inl (rw e)

  abbrev LeadsOn : Source → Type 0
  LeadsOn one = (y : ModuleVersion) → Contains (modules_at modules (list_at lists one.list)) y → IsEdge run (step_with modules one.from) y

  source_edge : (one : Source) → Contains (gathered_sources places) one → LeadsOn one
  source_edge = each_source LeadsOn places (λ y h. rw main_list at h) (λ k place e y h. (
    is_opened k (has_place k place e),
    ((opened.found.files k place e).2.file, file_says k place e, rw (file_list k place e) at h),
  ))

  listed_edge : (one : Source) (y : ModuleVersion) → Contains (gathered_sources places) one
      → Contains (modules_at modules (list_at lists one.list)) y → Contains (edges_of modules steps) (edge (step_with modules one.from) y)
  listed_edge one y there h =
      let (number, held, is) = from_mapped (module_at modules) (list_at lists one.list) y h in
      rw⁻¹ is
      (edges_each modules steps (step_edges lists one) number (in_mapped (step_edges lists) (gathered_sources places) one there) held)

  found_edge : (number : ℕ) (y : ModuleVersion) → WasVisited findings number → Requires run (module_at modules number) y
      → Contains (edges_of modules steps) (edge (Of (module_at modules number)) y)
  found_edge number y (inl some) r =
      let (place, e) = value_of (place_at places number) some in
      let same = file_same r.1 (file_says number place e) in
      listed_edge (file_source number place) y (source_there places number place e) (rw (file_list number place e) (rw⁻¹ same r.2))
  found_edge number y (inr f) r = absurd (not_both (opened.found.faults number f.0 f.1).2 (rw are.modules at r.1))

  complete : (s : Step) (y : ModuleVersion) → IsEdge run s y → Contains (edges_of modules steps) (edge s y)
  complete FromMain y t = listed_edge main_source y (0, omega arith, refl) (rw main_list t)
  complete (Of x) y e =
      let (number, w, is) = opened_found x e.0 in
      let same = number_module number ∙ is in
      rw⁻¹ same (found_edge number y w (rw same e.1))

  only : (e : Edge) → Contains (edges_of modules steps) e → IsEdge run e.from e.to
  only e h =
      let (step, left, number, held, same) = edges_only modules steps e h in
      let (source, listed, is) = from_mapped (step_edges lists) (gathered_sources places) step left in
      rw⁻¹ same
      (subst (λ (s : StepEdges). IsEdge run (left_by modules s) (module_at modules number)) is
      (source_edge source listed (module_at modules number)
      (in_mapped (module_at modules) (list_at lists source.list) number (subst (λ (s : StepEdges). Contains s.to number) (sym is) held))))

  -- The edges are exactly those of the graph.
  pub edges_exactly : (e : Edge) → Contains (edges_of modules steps) e ↔ IsEdge run e.from e.to
  edges_exactly e = (only e, complete e.from e.to)

  -- Each step that edges leave, but the main module, is opened.
  pub sources_opened : (x : ModuleVersion) → Contains (steps_left modules steps) (Of x) → IsOpened run x
  sources_opened x h =
      let (step, there, is) = from_mapped (left_by modules) steps (Of x) h in
      let (source, listed, same) = from_mapped (step_edges lists) (gathered_sources places) step there in
      each_source (λ one. step_with modules one.from ≡ Of x → IsOpened run x) places (λ (e : FromMain ≡ Of x). absurd (cc e))
      (λ k place found (e : Of (module_at modules k) ≡ Of x). let at : module_at modules k ≡ x = cc e in rw⁻¹ at (is_opened k (has_place k place found)))
      source listed (ap (left_by modules) same ∙ is)

  -- ---- the faults

  fault_is : (x : ModuleVersion) (class : Class) → HasFaultOf modules findings.faults.items x class → IsFault run (fault x class)
  fault_is x class (number, h, is) =
      rw⁻¹ is (is_opened number (inr (class, h)), rw are.modules (opened.found.faults number class h).2)

  -- The faults are exactly those of the opened vertices.
  pub faults_exactly : (list : List Fault) → AreFaultsOf modules findings.faults.items list → AreFaults run list
  faults_exactly list of = record {
    ascending = of.ascending;
    each = λ one. (
      (λ h. fault_is one.vertex one.class (of.only one h)),
      (λ is. let (number, w, at) = opened_found one.vertex is.0 in listed one is.1 number w (number_module number ∙ at)),
    );
  }
    where
      listed : (one : Fault) → Says run one.vertex (Err one.class) → (number : ℕ) → WasVisited findings number
          → module_at modules number ≡ one.vertex → Contains list one
      listed one says number (inl some) same =
          let (place, e) = value_of (place_at places number) some in absurd (not_both says (rw same at (file_says number place e)))
      listed one says number (inr f) same =
          let (other, there) = of.each number f.0 f.1 in
          let classes = class_same says (rw same at (fault_is (module_at modules number) other (of.only (fault (module_at modules number) other) there)).1) in
          rw (same, ← classes) at there
