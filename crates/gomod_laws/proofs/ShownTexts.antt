-- What a query prints determines the main module's path, and the rows, edges and steps of its run.
use Rattle.std.proofs.Common.{◌≡◌, ◌∙◌, ◌∷◌, ◌++◌, ℕ, List, [], Option, Contains, ap, append_assoc, arith, codes, inl, inr, length, length-append, map, refl, subst, sym}
use Rattle.std.proofs.lemmas.List.Elements.{Contains-push_cases}
use Rattle.gm_name.specs.Path.{IsPath}
use Rattle.gm_name.specs.ModuleVersion.{ModuleVersion}
use Rattle.gm_file.specs.Main.{Main, replacement_in}
use Rattle.gm_graph_select.specs.declared.step.Edge.{Edge}
use Rattle.gm_graph_select.specs.declared.step.Step.{Step}
use Rattle.gm_graph_select.specs.declared.step.Step.TheVariants.{Main as FromMain, Of}
use Rattle.gm_graph_select.specs.Graph.{Edges, edge}
use Rattle.gm_graph_select.specs.BuildList.{entry_of, main_entry}
use Rattle.gm_graph.specs.Entries.{Entry}
use Rattle.gm_graph.specs.Run.{AreEdges, AreRows, IsEdge}
use Rattle.gm_graph_cache.specs.Sayings.{run_of}
use Rattle.gm_graph_select.proofs.Ascending.{member_head, one_member}
use Rattle.gm_store_sums.specs.Sums.{Sums}
use Rattle.gomod_texts.specs.Queries.{AreFound, Given}
use Rattle.gomod_texts.specs.QueryLaws.{IsWalk, further, here}
use Rattle.gomod_texts.specs.Outcome.{text_outcome}
use Rattle.gomod_texts.specs.PrintedLines.{AreProperEdges, AreProperRows, AreProperSteps, IsProperStep}
use Rattle.gomod_texts.specs.ChainQuery.{chain_text}
use Rattle.gomod_texts.specs.GraphQuery.{graph_text}
use Rattle.gomod_texts.specs.ListQuery.{list_text}
use Rattle.gomod_texts.specs.LineParts.{step_text, vertex_text}
use Rattle.gomod_run.proofs.GraphLines.{text_says_edges, text_says_steps, vertex_lacks}
use Rattle.gomod_run.proofs.ListLines.{Lacks, cut_at, has_it, path_has_no_blank, text_says_rows}
use Rattle.gomod_texts.proofs.RunNames.{end_name, run_has_names, run_has_proper_edges, run_has_proper_rows}
use Rattle.gm_file_edit.proofs.NoLineFeeds.{path-plain}

-- ---- texts

vertex_has_it : (x : ModuleVersion) → Lacks 64 (vertex_text x) → ⊥
vertex_has_it x none = has_it _ _ _ (subst (Lacks 64) (append_assoc x.0 _ _) none)

step_lacks : (main : List ℕ) (step : Step) → IsPath main → IsProperStep step → Lacks 32 (step_text main step)
step_lacks main FromMain is proper = path_has_no_blank _ is
step_lacks main (Of x) is proper = vertex_lacks 32 (record { at = λ e. omega (arith, e); path = refl; version = refl }) x proper

-- the first lines of a list, a graph and a chain
pub first_row : (main : List ℕ) (rows : List Entry) → list_text main (main_entry ∷ rows) ≡ main ++ (10 ∷ list_text main rows)
first_row main rows =
    append_assoc _ (codes "\n") _ ∙ append_assoc main [] _

first_step : (main : List ℕ) (steps : List Step) → chain_text main (FromMain ∷ steps) ≡ main ++ (10 ∷ chain_text main steps)
first_step main steps = append_assoc main _ _

abbrev after_first : List ℕ → ModuleVersion → List Edge → List ℕ
after_first main y edges = vertex_text y ++ (10 ∷ graph_text main edges)

first_edge : (main : List ℕ) (s : Step) (y : ModuleVersion) (edges : List Edge)
    → graph_text main (edge s y ∷ edges) ≡ step_text main s ++ (32 ∷ after_first main y edges)
first_edge main s y edges =
    append_assoc _ (codes "\n") _
    ∙ append_assoc _ (vertex_text y) _
    ∙ append_assoc _ (codes " ") _

some_text : (a b : List ℕ) (c : ℕ) → [] ≡ a ++ (c ∷ b) → ⊥
some_text a b c e =
    let size : 0 ≡ length (a ++ (c ∷ b)) = ap (λ t. length t) e in
    let parts = length-append a (c ∷ b) in
    omega (arith, size, parts)

step_is_main : (main path : List ℕ) (step : Step) → Lacks 64 path → step_text main step ≡ path → main ≡ path
step_is_main main path FromMain none is = is
step_is_main main path (Of x) none is = absurd (vertex_has_it x (subst (Lacks 64) (sym is) none))

pub same_text : (a b : List ℕ) → text_outcome a ≡ text_outcome b → a ≡ b
same_text a b is = ap (λ o. o.text) is

-- ---- walks

module _ (E : Edges) where
  pub walk_begins : {s : Step} {steps : List Step} → IsWalk E s steps → (rest : List Step) × (steps ≡ FromMain ∷ rest)
  walk_begins here = ([], refl)
  walk_begins (further {s} {y} {steps} walk is) =
      let (rest, begins) = walk_begins walk in (rest ++ Of y ∷ [], ap (λ ss. ss ++ Of y ∷ []) begins)

  -- an edge leads to each step other than the main module
  pub walk_step : {s : Step} {steps : List Step} → IsWalk E s steps → (x : ModuleVersion) → Contains steps (Of x) → (t : Step) × E t x
  walk_step here x there = let never = one_member _ _ there in absurd (cc never)
  walk_step (further {s} {y} {steps} walk is) x there =
      let earlier : Contains steps (Of x) → (t : Step) × E t x = λ inside. walk_step walk x inside in
      elim (Contains-push_cases _ _ _ there) [
        | inl inside ↦ earlier inside
        | inr same ↦ (let name : y ≡ x = cc same in (s, rw name at is))
      ]

-- ---- a run that found no fault

module _ (run : Given) (main : Main) (table : Option Sums) (found : AreFound run main table []) where
  abbrev edges_of_run : Edges
  edges_of_run = IsEdge (run_of main table run.answers.asked)

  pub own_path : IsPath main.path
  own_path = (run_has_names run main table found.read).0

  -- Rows whose text is that of rows which begin with the main module's are those, and the main module's path is the same.
  pub rows_are : (path : List ℕ) (rows more : List Entry) → Lacks 10 path → AreProperRows (main_entry ∷ more)
      → AreRows (run_of main table run.answers.asked) rows
      → list_text main.path rows ≡ list_text path (main_entry ∷ more) → (main.path ≡ path) × (rows ≡ main_entry ∷ more)
  rows_are path rows more none proper are text =
      let others = map (entry_of (replacement_in main)) are.selected in
      let own = (cut_at _ _ _ _ _ (path-plain _ own_path) none
      (sym (first_row _ _) ∙ ap (list_text _) (sym are.entries_are) ∙ text ∙ first_row _ _)).0 in (
        own,
        text_says_rows _ own_path rows (main_entry ∷ more) (run_has_proper_rows run main table rows found.read are) proper
            (text ∙ ap (λ m. list_text m (main_entry ∷ more)) (sym own)),
      )

  -- the same of edges,
  pub edges_are : (path : List ℕ) (edges more : List Edge) (y : ModuleVersion) → Lacks 32 path → Lacks 64 path
      → AreProperEdges (edge FromMain y ∷ more) → AreEdges (run_of main table run.answers.asked) edges
      → graph_text main.path edges ≡ graph_text path (edge FromMain y ∷ more)
      → (main.path ≡ path) × (edges ≡ edge FromMain y ∷ more)
  edges_are path edges more y blank sign proper are text =
      let names = run_has_proper_edges run main table edges found.read are in
      let own = by_first _ names (text ∙ first_edge path FromMain y more) in (
        own,
        text_says_edges _ own_path edges (edge FromMain y ∷ more) names proper
            (text ∙ ap (λ (m : List ℕ). graph_text m (edge FromMain y ∷ more)) (sym own)),
      )
    where
      by_first : (es : List Edge) → AreProperEdges es → graph_text main.path es ≡ path ++ (32 ∷ after_first path y more) → main.path ≡ path
      by_first [] names begins = absurd (some_text _ _ _ begins)
      by_first (one ∷ es) names begins =
          step_is_main _ _ _ sign (cut_at _ _ _ _ _ (step_lacks _ _ own_path (names one (member_head one es)).0) blank
          (sym (first_edge main.path one.from one.to es) ∙ begins)).0

  -- and of the steps of a walk
  module _ {s : Step} (steps : List Step) (walk : IsWalk edges_of_run s steps) where
    steps_proper : AreProperSteps steps
    steps_proper FromMain there = tt
    steps_proper (Of y) there =
        let (t, is) = walk_step _ walk y there in
        end_name _ run.file found.read.main_file t y is

    pub known_steps : (known : List Step) → AreProperSteps known → chain_text main.path steps ≡ chain_text main.path known → steps ≡ known
    known_steps known proper text = text_says_steps _ own_path steps known steps_proper proper text

    pub steps_are : (path : List ℕ) (more : List Step) → Lacks 10 path → AreProperSteps (FromMain ∷ more)
        → chain_text main.path steps ≡ chain_text path (FromMain ∷ more) → (main.path ≡ path) × (steps ≡ FromMain ∷ more)
    steps_are path more none proper text =
        let (rest, begins) = walk_begins _ walk in
        let own = (cut_at _ _ _ _ _ (path-plain _ own_path) none
        (sym (first_step main.path rest) ∙ ap (chain_text main.path) (sym begins) ∙ text ∙ first_step path more)).0 in
        (own, known_steps _ proper (text ∙ ap (λ (m : List ℕ). chain_text m (FromMain ∷ more)) (sym own)))
