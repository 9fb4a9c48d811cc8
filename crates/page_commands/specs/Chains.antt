-- A copy from crates/gm_graph_select/specs/Chains.antt, which tools/check/headline.py writes.
use Rattle.std.specs.Prelude.{◌≡◌, ℕ, zero, suc, ◌≤◌, false, List, [], ◌∷◌, ◌++◌}
use Rattle.std.specs.Ordering.{is_lt}
use Rattle.page_commands.specs.ModuleVersion.{ModuleVersion}
use Rattle.page_commands.specs.Types.Step.{Step, Main, Of}
use Rattle.page_commands.specs.Graph.{Edges, step_cmp}

-- A path of n edges leads from the main module to the step.
pub data Leads (edges : Edges) : Step → ℕ → Type 0 where
  at_main : Leads edges Main zero
  along : {s : Step} {y : ModuleVersion} {n : ℕ} → Leads edges s n → edges s y → Leads edges (Of y) (suc n)

-- the level: the least number of edges that lead from the main module to the step
pub record IsLevel (edges : Edges) (s : Step) (n : ℕ) : Type 0 where
  pub leads : Leads edges s n
  pub least : (m : ℕ) → Leads edges s m → n ≤ m

-- the predecessor: the least step that is one level nearer to the main module and has an edge to the vertex
pub record IsPredecessor (edges : Edges) (s : Step) (y : ModuleVersion) : Type 0 where
  pub is_edge : edges s y
  pub level : ℕ
  pub nearer : IsLevel edges s level
  pub further : IsLevel edges (Of y) (suc level)
  pub least : (t : Step) → edges t y → IsLevel edges t level → is_lt (step_cmp t s) ≡ false

-- the chain to a step: it begins with the main module, and each step is the predecessor of the next
pub data IsChain (edges : Edges) : Step → List Step → Type 0 where
  begins : IsChain edges Main (Main ∷ [])
  goes_on : {s : Step} {y : ModuleVersion} {steps : List Step} → IsChain edges s steps → IsPredecessor edges s y
      → IsChain edges (Of y) (steps ++ Of y ∷ [])
