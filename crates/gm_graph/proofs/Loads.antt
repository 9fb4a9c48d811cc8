-- The assembled graph is the specified result of loading.
use Rattle.std.proofs.Common.{◌≡◌, ◌↔◌, List, [], Option, Contains, arith, map}
use Rattle.gm_name.specs.ModuleVersion.{ModuleVersion}
use Rattle.gm_file.specs.Main.{Main, without_excluded, replacement_in}
use Rattle.gm_store_parts.specs.Asked.{Name, Reply, names_in}
use Rattle.gm_store_sums.specs.Sums.{Sums}
use Rattle.gm_graph_cache.specs.declared.cache.Cache.{Cache}
use Rattle.gm_graph_cache.specs.declared.cache.parts.CacheParts.{CacheParts}
use Rattle.gm_graph.specs.declared.findings.Findings.{Findings}
use Rattle.gm_graph.specs.declared.worklist.Worklist.{Worklist}
use Rattle.gm_graph_cache.specs.Cached.{table_in, ArePartsOf}
use Rattle.gm_graph.specs.Private.Gathering.{AreFaultsOf, steps_by}
use Rattle.gm_graph.specs.Outcome.{IsLoaded, LoadedGraph}
use Rattle.gm_graph.specs.Run.{AreTooMany, AskedInTurn, IsEdge, IsRead, LoadingNeeds}
use Rattle.gm_graph_cache.specs.Sayings.{Run, run_of}
use Rattle.gm_graph.specs.Private.Turns.{OverflowsWith}
use Rattle.gm_graph.specs.Private.Visiting.{IsOpenedIn}
use Rattle.gm_graph.specs.Private.Worklists.{turn_of, turns_of}
use Rattle.gm_graph_select.specs.declared.step.Edge.{Edge}
use Rattle.gm_graph_select.specs.declared.step.Step.TheVariants.{Of}
use Rattle.gm_graph_select.specs.Adjacency.{edges_of, sources_of}
use Rattle.gm_graph_select.specs.BuildList.{IsBuildList}
use Rattle.gm_graph_select.specs.Chains.{IsRooted}
use Rattle.gm_graph_select.specs.Graph.{IsEdgeEnd, among, edge, edge_cmp}
use Rattle.gm_graph_select.specs.Order.{HaveSame, IsAscending}
use Rattle.gm_graph_select.proofs.Same.{same_build_list}
use Rattle.gm_graph.proofs.Ends.{opened_among}
use Rattle.gm_graph.proofs.Exactly.{few_opened, settled}
use Rattle.gm_graph.proofs.FoundGraph.{edges_exactly, faults_exactly, known, sources_opened}
use Rattle.gm_graph.proofs.Queueing.{many_first}
use Rattle.gm_graph.proofs.Rooted.{list_rooted}

module _ {run : Run} {cache : Cache} {worklist : Worklist} {findings : Findings} (opened : IsOpenedIn run cache worklist findings)
    {parts : CacheParts} (are : ArePartsOf cache parts) where
  abbrev edges : List Edge
  edges = edges_of parts.modules.items (steps_by parts findings.places.items)

  pub found_rooted : IsRooted (among edges)
  found_rooted = list_rooted run edges (edges_exactly opened are)

  pub found_ends : (x : ModuleVersion) → Contains (sources_of parts.modules.items (steps_by parts findings.places.items)) (Of x)
      → IsEdgeEnd (among edges) x
  found_ends x h = opened_among run edges (edges_exactly opened are) x (sources_opened opened are x h)

-- The run is that of a main file, a go.sum and answers.
pub loads : (main : Main) (sums : Option Sums) (pairs : List (Name × Reply)) {cache : Cache} {worklist : Worklist} {findings : Findings}
    {parts : CacheParts} → IsOpenedIn (run_of main sums pairs) cache worklist findings → ArePartsOf cache parts
    → AskedInTurn (LoadingNeeds main sums) pairs → (loaded : LoadedGraph) → loaded.main ≡ main.path
    → AreFaultsOf parts.modules.items findings.faults.items loaded.faults → IsAscending edge_cmp loaded.edges
    → HaveSame (edges_of parts.modules.items (steps_by parts findings.places.items)) loaded.edges
    → IsBuildList main.path (replacement_in main) (among loaded.edges) loaded.rows
    → loaded.turns ≡ map (turn_of parts.modules.items) worklist.turns.items → IsLoaded (run_of main sums pairs) (names_in pairs) loaded
loads main sums pairs {cache} {worklist} opened are asks loaded path_is faults ascending same rows turns =
    let run = run_of main sums pairs in
    let each : (e : Edge) → Contains loaded.edges e ↔ IsEdge run e.from e.to =
    λ e. let exact = edges_exactly opened are e in ((λ h. exact.0 ((same e).1 h)), (λ h. (same e).0 (exact.1 h))) in
    record {
      main_is = path_is;
      faults = faults_exactly opened are loaded.faults faults;
      edges = record { ascending = ascending; each = each };
      rows = same_build_list (among loaded.edges) (IsEdge run) (λ s y. each (edge s y)) rows;
      turns = rw (turns, are.modules) opened.turns;
      settled = settled main sums pairs asks (known opened are) opened.read
          (few_opened run opened.worklist_is.opened (turns_of (table_in cache) worklist) (omega (arith, worklist.few, opened.worklist_is.counted))
          opened.worklist_is.turns opened.turns);
    }

-- Nothing was asked for, and the main file requires too many vertices.
pub too_many_first : (main : Main) (sums : Option Sums) (pairs : List (Name × Reply)) → pairs ≡ [] → OverflowsWith [] (without_excluded main main.requirements)
    → IsRead (run_of main sums pairs) × AreTooMany (run_of main sums pairs)
too_many_first main sums pairs none over = rw none ((λ name reply e. absurd (cc e)), many_first (run_of main sums []) over)
