-- What the visit of one turn changes.
use Rattle.std.specs.Prelude.{◌≡◌, ℕ, Contains, List, true}
use Rattle.gm_name.specs.ModuleVersion.{ModuleVersion}
use Rattle.gm_store_parts.specs.Asked.{Name, Reply}
use Rattle.gm_graph_cache.specs.declared.cache.Cache.{Cache}
use Rattle.gm_graph_files.specs.declared.depth.Depth.TheVariants.{Deep}
use Rattle.gm_graph_files.specs.declared.depth.Turn.{Turn}
use Rattle.gm_graph_cache.specs.declared.cache.visit.Visit.{Visit}
use Rattle.gm_graph.specs.declared.findings.Findings.{Findings}
use Rattle.gm_graph.specs.declared.followed.Followed.{Followed}
use Rattle.gm_graph.specs.declared.worklist.NumberedTurn.{NumberedTurn}
use Rattle.gm_graph.specs.declared.worklist.Worklist.{Worklist}
use Rattle.gm_graph_cache.specs.Cached.{IsSound, run_in, table_in, turns_in}
use Rattle.gm_graph_cache.specs.Visits.{HasVisited}
use Rattle.gm_graph.specs.Private.Findings.{AreFindings}
use Rattle.gm_graph.specs.Private.Followed.{followed_at}
use Rattle.gm_graph_cache.specs.Sayings.{Requires, Run}
use Rattle.gm_graph_files.specs.Turns.{turn}
use Rattle.gm_graph.specs.Private.Turns.{Visits}
use Rattle.gm_graph.specs.Private.Worklists.{IsWorklist, turn_of, turns_of}

-- The lists of the files were followed: what a vertex that has such a file requires has turns at full depth.
abbrev pub AreFollowedIn : Cache → Run → List Turn → Followed → Type 0
AreFollowedIn cache run turns followed = (file : ℕ) → followed_at followed file ≡ true
    → (x : ModuleVersion) × IsSound cache run x file
    × ((y : ModuleVersion) → Requires run x y → Contains turns (turn y Deep))

-- The numbers in the worklist are those of a cache's modules, what a vertex requires has turns at full depth if its
-- file is marked as followed, and what was found is of the vertices of the turns that were visited.
pub record IsReady (cache : Cache) (run : Run) (visited : List Turn) (worklist : Worklist) (marks : Followed)
    (findings : Findings) : Type 0 where
  pub worklist_is : IsWorklist (table_in cache) worklist
  pub followed : AreFollowedIn cache run (turns_of (table_in cache) worklist) marks
  pub found : AreFindings cache run visited findings

-- What the visit of this turn adds was added, and these turns were visited. `marks` says which files were followed.
pub record AddsTurn (cache : Cache) (run : Run) (visited : List Turn) (before after : Worklist) (marks : Followed)
    (findings : Findings) (one : NumberedTurn) : Type 0 where
  pub ready : IsReady cache run visited after marks findings
  pub follows : Visits run (turns_of (table_in cache) before) (turns_of (table_in cache) after)
      (turn_of (table_in cache) one)

-- The cache has visited the turn's vertex, and what that adds was added.
pub record IsTurnVisited (old new : Cache) (earlier later : List (Name × Reply)) (before after : Worklist)
    (marks : Followed) (findings : Findings) (one : NumberedTurn) : Type 0 where
  pub visit : Visit
  pub has : HasVisited old earlier new later one.number one.depth visit
  pub adds : AddsTurn new (run_in new later) (turns_in new) before after marks findings one
