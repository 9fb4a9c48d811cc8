-- The state of a worklist whose first turns were visited: before the first visit, and after the last.
use Rattle.std.proofs.Common.{◌≡◌, ◌≤◌, ◌<◌, ℕ, List, [], length, take, get_or, Option, ◌∙◌, sym, refl, subst}
use Rattle.std.proofs.lemmas.List.{length-map, take_all}
use Rattle.std.proofs.lemmas.List.Elements.{All-contains}
use Rattle.gm_name.specs.ModuleVersion.{ModuleVersion}
use Rattle.gm_store_parts.specs.Asked.{Name, Reply}
use Rattle.gm_store_sums.specs.Sums.{Sums}
use Rattle.gm_file.specs.Main.{Main}
use Rattle.gm_graph_cache.specs.declared.cache.Cache.{Cache}
use Rattle.gm_graph_files.specs.declared.depth.Turn.{Turn}
use Rattle.gm_graph.specs.declared.findings.Findings.{Findings}
use Rattle.gm_graph.specs.declared.worklist.Worklist.{Worklist}
use Rattle.gm_graph.specs.declared.worklist.NumberedTurn.{NumberedTurn}
use Rattle.gm_graph.specs.Private.Worklists.{IsWorklist, turns_of}
use Rattle.gm_graph_cache.specs.Cached.{Knows, main_in, run_in, sums_in, table_in, turns_in}
use Rattle.gm_graph.specs.Run.{IsRead}
use Rattle.gm_graph_cache.specs.Sayings.{Run, run_of}
use Rattle.gm_graph.specs.Private.Findings.{AreFindings}
use Rattle.gm_graph.specs.Private.Visiting.{IsFirstWorklist, IsOpenedIn}
use Rattle.gm_graph.proofs.Growing.{IsOneBelow}
use Rattle.gm_graph_cache.proofs.Lending.{list_is}
use Rattle.gm_graph.proofs.DoneTurns.{AreVisited, are_turns, first_visited}

-- Each answer that a cache knows says something.
pub answers_read : (cache : Cache) (pairs : List (Name × Reply)) → Knows cache pairs → IsRead (run_in cache pairs)
answers_read cache pairs knows name reply at = let got = knows.kept name reply at in (got.2.said, got.2.reads)

-- The number of a turn is that of a module.
pub number_here : {modules : List ModuleVersion} {worklist : Worklist} {at : ℕ} (one : NumberedTurn) → IsWorklist modules worklist
    → at < length worklist.turns.items → one ≡ get_or worklist.turns.items at one → one.number < length modules
number_here {modules} {worklist} {at} one is below here =
    All-contains (IsOneBelow (length modules)) worklist.turns.items one is.turned (at, below, sym here)

-- The turns before this position were visited.
pub record IsAt (main : Main) (sums : Option Sums) (cache : Cache) (pairs : List (Name × Reply)) (worklist : Worklist)
    (at : ℕ) : Type 0 where
  pub worklist_is : IsWorklist (table_in cache) worklist
  pub main_is : main_in cache ≡ main
  pub sums_are : sums_in cache ≡ sums
  pub knows : Knows cache pairs
  pub lent : turns_in cache ≡ take at (turns_of (table_in cache) worklist)
  pub visited : AreVisited (run_of main sums pairs) (turns_of (table_in cache) worklist) (turns_in cache)

-- What a cache's run is, if its main file and its go.sum are these.
pub by_run : (P : Run → Type 0) {main : Main} {sums : Option Sums} (cache : Cache) (pairs : List (Name × Reply)) → main_in cache ≡ main
    → sums_in cache ≡ sums → P (run_in cache pairs) → P (run_of main sums pairs)
by_run P {main} {sums} cache pairs main_is sums_are holds =
    rw⁻¹ main_is (rw⁻¹ sums_are holds)

pub first_step : (cache : Cache) (pairs : List (Name × Reply)) (worklist : Worklist) → pairs ≡ []
    → Knows cache [] → turns_in cache ≡ [] → IsFirstWorklist (run_in cache []) (table_in cache) worklist
    → IsAt (main_in cache) (sums_in cache) cache pairs worklist 0
first_step cache pairs worklist none knows lent first = rw none (record {
  worklist_is = first.worklist_is;
  main_is = refl;
  sums_are = refl;
  knows = knows;
  lent = lent;
  visited = rw lent (first_visited (run_in cache []) _ first.adds);
})

-- All turns were visited.
pub last_step : {main : Main} {sums : Option Sums} {cache : Cache} {pairs : List (Name × Reply)} {worklist : Worklist}
    {findings : Findings} {at : ℕ} → IsAt main sums cache pairs worklist at → AreFindings cache (run_in cache pairs) (turns_in cache) findings
    → length worklist.turns.items ≤ at → IsOpenedIn (run_of main sums pairs) cache worklist findings
last_step {main} {sums} {cache} {pairs} {worklist} {findings} {at} is found past =
    let turns = turns_of (table_in cache) worklist in
    let to_end = is.lent ∙ take_all at turns (rw length-map past) in
    let all : AreVisited (run_of main sums pairs) turns turns = rw to_end at is.visited in
    record {
      main_is = is.main_is;
      read = rw⁻¹ is.sums_are (answers_read cache pairs is.knows);
      worklist_is = is.worklist_is;
      turns = are_turns all is.worklist_is.turns.turns_once;
      found = rw⁻¹ (is.main_is, is.sums_are)
          (subst (λ (ts : List Turn). AreFindings cache (run_in cache pairs) ts findings) to_end found);
      lists = rw⁻¹ (is.main_is, is.sums_are) (λ x place sound. list_is cache pairs x place sound.file is.knows sound sound.says);
    }
