-- How the visit of one turn ends.
use Rattle.std.proofs.Common.{◌≡◌, ◌∙◌, ◌⊎◌, ◌<◌, ◌++◌, ◌∷◌, [], true, ap, subst, Contains, List, Result, Ok, if◌then◌else◌, length, sym}
use Rattle.std.specs.Prelude.{OnOk, ℕ}
use Rattle.std.proofs.lemmas.Result.{on_ok_weaker}
use Rattle.gm_name.specs.ModuleVersion.{ModuleVersion}
use Rattle.gm_store_parts.specs.Asked.{Name, Reply}
use Rattle.gm_graph_cache.specs.declared.cache.Cache.{Cache}
use Rattle.gm_graph_files.specs.declared.depth.Depth.{Depth}
use Rattle.gm_graph_files.specs.declared.depth.Depth.TheVariants.{Deep}
use Rattle.gm_graph_cache.specs.declared.cache.load_fault.LoadFault.{LoadFault}
use Rattle.gm_graph_cache.specs.declared.cache.visit.Required.{Required}
use Rattle.gm_graph_cache.specs.declared.cache.visit.Visit.{Visit}
use Rattle.gm_graph_cache.specs.declared.cache.visit.Visit.TheVariants as visit
use Rattle.gm_graph.specs.declared.findings.Findings.{Findings}
use Rattle.gm_graph.specs.declared.followed.Followed.{Followed}
use Rattle.gm_graph.specs.declared.worklist.NumberedTurn.{NumberedTurn}
use Rattle.gm_graph.specs.declared.worklist.Worklist.{Worklist}
use Rattle.gm_graph_cache.specs.Cached.{run_in, table_in, turns_in, module_numbered}
use Rattle.gm_graph_cache.specs.Visits.{HasVisited, IsVisit}
use Rattle.gm_graph_cache.specs.Lent.{lent_table, lent_modules}
use Rattle.gm_graph.specs.Private.Followed.{followed_at}
use Rattle.gm_graph_cache.specs.Sayings.{Run}
use Rattle.gm_graph.specs.Private.TurnVisits.{AddsTurn, IsReady, IsTurnVisited}
use Rattle.gm_graph_files.specs.Turns.{turn}
use Rattle.gm_graph.specs.Private.Turns.{AddsAll, OverflowsWith}
use Rattle.gm_graph.specs.Private.Visiting.{OverflowsAt}
use Rattle.gm_graph.specs.Private.Worklists.{IsWorklist, turn_of, turns_of}
use Rattle.gm_graph.proofs.FollowedFiles.{followed_known}
use Rattle.gm_graph.proofs.FoundFiles.{findings_known, same_module}
use Rattle.gm_graph_cache.proofs.NumberedModules.{number_below}
use Rattle.gm_graph.proofs.Growing.{turns_over, worklist_over}
use Rattle.gm_graph.proofs.Stepping.{answers_read, by_run}
use Rattle.gm_graph_files.specs.declared.depth.Turn.{Turn}

-- ---- the cache may have numbered more modules

module _ {old : Cache} {earlier : List (Name × Reply)} {done : List Turn} {worklist : Worklist} {marks : Followed} {findings : Findings}
    (ready : IsReady old (run_in old earlier) done worklist marks findings) where
  pub ready_after : {new : Cache} {pairs : List (Name × Reply)} {number : ℕ} {d : Depth} {seen : Visit}
      → HasVisited old earlier new pairs number d seen → IsReady new (run_in new pairs) done worklist marks findings
  ready_after {new} {pairs} has = record {
    worklist_is = worklist_over (table_in old) (table_in new) worklist ready.worklist_is has.follows.numbered has.distinct;
    followed = followed_known old new worklist marks ready.worklist_is has.follows ready.followed;
    found = findings_known old new findings has.follows ready.found;
  }

  -- too many vertices
  pub overflows_at : {new : Cache} {pairs : List (Name × Reply)} {number : ℕ} {d : Depth} {required : Required}
      → HasVisited old earlier new pairs number d (visit.Required required)
      → required.leads ≡ true → OverflowsWith (turns_of (lent_table required.list) worklist) (lent_modules required.list)
      → OverflowsAt (run_in old pairs) (turns_of (table_in old) worklist) (module_numbered old number) d
  overflows_at {new} {pairs} {number} {d} {required} has leads over =
      let (_, same, file, says, leads_on, modules) = has.visit_is in
      let turns : turns_of (lent_table required.list) worklist ≡ turns_of (table_in old) worklist =
      rw same (turns_over (table_in old) (table_in new) worklist ready.worklist_is has.follows.numbered) in
      by_run (λ (r : Run). OverflowsAt r (turns_of (table_in old) worklist) (module_numbered old number) d) new pairs has.follows.main
      has.follows.sums (
        answers_read new pairs has.follows.knows,
        (Ok file, says, rw (sym leads_on ∙ leads) (rw⁻¹ (modules, turns) over)),
      )

-- What the visit of a turn adds was added, so the turn was visited.
pub turn_visited : {old : Cache} {earlier : List (Name × Reply)} {worklist : Worklist} {marks : Followed} {findings : Findings}
    → IsReady old (run_in old earlier) (turns_in old) worklist marks findings → {new : Cache} {pairs : List (Name × Reply)}
    {one : NumberedTurn} {seen : Visit} (after : Worklist) (is : Followed) (more : Findings) (result : Result (Unit {0}) LoadFault)
    → one.number < length (table_in old) → HasVisited old earlier new pairs one.number one.depth seen
    → (IsReady new (run_in new pairs) (turns_in old) worklist marks findings → one.number < length (table_in new)
    → IsVisit new (run_in new pairs) (module_numbered new one.number) one.depth seen
    → OnOk result (AddsTurn new (run_in new pairs) (turns_in old ++ turn_of (table_in new) one ∷ []) worklist after is more one))
    → OnOk result (IsTurnVisited old new earlier pairs worklist after is more one)
turn_visited {old} {worklist = worklist} ready {new} {pairs} {one} {seen} after is more result below has adds =
    let same = same_module old new one.number has.follows.numbered below in
    on_ok_weaker result (λ added. record {
      visit = seen;
      has = has;
      adds = subst (λ (ts : List Turn). AddsTurn new (run_in new pairs) ts worklist after is more one)
          (sym (has.turns ∙ ap (λ (x : ModuleVersion). turns_in old ++ turn x one.depth ∷ []) same)) added;
    })
    (adds (ready_after ready has) (number_below (table_in old) (table_in new) one.number has.follows.numbered below)
    (rw same at has.visit_is))

-- ---- what the visit of a turn adds

-- What was lent was added to the worklist of these modules, if the visit leads further.
pub record LeadsOn (modules : List ModuleVersion) (required : Required) (old new : Worklist) (before after : Followed) : Type 0 where
  pub worklist_is : IsWorklist modules new
  pub adds : AddsAll (turns_of modules old) (turns_of modules new) (if required.leads then lent_modules required.list else []) Deep
  pub files : (file : ℕ) → followed_at after file ≡ true → (followed_at before file ≡ true) ⊎ (required.file ≡ file)
  pub followed : followed_at after required.file ≡ true → (y : ModuleVersion) → Contains (lent_modules required.list) y
      → Contains (turns_of modules new) (turn y Deep)
