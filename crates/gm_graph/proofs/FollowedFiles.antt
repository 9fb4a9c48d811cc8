-- The files that were followed, as the cache and the worklist grow.
use Rattle.std.proofs.Common.{◌≡◌, ◌⊎◌, Contains, List, Ok, ℕ, inl, inr, true}
use Rattle.std.proofs.lemmas.List.Elements.{Contains-append_left}
use Rattle.gm_name.specs.ModuleVersion.{ModuleVersion}
use Rattle.gm_name_table.specs.Listed.{BeginsWith}
use Rattle.gm_graph_cache.specs.declared.cache.Cache.{Cache}
use Rattle.gm_graph_files.specs.declared.depth.Depth.{Depth}
use Rattle.gm_graph_files.specs.declared.depth.Depth.TheVariants.{Deep}
use Rattle.gm_graph_files.specs.declared.depth.Turn.{Turn}
use Rattle.gm_graph_cache.specs.declared.cache.visit.Required.{Required}
use Rattle.gm_graph_cache.specs.declared.cache.visit.Visit.TheVariants as visit
use Rattle.gm_graph_cache.specs.Cached.{run_in, table_in, Follows}
use Rattle.gm_store_parts.specs.Asked.{Name, Reply}
use Rattle.gm_graph_cache.specs.Sayings.{Run}
use Rattle.gm_graph_files.specs.Turns.{turn}
use Rattle.gm_graph.specs.declared.followed.Followed.{Followed}
use Rattle.gm_graph.specs.declared.worklist.Worklist.{Worklist}
use Rattle.gm_graph.specs.Private.Worklists.{IsWorklist, turns_of}
use Rattle.gm_graph.specs.Private.Followed.{followed_at}
use Rattle.gm_graph_cache.specs.Visits.{IsVisit}
use Rattle.gm_graph_cache.proofs.Lending.{LendsList}
use Rattle.gm_graph_cache.specs.Lent.{lent_table, lent_modules}
use Rattle.gm_graph.proofs.Growing.{turns_over}
use Rattle.gm_graph_cache.proofs.Sayings.{required_of, requires_before}
use Rattle.gm_graph.specs.Private.TurnVisits.{AreFollowedIn}

-- What was lent over them has turns, if its file was followed.
pub has_its_turns : (old : Cache) (run : Run) (worklist : Worklist) (followed : Followed) (required : Required)
    → IsWorklist (table_in old) worklist → LendsList old run required
    → AreFollowedIn old run (turns_of (table_in old) worklist) followed → followed_at followed required.file ≡ true
    → (y : ModuleVersion) → Contains (lent_modules required.list) y → Contains (turns_of (lent_table required.list) worklist) (turn y Deep)
has_its_turns old run worklist followed required is lends are by = λ y h.
    let (x, sound, each) = are required.file by in
    rw (turns_over (table_in old) (lent_table required.list) worklist is lends.begins)
    (each y (sound.file, sound.says, rw⁻¹ (lends.shared x sound.file sound sound.says) h))

-- A vertex's file was followed, and what it requires has turns.
pub followed_more : (cache : Cache) (run : Run) (old new : List Turn) (before after : Followed) (x : ModuleVersion)
    (d : Depth) (required : Required) → IsVisit cache run x d (visit.Required required) → BeginsWith old new
    → AreFollowedIn cache run old before
    → ((file : ℕ) → followed_at after file ≡ true → (followed_at before file ≡ true) ⊎ (required.file ≡ file))
    → (followed_at after required.file ≡ true → (y : ModuleVersion) → Contains (lent_modules required.list) y → Contains new (turn y Deep))
    → AreFollowedIn cache run new after
followed_more cache run old new before after x d required (sound, _, file, says, _, modules) longer are files each = λ f by. elim (files f by) [
  | inl was ↦ (let (z, there, its) = are f was in (z, there, λ y r. rw longer.1 (Contains-append_left old longer.0 (turn y Deep) (its y r))))
  | inr here ↦ (x, rw⁻¹ here sound, λ y r. each (rw here by) y (rw modules ((required_of run x file says y).0 r)))
]

-- A cache that knows more.
pub followed_known : (old new : Cache) {earlier pairs : List (Name × Reply)} (worklist : Worklist) (followed : Followed)
    → IsWorklist (table_in old) worklist → Follows old earlier new pairs
    → AreFollowedIn old (run_in old earlier) (turns_of (table_in old) worklist) followed
    → AreFollowedIn new (run_in new pairs) (turns_of (table_in new) worklist) followed
followed_known old new {earlier} {pairs} worklist followed is made are = λ f by.
    let (x, sound, each) = are f by in (
      x,
      made.sound x f sound,
      λ y r. rw (turns_over (table_in old) (table_in new) worklist is made.numbered)
          (each y (requires_before (run_in old earlier) (run_in new pairs) made.main made.stays x y (Ok sound.file) sound.says r)),
    )
