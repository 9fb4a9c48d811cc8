-- What a visit gets from the cache, and what changes in the cache.
use Rattle.std.specs.Prelude.{◌≡◌, ℕ, Option, Some, None, Err}
use Rattle.gm_name.specs.ModuleVersion.{ModuleVersion}
use Rattle.gm_graph_cache.specs.declared.cache.Cache.{Cache}
use Rattle.gm_graph_files.specs.declared.depth.Depth.{Depth}
use Rattle.gm_graph_cache.specs.declared.cache.lent.Lent.{Lent}
use Rattle.gm_graph_cache.specs.declared.cache.visit.Verdict.{Verdict}
use Rattle.gm_graph_cache.specs.declared.cache.visit.Verdict.TheVariants as verdict
use Rattle.gm_graph_cache.specs.declared.cache.visit.Visit.{Visit}
use Rattle.gm_graph_cache.specs.declared.cache.visit.Visit.TheVariants as visit
use Rattle.gm_graph_cache.specs.Cached.{IsSound}
use Rattle.gm_graph_files.specs.Turns.{leads_on}
use Rattle.gm_graph_cache.specs.Sayings.{Run, Says}

-- What a cache says of a vertex: its fault, or the place of the file that has its list, and whether a visit to this
-- depth leads on.
abbrev pub IsVerdict : Cache → Run → ModuleVersion → Depth → Verdict → Type 0
IsVerdict cache run x d (verdict.Fault class) = Says run x (Err class)
IsVerdict cache run x d (verdict.Sound file leads) =
    (sound : IsSound cache run x file) × (leads ≡ leads_on sound.file d)

-- the place of the file that has the vertex's list, if the vertex has no fault
abbrev pub file_of_verdict : Verdict → Option ℕ
file_of_verdict (verdict.Fault class) = None
file_of_verdict (verdict.Sound file leads) = Some file

-- what a visit gets of a vertex: the fault that the cache says, or the file and what was lent
abbrev pub visit_of : Verdict → Lent → Visit
visit_of (verdict.Fault class) list = visit.Fault class
visit_of (verdict.Sound file leads) list = visit.Required (record { file = file; leads = leads; list = list })
