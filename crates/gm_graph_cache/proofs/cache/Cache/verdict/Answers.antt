use Rattle.std.proofs.Common.{◌≡◌, ◌∙◌, Some, ap, subst, sym}
use Rattle.gm_file.specs.Fields.{Dependency}
use Rattle.gm_file.specs.Listed.{with_requirements}
use Rattle.gm_file.specs.Main.{replacement_in}
use Rattle.gm_graph_cache.specs.Cached.{main_in, module_numbered}
use Rattle.gm_graph_cache.specs.Private.FileTable.{IsPlacedAt}
use Rattle.gm_graph_files.specs.Reading.{file_of, is_right_path}
use Rattle.gm_graph_cache.specs.Sayings.{faulty, sound, unaskable, wrong_path}
use Rattle.gm_graph_files.specs.Turns.{leads_on}
use Rattle.gm_graph_cache.proofs.Lending.{fault_said, file_said, sound_at}
use Rattle.gm_graph_cache.proofs.cache.Cache.verdict.Goals as goal
use Rattle.gm_graph_cache.proofs.cache.Cache.verdict.Goals.{After-is_right_path, In-Some}

placed : (c : In-Some) → IsPlacedAt (main_in c.args.self.now) c.args.self.now.files (module_numbered c.args.self.now c.args.number) c.in-Some.file
placed c = rw c.in-Some.is at c.requires.place

-- whether a file that says this declares a right path
right : (c : After-is_right_path) (file : Dependency) → with_requirements c.in-Valid.summary.file file.requirements ≡ file
    → is_right_path (module_numbered c.args.self.now c.args.number)
    (replacement_in (main_in c.args.self.now) (module_numbered c.args.self.now c.args.number)) file.declared ≡ c.is_right_path.result
right c file same =
    let main = main_in c.args.self.now in
    subst (λ x. is_right_path x (replacement_in main x) file.declared ≡ c.is_right_path.result) c.module.ensures.module
    (ap (λ (f : Dependency). is_right_path c.module.result.now (replacement_in main c.module.result.now) f.declared) (sym same)
    ∙ sym c.is_right_path.ensures)

pub at-requires : goal.at-requires
at-requires c =
    let cache = c.args.self.now in
    cache.files.within (file_of (main_in cache) (module_numbered cache c.args.number)) c.in-Some.file (placed (goal.at.at-requires c).In-Some).placed

-- ---- the vertex has a fault

pub returns-in_default : goal.returns-in_default
returns-in_default c = λ pairs knows. faulty (unaskable (rw c.in_default.is at c.requires.place))

pub returns-in-Faulty : goal.returns-in-Faulty
returns-in-Faulty c = λ pairs knows.
    faulty (fault_said c.args.self.now pairs _ c.in-Some.file knows (placed (goal.at.returns-in-Faulty c).In-Some) c.in-Faulty.class
    (c.at.ensures ∙ ap Some c.in-Faulty.is))

pub returns-else-is_right_path : goal.returns-else-is_right_path
returns-else-is_right_path c = λ pairs knows.
    let at = goal.at.returns-else-is_right_path c in
    let (file, says, same) = file_said c.args.self.now pairs _ c.in-Some.file knows (placed at.In-Some) c.in-Valid.summary
    (c.at.ensures ∙ ap Some c.in-Valid.is) in
    wrong_path file says (right at.After-is_right_path file same ∙ c.if-is_right_path.false)

-- ---- it has none

pub returns-then-is_right_path : goal.returns-then-is_right_path
returns-then-is_right_path c = λ pairs knows.
    let at = goal.at.returns-then-is_right_path c in
    let there = c.at.ensures ∙ ap Some c.in-Valid.is in
    let is = placed at.In-Some in
    let (file, says, same) = file_said c.args.self.now pairs _ c.in-Some.file knows is c.in-Valid.summary there in
    rw c.list_place.ensures (
      sound_at c.args.self.now _ _ c.in-Some.file c.in-Valid.summary file is.placed there
          (sound says (right at.After-is_right_path file same ∙ c.if-is_right_path.true)),
      c.leads_on.ensures file.requirements ∙ ap (λ (f : Dependency). leads_on f c.args.depth) same,
    )
