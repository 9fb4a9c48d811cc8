-- What is found of a vertex, and which requirements are returned for it.
use Rattle.std.proofs.Common.{◌≡◌, ◌<◌, ◌∙◌, ℕ, List, Option, Some, None, Result, Ok, Err, sym, ap, refl, subst}
use Rattle.std.specs.Prelude.{IfSome, slice_get}
use Rattle.std.specs.List.{IsDistinct}
use Rattle.std.specs.Option.{option_and_then, option_map}
use Rattle.std.proofs.lemmas.Option.{same_Some}
use Rattle.std.proofs.Math.Logic.{∥∥₁_elim}
use Rattle.std.proofs.Props.{props}
use Rattle.gm_name.specs.ModuleVersion.{ModuleVersion, pair_eq}
use Rattle.gm_name_table.specs.Listed.{BeginsWith, modules_of}
use Rattle.gm_file.specs.Fields.{Dependency}
use Rattle.gm_file.specs.Listed.{Head, with_requirements}
use Rattle.gm_store_parts.specs.Asked.{Name, Reply}
use Rattle.gm_graph_cache.specs.declared.cache.lent.Lent.{Lent}
use Rattle.gm_graph_cache.specs.declared.cache.visit.Verdict.{Verdict}
use Rattle.gm_graph_cache.specs.declared.cache.visit.Verdict.TheVariants as verdict
use Rattle.gm_graph_cache.specs.declared.cache.visit.Required.{Required}
use Rattle.gm_graph_cache.specs.declared.cache.visit.Visit.TheVariants as visit
use Rattle.gm_graph_cache.specs.declared.cache.Cache.{Cache}
use Rattle.gm_file.specs.Main.{Main, without_excluded}
use Rattle.gm_graph_cache.specs.Cached.{AreRequirements, IsSound, Knows, file_count, its_requirements, main_in, no_requirements, run_in, summary_at, table_in, Follows, module_numbered}
use Rattle.gm_graph_cache.specs.FileTable.{place_of}
use Rattle.gm_graph_cache.specs.Private.Cached.{IsLender}
use Rattle.gm_graph_cache.specs.Private.FileTable.{IsPlacedAt}
use Rattle.gm_graph_cache.specs.Private.CacheVisits.{IsVerdict, file_of_verdict, visit_of}
use Rattle.gm_graph_cache.specs.Visits.{IsVisit}
use Rattle.gm_graph_cache.specs.Lent.{lent_modules, lent_table}
use Rattle.gm_graph_cache.specs.Sayings.{FileSays, Run, Says}
use Rattle.gm_graph_cache.proofs.Holding.{held_says, held_sound}
use Rattle.gm_graph_files.proofs.SharedLists.{found_own, list_owned}
use Rattle.gm_graph_files.proofs.Spans.{span_within}
use Rattle.gm_graph_files.specs.KeptFiles.{IsWithinList, span_found}
use Rattle.gm_graph_files.specs.Summaries.{at_span, kept_reading, listed_span, summary_reading}
use Rattle.gm_graph_files.specs.declared.summary.ListSpan.{ListSpan}
use Rattle.gm_graph_files.specs.Private.Summaries.{list_place}
use Rattle.gm_graph_files.specs.Reading.{file_of}
use Rattle.gm_graph_files.specs.declared.class.Class.{Class}
use Rattle.gm_graph_files.specs.declared.summary.Summary.{Summary}
use Rattle.gm_graph_files.specs.declared.summary.Kept.TheVariants.{Valid, Faulty}
use Rattle.gm_graph_files.specs.declared.summary.Kept.{Kept}
use Rattle.gm_graph_files.specs.declared.depth.Depth.{Depth}

-- ---- what a file says of which this is kept

fault_of : (main : Main) (class : Class) (said : Result Dependency Class) → Err class ≡ kept_reading main said → said ≡ Err class
fault_of main class (Ok file) e = absurd (cc e)
fault_of main class (Err other) e = sym e

file_by : (main : Main) (head : Head) (kept : List ModuleVersion) (said : Result Dependency Class)
    → Ok (with_requirements head kept) ≡ kept_reading main said
    → (file : Dependency) × (said ≡ Ok file) × (with_requirements head file.requirements ≡ file)
file_by main head kept (Ok file) e =
    let same : with_requirements head kept ≡ with_requirements (record { declared = file.declared; go = file.go }) (without_excluded main file.requirements)
    = cc e in
    (file, refl, λ i. record { declared = (same i).declared; go = (same i).go; requirements = file.requirements })
file_by main head kept (Err class) e = absurd (cc e)

module _ (cache : Cache) (pairs : List (Name × Reply)) (x : ModuleVersion) (place : ℕ) (knows : Knows cache pairs)
    (at : IsPlacedAt (main_in cache) cache.files x place) where
  -- What is kept at the place of a vertex's file is what the file says, without the excluded requirements.
  kept_says : (one : Kept) → slice_get cache.files.files.items place ≡ Some one
      → (said : Result Dependency Class) × FileSays (run_in cache pairs) (file_of (main_in cache) x) said
      × (summary_reading (modules_of cache.modules) one ≡ kept_reading (main_in cache) said)
  kept_says one there =
      held_says cache pairs knows (file_of (main_in cache) x) (summary_reading (modules_of cache.modules) one) at.askable
      (ap (option_map (summary_reading (modules_of cache.modules))) (ap (option_and_then (slice_get cache.files.files.items)) at.placed ∙ there))

  pub fault_said : (class : Class) → slice_get cache.files.files.items place ≡ Some (Faulty class)
      → FileSays (run_in cache pairs) (file_of (main_in cache) x) (Err class)
  fault_said class there =
      let (said, says, kept) = kept_says (Faulty class) there in
      subst (FileSays (run_in cache pairs) (file_of (main_in cache) x)) (fault_of (main_in cache) class said kept) says

  pub file_said : (summary : Summary) → slice_get cache.files.files.items place ≡ Some (Valid summary)
      → (file : Dependency) × FileSays (run_in cache pairs) (file_of (main_in cache) x) (Ok file)
      × (with_requirements summary.file file.requirements ≡ file)
  file_said summary there =
      let (said, says, kept) = kept_says (Valid summary) there in
      let (file, is, same) = file_by (main_in cache) summary.file (at_span (modules_of cache.modules) summary.list.span) said kept in
      (file, subst (FileSays (run_in cache pairs) (file_of (main_in cache) x)) is says, same)

-- ---- the list of a vertex

lent_one : (main : Main) (modules : List ModuleVersion) (o : Option Kept) (file : Dependency) (span : ListSpan)
    → option_and_then listed_span o ≡ Some span → option_map (summary_reading modules) o ≡ Some (kept_reading main (Ok file))
    → at_span modules span ≡ without_excluded main file.requirements
lent_one main modules None file span listed e = absurd (cc e)
lent_one main modules (Some (Faulty class)) file span listed e = absurd (cc listed)
lent_one main modules (Some (Valid summary)) file span listed e =
    let same : with_requirements summary.file (at_span modules summary.list.span)
    ≡ with_requirements (record { declared = file.declared; go = file.go }) (without_excluded main file.requirements) = cc e in
    ap (at_span modules) (sym (same_Some summary.list.span span listed)) ∙ ap (λ (f : Dependency). f.requirements) same

-- The list at a vertex's place is what the vertex requires.
pub list_is : (cache : Cache) (pairs : List (Name × Reply)) (x : ModuleVersion) (place : ℕ) (file : Dependency) → Knows cache pairs
    → (at : IsSound cache (run_in cache pairs) x place) → Says (run_in cache pairs) x (Ok file)
    → at_span (modules_of cache.modules) at.span ≡ without_excluded (main_in cache) file.requirements
list_is cache pairs x place file knows at says =
    lent_one (main_in cache) (modules_of cache.modules) (summary_at cache (file_of (main_in cache) x)) file at.span
    at.listed (held_sound cache pairs knows x file says)

-- The list of a vertex without a fault is at the place of the file that has it.
abbrev pub sound_at : (cache : Cache) (run : Run) (x : ModuleVersion) (place : ℕ) (summary : Summary) (file : Dependency)
    → place_of cache.files (file_of (main_in cache) x) ≡ Some place → slice_get cache.files.files.items place ≡ Some (Valid summary)
    → Says run x (Ok file) → IsSound cache run x (list_place cache.files.files.items place)
sound_at cache run x place summary file at there says =
    let owned = list_owned (modules_of cache.modules) cache.files.files.items place summary cache.consistent.listed there in
    record {
      within = owned.0;
      span = summary.list.span;
      own = owned.1;
      listed = ap (option_and_then listed_span) (ap (option_and_then (slice_get cache.files.files.items)) at ∙ there);
      file = file;
      says = says;
    }

-- where the requirements of the file at a place are
abbrev pub span_at : Cache → Option ℕ → ListSpan
span_at cache place = span_found (option_and_then (slice_get cache.files.files.items) place)

-- The requirements returned from the place of a vertex's list, or from none if the vertex has a fault, are its
-- requirements.
pub lent_kept : (cache : Cache) (pairs : List (Name × Reply)) (x : ModuleVersion) (place : Option ℕ) → Knows cache pairs
    → IsLender cache (run_in cache pairs) x place
    → AreRequirements (run_in cache pairs) x (at_span (modules_of cache.modules) (span_at cache place))
lent_kept cache pairs x None knows faulty = no_requirements faulty.1
lent_kept cache pairs x (Some place) knows sound =
    rw (found_own (slice_get cache.files.files.items place) sound.span sound.own, list_is cache pairs x place sound.file knows sound sound.says)
    (its_requirements sound.says)

-- Where requirements are is within the list of modules.
pub lent_within : (cache : Cache) (place : Option ℕ) → IsWithinList (modules_of cache.modules) (span_at cache place)
lent_within cache None = span_within (modules_of cache.modules) cache.files.files.items None (λ one e. absurd (cc e))
lent_within cache (Some place) =
    span_within (modules_of cache.modules) cache.files.files.items (slice_get cache.files.files.items place) (cache.consistent.listed place)

-- ---- what a visit gets

module _ (cache : Cache) (pairs : List (Name × Reply)) (number : ℕ) (d : Depth) where
  -- What is said of a vertex gives a place of a file.
  pub place_said : (says : Verdict) → IsVerdict cache (run_in cache pairs) (module_numbered cache number) d says
      → IfSome (file_of_verdict says) (λ place. place < file_count cache)
  place_said (verdict.Fault class) is = tt
  place_said (verdict.Sound file leads) is = is.0.within

  -- What a visit gets is what is said, and what is lent from that place.
  pub visit_got : (says : Verdict) (list : Lent) → Knows cache pairs
      → IsVerdict cache (run_in cache pairs) (module_numbered cache number) d says
      → lent_modules list ≡ at_span (modules_of cache.modules) (span_at cache (file_of_verdict says)) → lent_table list ≡ table_in cache
      → IsVisit cache (run_in cache pairs) (module_numbered cache number) d (visit_of says list)
  visit_got (verdict.Fault class) list knows is modules table = is
  visit_got (verdict.Sound file leads) list knows is modules table = (
    is.0,
    table,
    is.0.file,
    is.0.says,
    is.1,
    modules ∙ ap (at_span (modules_of cache.modules)) (found_own (slice_get cache.files.files.items file) is.0.span is.0.own)
        ∙ list_is cache pairs (module_numbered cache number) file is.0.file knows is.0 is.0.says,
  )

-- ---- what all known answers say

-- Some answers are known, so a place that lends by all that the cache knows is that of a file.
pub lender_there : (cache : Cache) (x : ModuleVersion) (place : Option ℕ)
    → ((pairs : List (Name × Reply)) → Knows cache pairs → IsLender cache (run_in cache pairs) x place)
    → IfSome place (λ there. there < file_count cache)
lender_there cache x None is = tt
lender_there cache x (Some place) is = ∥∥₁_elim cache.consistent.holds_some (hlevel props) (λ some. (is some.0 some.1).within)

-- What was lent has the number of each module that had one, and is what each vertex requires that had this list by the
-- run before the visit.
pub record LendsList (old : Cache) (run : Run) (required : Required) : Type 0 where
  pub begins : BeginsWith (table_in old) (lent_table required.list)
  pub distinct : IsDistinct pair_eq (lent_table required.list)
  pub shared : (x : ModuleVersion) (file : Dependency) → IsSound old run x required.file → Says run x (Ok file)
      → lent_modules required.list ≡ without_excluded run.main file.requirements

-- It is what a visit gets of a cache that comes after the old one.
pub lends_file : (old new : Cache) (earlier pairs : List (Name × Reply)) (x : ModuleVersion) (d : Depth) (required : Required)
    → Follows old earlier new pairs → IsDistinct pair_eq (table_in new) → IsVisit new (run_in new pairs) x d (visit.Required required)
    → LendsList old (run_in old earlier) required
lends_file old new earlier pairs x d required made distinct (sound, table, own, says_own, _, list) = record {
  begins = rw table made.numbered;
  distinct = rw table distinct;
  shared = λ y file at says.
      let there = made.sound y required.file at in
      list ∙ sym (list_is new pairs x required.file own made.knows sound says_own)
      ∙ ap (at_span (modules_of new.modules)) (same_Some sound.span there.span (sym sound.own ∙ there.own))
      ∙ list_is new pairs y required.file file made.knows there (made.stays y (Ok file) says)
      ∙ ap (λ m. without_excluded m file.requirements) made.main;
}
