-- What a cache holds is what the answers say that it knows.
use Rattle.std.proofs.Common.{◌≡◌, ◌∙◌, true, List, Option, None, Some, Result, Ok, ap, refl, sym}
use Rattle.std.proofs.lemmas.Bool.{false≢true}
use Rattle.gm_name.specs.ModuleVersion.{ModuleVersion}
use Rattle.gm_file.specs.Fields.{Dependency}
use Rattle.gm_store_parts.specs.Asked.{Name, Reply, answer_in}
use Rattle.gm_graph_cache.specs.declared.cache.Cache.{Cache}
use Rattle.gm_graph_cache.specs.Cached.{Knows, held_of, main_in, run_in, sums_in}
use Rattle.gm_graph_cache.specs.Sayings.{FileSays, Run, Says, answered, faulty, sound, unaskable, wrong_path}
use Rattle.gm_graph_files.proofs.OneReading.{one_reading}
use Rattle.gm_graph_files.specs.Summaries.{kept_reading}
use Rattle.gm_graph_files.specs.Reading.{file_of, is_askable}
use Rattle.gm_graph_files.specs.declared.class.Class.{Class}

-- A file without a fault may be asked for.
sound_askable : {run : Run} {name : Name} {said : Result Dependency Class} → FileSays run name said → (file : Dependency)
    → said ≡ Ok file → is_askable name ≡ true
sound_askable (unaskable e) file same = absurd (cc same)
sound_askable (answered reply ask e is) file same = ask

module _ (cache : Cache) (pairs : List (Name × Reply)) (knows : Knows cache pairs) where
  -- What is held of a file that may be asked for is what it says, without the excluded requirements.
  pub held_says : (name : Name) (held : Result Dependency Class) → is_askable name ≡ true → held_of cache name ≡ Some held
      → (said : Result Dependency Class) × FileSays (run_in cache pairs) name said × (held ≡ kept_reading (main_in cache) said)
  held_says name held askable there = by_answer (answer_in pairs name) refl
    where
      by_answer : (answer : Option Reply) → answer_in pairs name ≡ answer
          → (said : Result Dependency Class) × FileSays (run_in cache pairs) name said × (held ≡ kept_reading (main_in cache) said)
      by_answer None none = absurd (cc (sym (knows.only name none) ∙ there))
      by_answer (Some reply) at =
          let got = knows.kept name reply at in
          let same : got.0 ≡ held = cc (sym got.1 ∙ there) in
          (got.2.said, answered reply askable at got.2.reads, sym same ∙ got.2.without)

  says_held : {name : Name} {said : Result Dependency Class} → FileSays (run_in cache pairs) name said → is_askable name ≡ true
      → held_of cache name ≡ Some (kept_reading (main_in cache) said)
  says_held (unaskable e) ask = absurd (false≢true (sym e ∙ ask))
  says_held {name} {said} (answered reply may at reads) ask =
      let got = knows.kept name reply at in
      got.1 ∙ ap Some (got.2.without
      ∙ ap (kept_reading (main_in cache)) (one_reading (sums_in cache) name reply got.2.said said got.2.reads reads))

  held_if : (x : ModuleVersion) {said : Result Dependency Class} → Says (run_in cache pairs) x said → (other : Dependency) → said ≡ Ok other
      → held_of cache (file_of (main_in cache) x) ≡ Some (kept_reading (main_in cache) (Ok other))
  held_if x (faulty is) other e = absurd (cc e)
  held_if x (wrong_path file is wrong) other e = absurd (cc e)
  held_if x (sound {file} is right) other e =
      says_held is (sound_askable is file refl) ∙ ap (λ (said : Result Dependency Class). Some (kept_reading (main_in cache) said)) e

  -- If a vertex has no fault, what its file says is held under the file's name.
  pub held_sound : (x : ModuleVersion) (file : Dependency) → Says (run_in cache pairs) x (Ok file)
      → held_of cache (file_of (main_in cache) x) ≡ Some (kept_reading (main_in cache) (Ok file))
  held_sound x file says = held_if x says file refl
