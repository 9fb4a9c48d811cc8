-- Exactly the needed names were asked for, and at most 65,536 vertices are opened.
use Rattle.std.proofs.Common.{◌≡◌, ◌∙◌, ◌≤◌, true, List, [], ◌∷◌, ◌++◌, length, Option, IsSome, Contains, ap, sym, refl, inl, inr, arith, Result}
use Rattle.std.specs.Prelude.{is_some}
use Rattle.std.specs.List.{IsDistinct}
use Rattle.std.proofs.lemmas.Bool.{false≢true}
use Rattle.std.proofs.lemmas.Map.Keys.{IsDistinct-push}
use Rattle.std.proofs.lemmas.Map.Views.{Contains-from_any}
use Rattle.std.proofs.lemmas.List.Elements.{Contains-push_cases}
use Rattle.std.proofs.lemmas.List.{map_push}
use Rattle.gm_name.specs.ModuleVersion.{ModuleVersion}
use Rattle.gm_name.specs.Private.ModuleVersion.{pair_eq-Decides}
use Rattle.gm_file.specs.Fields.{Dependency}
use Rattle.gm_file.specs.Main.{Main}
use Rattle.gm_store_parts.specs.Asked.{Name, Reply, names_in, same_name}
use Rattle.gm_store_parts.proofs.NameOrder.{names_equal}
use Rattle.gm_store_sums.specs.Sums.{Sums}
use Rattle.gm_graph_files.specs.declared.class.Class.{Class}
use Rattle.gm_graph_files.specs.declared.depth.Turn.{Turn}
use Rattle.gm_graph_files.specs.Reading.{file_of, is_askable}
use Rattle.gm_graph.specs.Run.{AreOpened, AreTurns, AskedInTurn, IsNeeded, IsOpened, IsRead, IsSettled, LoadingNeeds, more, nothing}
use Rattle.gm_graph_cache.specs.Sayings.{FileSays, Run, Says, answered, faulty, run_of, sound, unaskable, wrong_path}
use Rattle.gm_graph.specs.Private.Turns.{AreTurnsOf}
use Rattle.gm_graph.proofs.RunLemmas.{answered_any, keeps_agree, names_equivalence, needed as needed_too}
use Rattle.gm_graph.proofs.DoneTurns.{takes_some}
use Rattle.gm_graph.proofs.Sameness.{at_most_as_many}
use Rattle.gm_graph_cache.proofs.Sayings.{says_more}

pub names_push : (pairs : List (Name × Reply)) (n : Name) (r : Reply) → names_in (pairs ++ (n, r) ∷ []) ≡ names_in pairs ++ n ∷ []
names_push pairs n r = map_push (λ (pair : Name × Reply). pair.0) pairs (n, r)

asked_once : (needs : (Name → Option Reply) → Name → Type 0) {pairs : List (Name × Reply)} → AskedInTurn needs pairs → IsDistinct same_name (names_in pairs)
unfolding IsDistinct
asked_once needs nothing = tt
asked_once needs (more {pairs} {name} reply asks needed unasked) =
    rw (names_push pairs name reply)
    (IsDistinct-push names_equivalence (names_in pairs) name (asked_once needs asks) (sym (answered_any pairs name) ∙ ap is_some unasked))

asked_only : (main : Main) (sums : Option Sums) {pairs : List (Name × Reply)}
    → AskedInTurn (LoadingNeeds main sums) pairs → (n : Name) → Contains (names_in pairs) n
    → IsNeeded (run_of main sums pairs) n
asked_only main sums nothing n h = absurd (omega (arith, h.1))
asked_only main sums (more {pairs} {name} reply asks called unasked) n h =
    let before = run_of main sums pairs in
    let after = run_of main sums (pairs ++ (name, reply) ∷ []) in
    needed_too before after (keeps_agree before after refl (says_more main sums pairs ((name, reply) ∷ []))) n
    (elim (Contains-push_cases (names_in pairs) name n (rw (names_push pairs name reply) at h)) [
      | inl there ↦ asked_only main sums asks n there
      | inr same ↦ rw⁻¹ same called.needed
    ])

-- A module's file was answered if it says something and may be asked for.
file_answered : {run : Run} {name : Name} {said : Result Dependency Class} → FileSays run name said → is_askable name ≡ true → IsSome (run.answers name)
file_answered (unaskable e) may = absurd (false≢true (sym e ∙ may))
file_answered (answered reply ask is reads) may = rw is

module_answered : {run : Run} {x : ModuleVersion} {said : Result Dependency Class} → Says run x said → is_askable (file_of run.main x) ≡ true
    → IsSome (run.answers (file_of run.main x))
module_answered (faulty is) may = file_answered is may
module_answered (wrong_path file is wrong) may = file_answered is may
module_answered (sound is right) may = file_answered is may

module _ (main : Main) (sums : Option Sums) (pairs : List (Name × Reply)) (asks : AskedInTurn (LoadingNeeds main sums) pairs)
    (known : (x : ModuleVersion) → IsOpened (run_of main sums pairs) x → (said : Result Dependency Class) × Says (run_of main sums pairs) x said) where
  needed_asked : (n : Name) → IsNeeded (run_of main sums pairs) n → Contains (names_in pairs) n
  needed_asked n (x, opened, is, askable) =
      let has = module_answered (known x opened).1 (rw is askable) in
      rw⁻¹ is (Contains-from_any names_equal (file_of main x) (names_in pairs) (sym (answered_any pairs (file_of main x)) ∙ has))

  -- Exactly the needed files were asked for.
  pub settled : IsRead (run_of main sums pairs) → ((xs : List ModuleVersion) → AreOpened (run_of main sums pairs) xs → length xs ≤ 65536)
      → IsSettled (run_of main sums pairs) (names_in pairs)
  settled read few = record {
    read = read;
    once = asked_once (LoadingNeeds main sums) asks;
    needed = λ n. (asked_only main sums asks n, needed_asked n);
    few = few;
  }

module _ (run : Run) (vertices : List ModuleVersion) (turns : List Turn) (few : length vertices ≤ 65536) (are : AreTurnsOf vertices turns)
    (exact : AreTurns run turns) where
  opened_there : (x : ModuleVersion) → IsOpened run x → Contains vertices x
  opened_there x is = let (d, taken) = takes_some run x is in (are.each x).1 (d, (exact.each x d).1 taken)

  pub few_opened : (xs : List ModuleVersion) → AreOpened run xs → length xs ≤ 65536
  few_opened xs opened =
      let fewer = at_most_as_many pair_eq-Decides xs vertices opened.once (λ q there. opened_there q (opened.each q there)) in
      omega (arith, fewer, few)
