-- What visits found, as the cache and the findings grow.
use Rattle.std.proofs.Common.{◌≡◌, ◌≢◌, ◌∙◌, ◌<◌, ◌++◌, ◌∷◌, [], ℕ, List, arith, Contains, Err, None, Some, ap, inl, inr, length, sym}
use Rattle.std.proofs.lemmas.Bool.{cases_eq}
use Rattle.std.proofs.lemmas.List.Elements.{Contains-append_left, Contains-push, Contains-push_cases}
use Rattle.std.proofs.lemmas.Option.{same_Some}
use Rattle.gm_graph_cache.specs.declared.cache.Cache.{Cache}
use Rattle.gm_graph_files.specs.declared.class.Class.{Class}
use Rattle.gm_graph.specs.declared.findings.Findings.{Findings}
use Rattle.gm_graph.specs.declared.findings.NumberedFault.{NumberedFault}
use Rattle.gm_graph_cache.specs.Cached.{IsSound, run_in, table_in, Follows, module_numbered}
use Rattle.gm_name_table.specs.Listed.{BeginsWith}
use Rattle.gm_store_parts.specs.Asked.{Name, Reply}
use Rattle.gm_graph.specs.Private.Findings.{AreFindings, WasVisited, numbered, place_at}
use Rattle.gm_graph_cache.specs.Sayings.{Run, Says}
use Rattle.gm_graph_cache.proofs.NumberedModules.{number_below, number_stays}
use Rattle.gm_graph_files.specs.declared.depth.Turn.{Turn}
use Rattle.gm_graph_files.specs.declared.depth.Depth.{Depth}
use Rattle.gm_graph_files.specs.Turns.{turn}
use Rattle.gm_graph.specs.Private.Turns.{HasTurn}
use Rattle.gm_graph.proofs.RunLemmas.{value_of}

-- A vertex has its number still.
pub same_module : (old new : Cache) (number : ℕ) → BeginsWith (table_in old) (table_in new) → number < length (table_in old)
    → module_numbered old number ≡ module_numbered new number
same_module old new number begins below = sym (number_stays (table_in old) (table_in new) number begins below)

-- A vertex of which something was found has a turn.
pub found_turn : {cache : Cache} {run : Run} {turns : List Turn} {findings : Findings} → AreFindings cache run turns findings
    → (number : ℕ) → WasVisited findings number → (number < length (table_in cache)) × HasTurn turns (module_numbered cache number)
found_turn {findings} are number (inl some) =
    let (place, e) = value_of (place_at findings.places.items number) some in
    let (below, has, _) = are.files number place e in (below, has)
found_turn are number (inr (class, h)) = let (below, has, _) = are.faults number class h in (below, has)

-- A cache that knows more.
pub findings_known : (old new : Cache) {earlier pairs : List (Name × Reply)} {turns : List Turn} (findings : Findings) → Follows old earlier new pairs
    → AreFindings old (run_in old earlier) turns findings → AreFindings new (run_in new pairs) turns findings
findings_known old new findings made are = record {
  files = λ number place e.
      let (below, has, sound) = are.files number place e in
      rw⁻¹ (same_module old new number made.numbered below)
      (number_below (table_in old) (table_in new) number made.numbered below, has, made.sound (module_numbered old number) place sound);
  faults = λ number class h.
      let (below, has, says) = are.faults number class h in
      rw⁻¹ (same_module old new number made.numbered below)
      (number_below (table_in old) (table_in new) number made.numbered below, has, made.stays (module_numbered old number) (Err class) says);
  each = λ one there.
      let (number, was, is) = are.each one there in
      (number, was, sym (same_module old new number made.numbered (found_turn are number was).0) ∙ is);
}

-- ---- the place of a file was noted

module _ (old new : Findings) (number place : ℕ) (put : place_at new.places.items number ≡ Some place)
    (others : (n : ℕ) → n ≢ number → place_at new.places.items n ≡ place_at old.places.items n) (faults : new.faults ≡ old.faults) where
  file_still : (n : ℕ) → WasVisited old n → WasVisited new n
  file_still n (inl some) = elim (cases_eq n number) [
    | inl same ↦ inl (rw (same, put))
    | inr other ↦ inl (rw (others n other) some)
  ]
  file_still n (inr (class, h)) = inr (class, rw faults h)

  pub file_noted : (cache : Cache) (run : Run) (turns : List Turn) (d : Depth) → AreFindings cache run turns old
      → number < length (table_in cache) → IsSound cache run (module_numbered cache number) place
      → AreFindings cache run (turns ++ turn (module_numbered cache number) d ∷ []) new
  file_noted cache run turns d are below sound = record {
    files = λ n p e. elim (cases_eq n number) [
      | inl same ↦
          (let is = same_Some place p (sym put ∙ rw same at e) in
          rw (same, ← is) (below, (d, Contains-push turns (turn (module_numbered cache number) d)), sound))
      | inr other ↦ (let (low, has, was) = are.files n p (sym (others n other) ∙ e) in (low, (has.0, Contains-append_left _ _ _ has.1), was))
    ];
    faults = λ n class h. let (low, has, was) = are.faults n class (rw faults at h) in (low, (has.0, Contains-append_left _ _ _ has.1), was);
    each = λ one there. elim (Contains-push_cases turns (turn (module_numbered cache number) d) one there) [
      | inl earlier ↦ (let (n, was, is) = are.each one earlier in (n, file_still n was, is))
      | inr same ↦ (number, inl (rw put), ap (λ (t : Turn). t.vertex) same)
    ];
  }

-- ---- a fault was noted

module _ (old new : Findings) (number : ℕ) (class : Class)
    (put : new.faults.items ≡ old.faults.items ++ numbered number class ∷ []) (places : new.places ≡ old.places) where
  fault_still : (n : ℕ) → WasVisited old n → WasVisited new n
  fault_still n (inl some) = inl (rw places some)
  fault_still n (inr (other, h)) =
      inr (other, rw put (Contains-append_left old.faults.items (numbered number class ∷ []) (numbered n other) h))

  pub fault_noted : (cache : Cache) (run : Run) (turns : List Turn) (d : Depth) → AreFindings cache run turns old
      → number < length (table_in cache) → Says run (module_numbered cache number) (Err class)
      → AreFindings cache run (turns ++ turn (module_numbered cache number) d ∷ []) new
  fault_noted cache run turns d are below says = record {
    files = λ n place e. let (low, has, was) = are.files n place (rw places at e) in (low, (has.0, Contains-append_left _ _ _ has.1), was);
    faults = λ n other h. elim (Contains-push_cases old.faults.items (numbered number class) (numbered n other) (rw put at h)) [
      | inl there ↦ (let (low, has, was) = are.faults n other there in (low, (has.0, Contains-append_left _ _ _ has.1), was))
      | inr same ↦
          (let at = ap (λ (f : NumberedFault). f.number) same in
          let is = ap (λ (f : NumberedFault). f.class) same in
          rw (← at, ← is) (below, (d, Contains-push turns (turn (module_numbered cache number) d)), says))
    ];
    each = λ one there. elim (Contains-push_cases turns (turn (module_numbered cache number) d) one there) [
      | inl earlier ↦ (let (n, was, is) = are.each one earlier in (n, fault_still n was, is))
      | inr same ↦ (number, inr (class, rw put (Contains-push old.faults.items (numbered number class))), ap (λ (t : Turn). t.vertex) same)
    ];
  }

-- Nothing was found.
pub nothing_found : (findings : Findings) → findings.places.items ≡ [] → findings.faults.items ≡ [] → (cache : Cache) (run : Run)
    (turns : List Turn) → turns ≡ [] → AreFindings cache run turns findings
nothing_found findings places faults cache run turns unvisited = record {
  files = λ number place e. let none : None ≡ Some place = rw places at e in absurd (cc none);
  faults = λ number class h. let none : Contains [] (numbered number class) = rw faults at h in absurd (omega (arith, none.1));
  each = λ one there. let none : Contains [] one = rw unvisited at there in absurd (omega (arith, none.1));
}
