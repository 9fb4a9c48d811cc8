-- `versions` has one outcome over two stores that answer no file differently which the one run needs.
use Rattle.std.proofs.Common.{◌≡◌, ◌⊎◌, ◌∙◌, ◌∷◌, ℕ, Bool, true, false, List, [], Option, Some, None, Result, Ok, Err, ap, refl, subst, sym, inl, inr}
use Rattle.std.proofs.lemmas.Option.{same_Some}
use Rattle.gm_name.specs.Path.{is_fetchable}
use Rattle.gm_file.specs.Directives.{VersionInterval}
use Rattle.gm_file.specs.Fields.{Dependency}
use Rattle.gm_file.specs.Shown.{shown_of}
use Rattle.gm_graph_files.proofs.OneReading.{one_reading, one_retracted}
use Rattle.gm_graph_files.specs.Reading.{AreRetractedBy}
use Rattle.gm_graph_files.specs.declared.class.Class.{Class}
use Rattle.gm_store_parts.specs.Asked.{Name, Reply, bytes, list_file, mod_file}
use Rattle.gomod_texts.specs.Reports.{device_line, fault_line}
use Rattle.gomod_texts.specs.Outcome.{Outcome, failure_outcome, refusal_outcome, text_outcome}
use Rattle.gomod_outcomes.proofs.OneVersions.{NeededAlike, none_needed, one_latest, one_listed, unrefused}
use Rattle.gomod_outcomes.specs.Versions.{HasListed, IsRefusedList, LatestSays, VersionsEnds, all_listed, bad_file, device, list_refusal, no_list, not_retracted, printed, versions_line}
use Rattle.gomod_outcomes.specs.Needs.{AnswersByName}

-- an outcome that comes first, if there is one; otherwise the rest says what comes
abbrev FirstOr : Option Outcome → Type 0 → Outcome → Type 0
FirstOr None rest outcome = rest
FirstOr (Some first) rest outcome = outcome ≡ first

first_once : (first : Option Outcome) {rest others : Type 0} {a b : Outcome} → (rest → others → a ≡ b) → FirstOr first rest a → FirstOr first others b → a ≡ b
first_once None once is be = once is be
first_once (Some first) once is be = is ∙ sym be

-- that the device failed, if it did
abbrev device_of : List Name → Option Outcome
device_of [] = None
device_of (name ∷ names) = Some (failure_outcome (device_line name))

-- ---- one run

-- what is printed of these versions, or reported of the go.mod of the latest one, by what that says
abbrev Tells : List ℕ → List (List ℕ) → List ℕ → Reply → Result Dependency Class → Outcome → Type 0
Tells path versions latest reply (Ok file) outcome = (intervals : List VersionInterval) × AreRetractedBy reply intervals
    × (outcome ≡ text_outcome (versions_line path (shown_of intervals versions)))
Tells path versions latest reply (Err class) outcome = outcome ≡ refusal_outcome (fault_line (path, latest) class)

-- the versions are listed, and all are printed, or the go.mod of the latest one says what comes
abbrev EndsListed : List ℕ → Bool → AnswersByName → Outcome → Type 0
EndsListed path all answers outcome = (versions : List (List ℕ)) × HasListed path answers versions
    × ((((all ≡ true) ⊎ (versions ≡ [])) × (outcome ≡ text_outcome (versions_line path versions)))
    ⊎ ((latest : List ℕ) × (reply : Reply) × (reading : Result Dependency Class)
    × LatestSays path all answers versions latest reply reading × Tells path versions latest reply reading outcome))

-- how a run ends at whose files no device failed: there is no list, or there is one
abbrev Ends : List ℕ → Bool → AnswersByName → Outcome → Type 0
Ends path all answers outcome = IsRefusedList path answers outcome ⊎ EndsListed path all answers outcome

module _ (path : List ℕ) (all : Bool) (answers : AnswersByName) (outcome : Outcome) where
  -- by the names at which the device failed
  abbrev EndsBy : List Name → Type 0
  EndsBy failed = FirstOr (device_of failed) (Ends path all answers outcome) outcome

  by_names : {failed names : List Name} → failed ≡ names → EndsBy names → EndsBy failed
  by_names same is = subst EndsBy (sym same) is

  ends_by : (failed : List Name) → VersionsEnds path all answers failed outcome → EndsBy failed
  ends_by failed (device name _ _ some says) = by_names some says
  ends_by failed (no_list refused none) = by_names none (inl refused)
  ends_by failed (bad_file versions latest reply class says none told) =
      by_names none (inr (versions, says.chosen.listed, inr (latest, reply, Err class, says, told)))
  ends_by failed (printed shown (all_listed is every) none told) = by_names none (inr (shown, is, inl (every, told)))
  ends_by failed (printed shown (not_retracted versions latest reply file intervals says retracted same) none told) =
      by_names none (inr (
        versions,
        says.chosen.listed,
        inr (
          latest,
          reply,
          Ok file,
          says,
          (intervals, retracted, told ∙ ap (λ (vs : List (List ℕ)). text_outcome (versions_line path vs)) same),
        ),
      ))

  replied : (reply : Option Reply) → list_refusal path true reply ≡ Some outcome → (same : Reply) × (reply ≡ Some same)
  replied None refused = absurd (cc refused)
  replied (Some reply) refused = (reply, refl)

  -- the list was answered, if a proxy can have one
  heard : Ends path all answers outcome → is_fetchable path ≡ true → (reply : Reply) × (answers (list_file path) ≡ Some reply)
  heard (inl refused) fetchable = replied _ (sym (ap (λ b. list_refusal path b (answers (list_file path))) fetchable) ∙ refused)
  heard (inr (versions, is, ends)) fetchable = (bytes is.list, is.answered)

-- ---- two runs

tells_once : (path : List ℕ) (versions : List (List ℕ)) (latest : List ℕ) (reply : Reply) (reading : Result Dependency Class) (a b : Outcome)
    → Tells path versions latest reply reading a → Tells path versions latest reply reading b → a ≡ b
tells_once path versions latest reply (Ok file) a b (intervals, retracted, says) (more, also, tells) =
    says ∙ ap (λ is. text_outcome (versions_line path (shown_of is versions))) (one_retracted _ _ _ retracted also)
    ∙ sym tells
tells_once path versions latest reply (Err class) a b says tells = says ∙ sym tells

module _ (path : List ℕ) (all : Bool) (told next : AnswersByName) (alike : NeededAlike path all told next) where
  -- the go.mod of the latest version says one thing
  one_says : {versions others : List (List ℕ)} {latest last : List ℕ} {r s : Reply} {reading other : Result Dependency Class}
      → LatestSays path all told versions latest r reading → LatestSays path all next others last s other
      → (versions ≡ others) × (latest ≡ last) × (r ≡ s) × (reading ≡ other)
  one_says {versions} {others} {latest} {last} {r} {s} {reading} {other} a b =
      let same = one_latest _ _ _ _ alike _ _ _ _ a.chosen b.chosen in
      let replies = alike (mod_file path latest) r s (inr (versions, latest, refl, a.chosen)) a.answered (rw same.1 b.answered) in
      (same.0, same.1, replies, one_reading None (mod_file path last) s _ _ (rw (same.1, replies) at a.says) b.says)

  listed_once : (a b : Outcome) → EndsListed path all told a → EndsListed path all next b → a ≡ b
  listed_once a b (versions, is, inl (every, says)) (others, be, inl (also, tells)) =
      says ∙ ap (λ (vs : List (List ℕ)). text_outcome (versions_line path vs)) (one_listed _ _ _ _ alike is be) ∙ sym tells
  listed_once a b (versions, is, inl (every, says)) (others, be, inr (last, s, other, says_too, tells)) =
      absurd (none_needed _ _ _ _ _ last (sym (one_listed _ all _ _ alike is be)) every says_too.chosen)
  listed_once a b (versions, is, inr (latest, r, reading, says, tells)) (others, be, inl (every, also)) =
      absurd (none_needed _ _ _ _ _ latest (one_listed _ all _ _ alike is be) every says.chosen)
  listed_once a b (versions, is, inr (latest, r, reading, says, tells)) (others, be, inr (last, s, other, says_too, also)) =
      let same = one_says says says_too in
      tells_once _ others last s _ a b (rw (same.0, same.1, same.2, same.3) at tells) also

  -- that there is no list, and why, is one thing
  one_refusal : {x y : Option Reply} (fetchable : Bool) → (fetchable ≡ true → x ≡ y) → list_refusal path fetchable x ≡ list_refusal path fetchable y
  one_refusal false same = refl
  one_refusal true same = ap (list_refusal path true) (same refl)

  ends_once : (a b : Outcome) → Ends path all told a → Ends path all next b → a ≡ b
  ends_once a b is be = by is be
    where
      list : Name
      list = list_file path

      lists : is_fetchable path ≡ true → told list ≡ next list
      lists fetchable =
          let (r, e) = heard _ _ _ a is fetchable in
          let (s, f) = heard _ _ _ b be fetchable in
          e ∙ ap Some (alike list r s (inl (fetchable, refl)) e f) ∙ sym f

      refusals : list_refusal path (is_fetchable path) (told list) ≡ list_refusal path (is_fetchable path) (next list)
      refusals = one_refusal _ lists

      by : Ends path all told a → Ends path all next b → a ≡ b
      by (inl refused) (inl also) = same_Some a b (sym refused ∙ refusals ∙ also)
      by (inl refused) (inr (others, it, ends)) = absurd (unrefused _ _ next a it.fetchable it.answered (sym refusals ∙ refused))
      by (inr (versions, it, ends)) (inl refused) = absurd (unrefused _ _ told b it.fetchable it.answered (refusals ∙ refused))
      by (inr listed) (inr also) = listed_once a b listed also

  pub versions_once : (failed : List Name) (a b : Outcome) → VersionsEnds path all told failed a → VersionsEnds path all next failed b → a ≡ b
  versions_once failed a b is be = first_once _ (ends_once a b) (ends_by _ _ _ a _ is) (ends_by _ _ _ b _ be)
