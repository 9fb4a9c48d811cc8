-- What `versions` needs, and that there is no list, follows from the answers to what it needs.
use Rattle.std.proofs.Common.{◌≡◌, ◌⊎◌, ◌∙◌, ℕ, Bool, true, List, [], Option, Some, None, ap₂, refl, subst, sym, inl, inr}
use Rattle.std.proofs.lemmas.Option.{same_Some}
use Rattle.gm_name.specs.Path.{is_fetchable}
use Rattle.gm_store_parts.specs.Asked.{Name, Reply, bytes, bytes_in, list_file}
use Rattle.gm_store.specs.Latest.{IsLatest}
use Rattle.gm_store.specs.Listed.{AreListed}
use Rattle.gomod_texts.specs.Outcome.{Outcome}
use Rattle.gomod_outcomes.specs.Needs.{AnswersByName}
use Rattle.gomod_outcomes.specs.Versions.{AreShown, HasListed, IsLatestListed, IsRefusedList, VersionsEnds, VersionsNeed, all_listed, bad_file, device, list_refusal, no_list, not_retracted, printed}
use Rattle.gomod_texts.proofs.Uniqueness.{latest_once, listed_once, none_latest}

pub same_answer : (answer : Option Reply) (one other : Reply) → answer ≡ Some one → answer ≡ Some other → one ≡ other
same_answer answer one other a b = cc

-- ---- two stores

-- No file that the first answers need has another answer in the second.
abbrev pub NeededAlike : List ℕ → Bool → AnswersByName → AnswersByName → Type 0
NeededAlike path all told next = (name : Name) (a b : Reply) → VersionsNeed path all told name → told name ≡ Some a → next name ≡ Some b → a ≡ b

pub alike_itself : (path : List ℕ) (all : Bool) (answers : AnswersByName) → NeededAlike path all answers answers
alike_itself path all answers name a b need is be = same_answer _ a b is be

module _ (path : List ℕ) (all : Bool) (told next : AnswersByName) (alike : NeededAlike path all told next) where
  pub one_listed : {one other : List (List ℕ)} → HasListed path told one → HasListed path next other → one ≡ other
  one_listed {one} {other} a b =
      let same = alike (list_file path) (bytes a.list) (bytes b.list) (inl (a.fetchable, refl)) a.answered b.answered in
      listed_once _ _ _ _ (subst (λ reply. AreListed path (bytes_in reply) one) same a.listed) b.listed

  pub one_latest : (versions others : List (List ℕ)) (latest last : List ℕ)
      → IsLatestListed path all told versions latest → IsLatestListed path all next others last
      → (versions ≡ others) × (latest ≡ last)
  one_latest versions others latest last a b =
      let same = one_listed a.listed b.listed in
      (same, latest_once _ _ _ (subst (λ vs. IsLatest vs latest) same a.greatest) b.greatest)

module _ (path : List ℕ) (all : Bool) (answers : AnswersByName) where
  -- no go.mod is needed if all listed versions are shown
  pub none_needed : (shown versions : List (List ℕ)) (latest : List ℕ) → versions ≡ shown
      → (all ≡ true) ⊎ (shown ≡ []) → ¬ (IsLatestListed path all answers versions latest)
  none_needed shown versions latest same (inl every) is = let e = sym every ∙ is.filtered in cc e
  none_needed shown versions latest same (inr none) is = none_latest _ (subst (λ vs. IsLatest vs latest) (same ∙ none) is.greatest)

  -- the versions that are shown are listed ones
  pub shown_listed : (shown : List (List ℕ)) → AreShown path all answers shown → (versions : List (List ℕ)) × HasListed path answers versions
  shown_listed shown (all_listed is every) = (shown, is)
  shown_listed shown (not_retracted versions _ _ _ _ says _ _) = (versions, says.chosen.listed)

-- ---- there is no list

-- a list that was answered is not refused
pub unrefused : (path list : List ℕ) (answers : AnswersByName) (outcome : Outcome) → is_fetchable path ≡ true → answers (list_file path) ≡ Some (bytes list)
    → ¬ (IsRefusedList path answers outcome)
unrefused path list answers outcome fetchable answered refused =
    let e : None ≡ Some outcome = sym (ap₂ (list_refusal path) fetchable answered) ∙ refused in cc e

-- that there is none comes before all else
pub refused_first : (path : List ℕ) (all : Bool) (answers : AnswersByName) (outcome other : Outcome) → VersionsEnds path all answers [] outcome
    → IsRefusedList path answers other → outcome ≡ other
refused_first path all answers outcome other (device _ _ _ failed _) refused = absurd (cc failed)
refused_first path all answers outcome other (no_list also _) refused = same_Some outcome other (sym also ∙ refused)
refused_first path all answers outcome other (bad_file _ _ _ _ says _ _) refused =
    let is = says.chosen.listed in absurd (unrefused _ _ answers _ is.fetchable is.answered refused)
refused_first path all answers outcome other (printed shown are _ _) refused =
    let (versions, is) = shown_listed _ all answers shown are in absurd (unrefused _ _ answers _ is.fetchable is.answered refused)
