-- What `versions` prints, with and without the retracted versions.
use Rattle.std.proofs.Common.{◌≡◌, ◌∙◌, [], ℕ, Bool, List, Option, Some, None, ap, arith, inl, inr, refl, subst, sym, true, false}
use Rattle.std.proofs.lemmas.Bool.{false≢true}
use Rattle.gm_name.specs.Path.{is_fetchable}
use Rattle.gm_store_parts.specs.Asked.{Name, Reply, answer_in, bytes, bytes_in, list_file}
use Rattle.gm_store.specs.Listed.{AreListed}
use Rattle.gomod_texts.specs.Outcome.{Outcome, text_outcome}
use Rattle.gomod_outcomes.specs.Needs.{AnswersByName}
use Rattle.gomod_outcomes.specs.Versions.{AreShown, HasListed, VersionsEnds, all_listed, bad_file, device, list_refusal, no_list, not_retracted, printed, versions_line}
use Rattle.gomod_outcomes.proofs.AllAsked.{refusal_status}
use Rattle.gomod_texts.proofs.Uniqueness.{listed_once}
use Rattle.gomod_laws.specs.Runs.{HasPrinted}
use Rattle.gomod_laws.specs.VersionLaws.{AreUnretracted, RetractedAreLeftOut}
use Rattle.gomod_texts.proofs.PrintedList.{not_refused}

abbrev Pairs : Type 0
Pairs = List (Name × Reply)

-- where `versions` prints, it prints the versions that are shown
pub shown_printed : (path : List ℕ) (all : Bool) (answers : AnswersByName) (outcome : Outcome) → HasPrinted outcome → VersionsEnds path all answers [] outcome
    → (shown : List (List ℕ)) × AreShown path all answers shown × (outcome ≡ text_outcome (versions_line path shown))
shown_printed path all answers outcome prints (device name need unanswered failed says) = absurd (cc failed)
shown_printed path all answers outcome prints (no_list refused none) =
    let code = refusal_status _ _ _ _ refused in absurd (omega (arith, code, prints))
shown_printed path all answers outcome prints (bad_file versions latest reply class says none told) = absurd (not_refused _ _ told prints)
shown_printed path all answers outcome prints (printed shown are none told) = (shown, are, told)

-- without `--retracted`, those that are not retracted are shown
unretracted_shown : (path : List ℕ) (asked : Pairs) (shown : List (List ℕ)) → AreShown path false (answer_in asked) shown
    → (versions : List (List ℕ)) × HasListed path (answer_in asked) versions × AreUnretracted asked path versions shown
unretracted_shown path asked shown (all_listed is (inl every)) = absurd (false≢true every)
unretracted_shown path asked shown (all_listed is (inr none)) = (shown, is, inl (none, none))
unretracted_shown path asked shown (not_retracted versions latest reply file intervals says retracted same) =
    (versions, says.chosen.listed, inr (latest, intervals, says.chosen.greatest, (reply, file, says.answered, says.says, retracted), same))

-- with `--retracted`, each version is printed that the list names
module _ (path : List ℕ) (answers : AnswersByName) (list : List ℕ) (versions : List (List ℕ)) (outcome : Outcome) (listed : AreListed path list versions)
    (same : (reply : Reply) → answers (list_file path) ≡ Some reply → reply ≡ bytes list) where
  has_list : (answer : Option Reply) → ((reply : Reply) → answer ≡ Some reply → reply ≡ bytes list) → list_refusal path true answer ≡ Some outcome → ⊥
  has_list None same is = cc is
  has_list (Some reply) same is =
      let e : None ≡ Some outcome = sym (ap (λ r. list_refusal path true (Some r)) (same reply refl)) ∙ is in cc e

  all_shown : (shown : List (List ℕ)) → AreShown path true answers shown → shown ≡ versions
  all_shown shown (all_listed is every) =
      listed_once _ _ _ _ (subst (λ r. AreListed path (bytes_in r) shown) (same (bytes is.list) is.answered) is.listed) listed
  all_shown shown (not_retracted others latest reply file intervals says retracted hidden) = absurd (false≢true (sym says.chosen.filtered))

  all_printed : is_fetchable path ≡ true → VersionsEnds path true answers [] outcome → outcome ≡ text_outcome (versions_line path versions)
  all_printed fetchable (device name need unanswered failed says) = absurd (cc failed)
  all_printed fetchable (no_list refused none) =
      absurd (has_list _ same (subst (λ b. list_refusal path b (answers (list_file path)) ≡ Some outcome) fetchable refused))
  all_printed fetchable (bad_file others latest reply class says none told) = absurd (false≢true (sym says.chosen.filtered))
  all_printed fetchable (printed shown are none told) = told ∙ ap (λ vs. text_outcome (versions_line path vs)) (all_shown _ are)

pub retracted_are_left_out : RetractedAreLeftOut
retracted_are_left_out path main sums asked told one other run prints also alike =
    let (shown, are, says) = shown_printed _ _ _ _ prints run.0 in
    let (versions, is, unretracted) = unretracted_shown _ _ _ are in
    record {
      versions = versions;
      shown = shown;
      listed = record { list = is.list; answered = is.answered; are = is.listed };
      unretracted = unretracted;
      one_prints = says;
      other_prints = all_printed _ _ is.list versions _ is.listed
          (λ reply answered. sym (alike (list_file path) (bytes is.list) reply is.answered answered)) is.fetchable also.0;
    }
