-- Runs over a store in which files that were absent now exist.
use Rattle.std.proofs.Common.{◌≡◌, ◌∙◌, ℕ, Bool, true, List, [], Some, ap, inl, inr, refl, sym}
use Rattle.gm_store_parts.specs.Asked.{Name, Reply, absent, answer_in, bytes}
use Rattle.gomod_texts.proofs.StoresAgree.{alike_back}
use Rattle.gomod_texts.specs.Outcome.{Outcome}
use Rattle.gomod_texts.specs.QueryLaws.{AnswerAlike}
use Rattle.gomod_words.specs.declared.usage.Command.{Command}
use Rattle.gomod_words.specs.declared.usage.Command.TheVariants.{Fmt, Edit, Versions}
use Rattle.gomod_outcomes.specs.Runs.{is_query}
use Rattle.gomod_outcomes.specs.Versions.{VersionsEnds}
use Rattle.gomod_laws.specs.LaterLaws.{LaterAsksTheSame, LaterPrintsTheSame, OnlyAddsAnswers}
use Rattle.gomod_laws.specs.Runs.{HasPrinted}
use Rattle.gomod_laws.proofs.Ended.{Ends}
use Rattle.gomod_laws.proofs.FilesOnce.{edit_once, fmt_once}
use Rattle.gomod_laws.proofs.FolderRuns.{HasAskedAndPrinted, IsFile, each_is_file, needed_is_file, query_is_file, same_names, same_outcome}
use Rattle.gomod_laws.proofs.PrintedRuns.{Pairs}
use Rattle.gomod_laws.proofs.VersionsOnce.{versions_once}

-- ---- a file stays

file_stays : (asked later : Pairs) → OnlyAddsAnswers asked later → (name : Name) (a b : Reply) → IsFile a
    → answer_in asked name ≡ Some a → answer_in later name ≡ Some b → b ≡ a
file_stays asked later adds name a b (content, is) e f = elim (adds name a b e f) [
  | inl same ↦ same
  | inr none ↦ (let isnt : bytes content ≡ absent = sym is ∙ none in cc isnt)
]

-- where each answer was a file, no answer changed
files_stay : (asked later : Pairs) → OnlyAddsAnswers asked later
    → ((name : Name) (reply : Reply) → answer_in asked name ≡ Some reply → IsFile reply) → AnswerAlike asked later
files_stay asked later adds files name a b e f = sym (file_stays _ _ adds _ a b (files name a e) e f)

-- ---- `versions`

versions_again : (path : List ℕ) (all : Bool) (asked later : Pairs) (one other : Outcome) → HasPrinted one → OnlyAddsAnswers asked later
    → VersionsEnds path all (answer_in asked) [] one → VersionsEnds path all (answer_in later) [] other → one ≡ other
versions_again path all asked later one other prints adds ends also =
    versions_once _ _ _ (answer_in later)
    (λ name a b need e f. sym (file_stays _ _ adds _ a b (needed_is_file _ _ _ one prints ends _ a need e) e f))
    [] one other ends also

-- ---- any command

pub later_prints_the_same : LaterPrintsTheSame
later_prints_the_same command main sums asked later one other run prints adds again = by _ run.0 again.0
  where
    query : (c : Command) → is_query c ≡ true → Ends c main sums asked one → Ends c main sums later other → other ≡ one
    query c is first second = sym (same_outcome c _ _ _ _ _ _ (files_stay _ _ adds (query_is_file _ _ c _ _ is first prints)) first second)

    by : (c : Command) → Ends c main sums asked one → Ends c main sums later other → other ≡ one
    by Fmt first second = fmt_once _ _ _ second first
    by (Edit operations) first second = edit_once _ _ _ _ second first
    by (Versions path all) first second = sym (versions_again _ _ _ _ _ _ prints adds first second)
    by c first second = query c refl first second

pub later_asks_the_same : LaterAsksTheSame
later_asks_the_same command main sums asked later one other run prints adds again name =
    let same = later_prints_the_same command main sums asked later one other run.ends prints adds again.ends in
    let also : HasPrinted other = ap (λ o. o.status) same ∙ prints in
    let first : HasAskedAndPrinted command main sums asked one = record { ends = run.ends.0; in_turn = run.in_turn; prints = prints } in
    let second : HasAskedAndPrinted command main sums later other = record { ends = again.ends.0; in_turn = again.in_turn; prints = also } in
    let alike = files_stay _ _ adds (each_is_file _ _ _ _ _ first) in
    same_names _ _ _ _ _ _ _ (alike_back _ _ alike) second first name
