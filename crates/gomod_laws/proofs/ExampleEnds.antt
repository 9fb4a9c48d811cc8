-- How runs of `list` over small main files end.
use Rattle.std.proofs.Common.{◌≡◌, ◌∙◌, ◌≤◌, ◌∷◌, ℕ, Bool, true, false, List, [], Option, Some, None, Result, Ok, Err, Contains, ap, ap₂, arith, codes, inl, inr, length, lit<, refl, subst, sym}
use Rattle.std.specs.Prelude.{if◌then◌else◌}
use Rattle.std.specs.List.{IsDistinct}
use Rattle.std.specs.declared.cmp.Ordering.TheVariants.{Less}
use Rattle.std.proofs.lemmas.Bool.{false≢true}
use Rattle.std.proofs.lemmas.Fmt.{decimal_digit}
use Rattle.std.proofs.lemmas.List.{same_from_push}
use Rattle.std.proofs.lemmas.Map.Keys.{IsDistinct-head}
use Rattle.std.proofs.lemmas.Option.{cond_some, same_Some}
use Rattle.gm_name.specs.Path.{is_fetchable}
use Rattle.gm_name.specs.ModuleVersion.{ModuleVersion, pair_cmp, pair_eq}
use Rattle.gm_name.specs.Private.ModuleVersion.{pair-self}
use Rattle.gm_file.specs.declared.fault.DirectiveKind.TheVariants.{NoModule}
use Rattle.gm_file.specs.Fields.{Dependency}
use Rattle.gm_store_parts.specs.Asked.{Name, Reply, mod_file, folder_file, list_file, absent, names_in, same_name}
use Rattle.gm_store_sums.specs.Sums.{Sums}
use Rattle.gm_file.specs.Main.{Main}
use Rattle.gm_graph_files.specs.Reading.{file_of}
use Rattle.gm_graph_files.specs.declared.class.Class.{Class}
use Rattle.gm_graph_files.specs.declared.class.Class.TheVariants.{Missing}
use Rattle.gm_file.specs.declared.misreading.Misreading.TheVariants as misreading
use Rattle.gm_graph_select.specs.BuildList.{main_entry, path_cmp}
use Rattle.gm_graph_select.proofs.Ascending.{member_head, no_member, one_member}
use Rattle.gm_graph.specs.Run.{AreFaults, AreOpened, AreRows, AreTooMany, IsDue, IsFault, IsNeeded, IsOpened, IsSettled, IsTop, from_deep, from_main, from_top}
use Rattle.gm_graph_cache.specs.Sayings.{FileSays, Run, Says, answered, faulty as says_fault, run_of, unaskable}
use Rattle.gm_graph.specs.declared.fault.Fault.{Fault}
use Rattle.gm_graph_cache.proofs.Sayings.{class_same}
use Rattle.gomod_texts.specs.Queries.{AreFound, FilesReadAs, bad_main, bad_sums, device, faulty, no_fault, too_many}
use Rattle.gomod_texts.specs.ListQuery.{ListEnds, no_path}
use Rattle.gomod_texts.specs.Outcome.{text_outcome, refusal_outcome}
use Rattle.gomod_texts.proofs.OneRead.{one_main}
use Rattle.gomod_laws.proofs.RunsOnce.{one_outcome}
use Rattle.gomod_run.proofs.ListLines.{heads}
use Rattle.gomod_words.specs.declared.usage.Command.TheVariants.{List as Rows}
use Rattle.gomod_laws.specs.ExampleRuns.{BadSumIsRefused, EmptyIsRefused, HasNoOutcome, IsListedAlone, RequiredIsAsked, alone, low_name, main_requiring, requiring, run_with_bad_sum, top_name, top_one}
use Rattle.gomod_laws.specs.ExampleRuns as example
use Rattle.gomod_laws.proofs.FilesOnce.{misread_or_main}
use Rattle.gomod_laws.proofs.ExampleEdges.{none_leads, none_opened, says_file}
use Rattle.gomod_laws.proofs.WrittenLists.{each_of, pairs_of}
use Rattle.gomod_laws.proofs.ExampleFiles.{empty_is_malformed, files_are_read}

nothing_twice : IsDistinct same_name []
unfolding IsDistinct
nothing_twice = tt

-- ---- a main module that requires nothing

abbrev lone : Run
lone = run_of (main_requiring []) None []

none_few : (xs : List ModuleVersion) → AreOpened lone xs → length xs ≤ 65536
none_few [] are = omega arith
none_few (x ∷ xs) are = absurd (none_opened refl x (are.each x (member_head x xs)))

none_rows : AreRows lone (main_entry ∷ [])
none_rows = record {
  selected = [];
  entries_are = refl;
  ascending = pairs_of (λ (a b : ModuleVersion). path_cmp a b ≡ Less) [] tt;
  each = λ x. ((λ there. absurd (no_member x there)), λ is. absurd (none_leads refl x is.is_end));
}

none_faulty : AreFaults lone []
none_faulty = record {
  ascending = pairs_of (λ (a b : Fault). pair_cmp a.vertex b.vertex ≡ Less) [] tt;
  each = λ one. ((λ there. absurd (no_member _ there)), λ is. absurd (none_opened refl _ is.0));
}

none_settled : IsSettled lone []
none_settled = record {
  read = λ name reply at. absurd (cc at);
  once = nothing_twice;
  needed = λ name. ((λ there. absurd (no_member _ there)), λ need. absurd (none_opened refl _ need.1));
  few = none_few;
}

alone_listed : ListEnds None None (example.run_without_sums alone [] []) (text_outcome (codes "m\n"))
alone_listed =
    no_fault (main_requiring []) None
    (record { read = record { main_file = files_are_read.one; sums = tt }; settled = none_settled; faults_are = none_faulty; none_failed = refl })
    (main_entry ∷ [], none_rows, no_path refl refl)

pub is_listed_alone : IsListedAlone
is_listed_alone = record {
  listed = alone_listed;
  only = λ outcome is. one_outcome (Rows None None) (example.run_without_sums alone [] []) outcome (text_outcome (codes "m\n")) is alone_listed;
}

-- ---- a go.sum with a line of two fields

bad_sum_reported : ListEnds None None run_with_bad_sum (refusal_outcome (codes "go.sum:1: BadSum\n"))
bad_sum_reported =
    bad_sums _ (codes "go.sum:1: BadSum\n") files_are_read.one
    (inr (omega arith, 1, (omega arith, refl), rw (decimal_digit 1 (lit< tt)) refl)) (refl, refl) refl

pub bad_sum_is_refused : BadSumIsRefused
bad_sum_is_refused = record {
  reported = bad_sum_reported;
  only = λ outcome is. one_outcome (Rows None None) run_with_bad_sum outcome (refusal_outcome (codes "go.sum:1: BadSum\n")) is bad_sum_reported;
}

-- ---- the empty file

pub empty_is_refused : EmptyIsRefused
empty_is_refused = bad_main (0, misreading.Directive NoModule) empty_is_malformed (refl, refl) (rw (decimal_digit 0 (lit< tt)) refl)

-- ---- a main module that requires one, of which no file says anything

abbrev main : Main
main = main_requiring (top_one ∷ [])

abbrev run_with : List (Name × Reply) → Run
run_with asked = run_of main None asked

-- no module's file is valid
abbrev IsSilent : Run → Type 0
IsSilent run = (x : ModuleVersion) (file : Dependency) → Says run x (Ok file) → ⊥

module _ (asked : List (Name × Reply)) (silent : IsSilent (run_with asked)) where
  abbrev run : Run
  run = run_with asked

  top_is : (x : ModuleVersion) → IsTop run x → x ≡ top_one
  top_is x there = sym (one_member _ x there)

  opened_is : (x : ModuleVersion) → IsOpened run x → x ≡ top_one
  opened_is x (inl top) = top_is x top
  opened_is x (inr (from_main unpruned top)) = top_is x top
  opened_is y (inr (from_top {x = x} file top says unpruned there)) = absurd (silent x file says)
  opened_is y (inr (from_deep {x = x} deep requires)) = absurd (silent x requires.0 requires.1)

  one_at_most : (xs : List ModuleVersion) → AreOpened run xs → length xs ≤ 1
  one_at_most [] are = omega arith
  one_at_most (x ∷ []) are = omega arith
  one_at_most (x ∷ y ∷ xs) are =
      let first = opened_is x (are.each x (member_head x (y ∷ xs))) in
      let second = opened_is y (are.each y (1, omega arith, refl)) in
      let same : pair_eq x y ≡ true = subst (λ z. pair_eq x z ≡ true) (first ∙ sym second) (pair-self x) in
      absurd (false≢true (sym (IsDistinct-head pair_eq x (y ∷ xs) are.once).0 ∙ same))

  one_few : (xs : List ModuleVersion) → AreOpened run xs → length xs ≤ 65536
  one_few xs are = let one = one_at_most _ are in omega (arith, one)

  not_too_many : AreTooMany run → ⊥
  not_too_many (xs, long, are) = let one = one_at_most _ are in omega (arith, one, long)

  need_is : (name : Name) → IsNeeded run name → top_name ≡ name
  need_is name (x, opens, is, askable) = ap (file_of main) (sym (opened_is x opens)) ∙ is

top_needed : (asked : List (Name × Reply)) → IsNeeded (run_with asked) top_name
unfolding is_fetchable
top_needed asked = (top_one, inl (member_head top_one []), refl, refl)

-- no file is valid if each is answered to be missing
absent_in : (asked : List (Name × Reply)) → ((name : Name) (reply : Reply) → (run_with asked).answers name ≡ Some reply
    → reply ≡ absent) → IsSilent (run_with asked)
absent_in asked gone x file says = by (says_file says file refl) refl
  where
    by : {said : Result Dependency Class} → FileSays (run_with asked) (file_of main x) said → said ≡ Ok file → ⊥
    by (unaskable isnt) same = cc same
    by {said} (answered reply ask at is) same =
        let missing : said ≡ Err Missing = rw (gone (file_of main x) reply at) at is in
        cc (same, missing)

-- a run of `list` on the two lines that found all, or too much
module _ (asked : List (Name × Reply)) (refusals : List Name) (silent : IsSilent (run_with asked))
    (not_settled : IsSettled (run_with asked) (names_in asked) → refusals ≡ [] → ⊥)
    (not_due : (name : Name) → IsDue (run_with asked) name → refusals ≡ name ∷ [] → ⊥) where
  the_main : (again : Main) (table : Option Sums) → FilesReadAs requiring None again table → (again ≡ main) × (table ≡ None)
  the_main again None read = (one_main _ _ _ read.main_file files_are_read.two, refl)
  the_main again (Some table) read = absurd read.sums

  abbrev run_by : Main → Option Sums → Run
  run_by again table = run_of again table asked

  -- what holds of the run by another reading of the files holds of this one
  here : (P : Run → Type 0) (again : Main) (table : Option Sums) → FilesReadAs requiring None again table → P (run_by again table) → P (run_with asked)
  here P again table read is =
      let same = the_main _ _ read in
      rw same.0 at (rw same.1 at is)

  not_found : (again : Main) (table : Option Sums) (faults : List Fault) → AreFound (example.run_without_sums requiring asked refusals) again table faults → ⊥
  not_found again table faults found =
      not_settled (here (λ r. IsSettled r (names_in asked)) _ _ found.read found.settled) found.none_failed

  no_outcome : HasNoOutcome asked refusals
  no_outcome outcome (bad_main place misread none says) = misread_or_main _ _ _ misread files_are_read.two
  no_outcome outcome (bad_sums again report is misread none says) = misread
  no_outcome outcome (device again table name read due failed says) = not_due name (here (λ (r : Run). IsDue r name) _ _ read due) failed
  no_outcome outcome (too_many again table read all many none says) = not_too_many _ silent (here AreTooMany _ _ read many)
  no_outcome outcome (faulty again table first others found says) = not_found _ _ _ found
  no_outcome outcome (no_fault again table found shows) = not_found again table [] found

-- ---- nothing is answered

unanswered_silent : IsSilent (run_with [])
unanswered_silent = absent_in [] (λ name reply at. absurd (cc at))

not_asked : IsSettled (run_with []) [] → ⊥
not_asked settled = no_member _ ((settled.needed top_name).1 (top_needed []))

-- ---- the device failed on a file that is not due

path_in : Name → List ℕ
path_in (mod_file path version) = path
path_in (folder_file text) = []
path_in (list_file path) = []

names_differ : top_name ≡ low_name → ⊥
unfolding path_in
names_differ e = let letter = heads _ _ _ _ (ap path_in e) in omega (arith, letter)

low_not_due : (name : Name) → IsDue (run_with []) name → low_name ∷ [] ≡ name ∷ [] → ⊥
low_not_due name due failed = names_differ (need_is [] unanswered_silent name due.calls.needed ∙ sym ((same_from_push [] [] low_name name failed).1))

-- ---- files are answered to be missing

two_absent : (first second : Bool) (reply : Reply) → (if first then Some absent else (if second then Some absent else None)) ≡ Some reply → reply ≡ absent
two_absent true second reply at = sym (same_Some _ _ at)
two_absent false true reply at = sym (same_Some _ _ at)
two_absent false false reply at = absurd (cc at)

abbrev two : Name → List (Name × Reply)
two second = (top_name, absent) ∷ (second, absent) ∷ []

two_silent : (second : Name) → IsSilent (run_with (two second))
two_silent second = absent_in (two second) (λ name reply at. two_absent _ _ _ at)

low_not_needed : IsSettled (run_with (two low_name)) (top_name ∷ low_name ∷ []) → ⊥
low_not_needed settled = names_differ (need_is (two low_name) (two_silent low_name) _ ((settled.needed low_name).0 (1, omega arith, refl)))

top_not_twice : IsSettled (run_with (two top_name)) (top_name ∷ top_name ∷ []) → ⊥
top_not_twice settled = false≢true (sym (IsDistinct-head _ _ _ settled.once).0)

-- ---- the answer is that there is no file

abbrev told : List (Name × Reply)
told = (top_name, absent) ∷ []

told_absent : (name : Name) (reply : Reply) → (run_with told).answers name ≡ Some reply → reply ≡ absent
told_absent name reply at = sym (cond_some _ _ _ at).1

missing_silent : IsSilent (run_with told)
missing_silent = absent_in told told_absent

once_asked : IsDistinct same_name (top_name ∷ [])
unfolding IsDistinct
once_asked = (tt, tt)

top_not_due : (name : Name) → IsDue (run_with told) name → top_name ∷ [] ≡ name ∷ [] → ⊥
top_not_due name due failed =
    let unasked : (run_with told).answers top_name ≡ None =
    subst (λ n. (run_with told).answers n ≡ None) (sym ((same_from_push [] [] _ _ failed).1)) due.unasked in
    cc unasked

missing_settled : IsSettled (run_with told) (top_name ∷ [])
missing_settled = record {
  read = λ name reply at. (Err Missing, rw (told_absent name reply at) refl);
  once = once_asked;
  needed = λ name. (each_of (IsNeeded (run_with told)) (top_name ∷ []) (top_needed told, tt) name, λ need. subst (Contains (top_name ∷ [])) (need_is told missing_silent _ need) (member_head _ []));
  few = one_few told missing_silent;
}

top_is_missing : Says (run_with told) top_one (Err Missing)
unfolding is_fetchable
top_is_missing = says_fault (answered _ refl refl refl)

abbrev fault_with : ModuleVersion → Class → Fault
fault_with x class = record { vertex = x; class = class }

abbrev top_fault : Fault
top_fault = fault_with top_one Missing

faulty_member : (one : Fault) → IsFault (run_with told) one → Contains (top_fault ∷ []) one
faulty_member one (opens, says) =
    let own = opened_is told missing_silent _ opens in
    let class = class_same top_is_missing (rw own at says) in
    let same = ap₂ fault_with (sym own) class in
    subst (Contains (top_fault ∷ [])) same (member_head top_fault [])

missing_faulty : AreFaults (run_with told) (top_fault ∷ [])
missing_faulty = record {
  ascending = pairs_of (λ (a b : Fault). pair_cmp a.vertex b.vertex ≡ Less) (top_fault ∷ []) (tt, tt);
  each = λ one. (each_of (IsFault (run_with told)) (top_fault ∷ []) ((inl (member_head top_one []), top_is_missing), tt) one, faulty_member one);
}

-- ---- the outcomes

files : FilesReadAs requiring None main None
files = record { main_file = files_are_read.two; sums = tt }

some_failed : {name : Name} → name ∷ [] ≡ [] → ⊥
some_failed e = cc e

none_failed : (name : Name) → [] ≡ name ∷ [] → ⊥
none_failed name e = cc e

pub required_is_asked : RequiredIsAsked
required_is_asked = record {
  missing = faulty _ _ _ []
      (record { read = files; settled = missing_settled; faults_are = missing_faulty; none_failed = refl }) refl;
  device = device _ _ _ files
      (record { calls = record { read = λ name reply at. absurd (cc at); needed = top_needed [] }; unasked = refl }) refl refl;
  unasked = no_outcome [] [] unanswered_silent (λ settled none. not_asked settled) (λ name due failed. none_failed _ failed);
  undue = no_outcome [] (low_name ∷ []) unanswered_silent (λ settled none. some_failed none) low_not_due;
  answered = no_outcome told (top_name ∷ []) missing_silent (λ settled none. some_failed none) top_not_due;
  no_more = no_outcome (two low_name) [] (two_silent _) (λ settled none. low_not_needed settled) (λ name due failed. none_failed _ failed);
  not_twice = no_outcome (two top_name) [] (two_silent _) (λ settled none. top_not_twice settled) (λ name due failed. none_failed _ failed);
}
