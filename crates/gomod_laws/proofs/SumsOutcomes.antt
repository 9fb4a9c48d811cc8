-- A go.sum only refuses, and one with the right hashes changes nothing.
use Rattle.std.proofs.Common.{◌≡◌, ◌∙◌, List, [], Option, Some, None, ap, sym, refl, true, ℕ}
use Rattle.gm_store_parts.specs.Asked.{Name, Reply, answer_in, bytes, folder_file, list_file, mod_file}
use Rattle.gm_store_sums.specs.Hash.{file_hash}
use Rattle.gm_store_sums.specs.Sums.{Sums}
use Rattle.gm_store_sums.specs.declared.sum_table.Sum.TheVariants.{Good}
use Rattle.gm_graph_files.specs.declared.class.Class.{Class}
use Rattle.gm_file.specs.Main.{Main}
use Rattle.gm_graph_files.specs.Reading.{class_of_sum, sum_fault}
use Rattle.gomod_texts.proofs.PrintedList.{printed_run}
use Rattle.gomod_texts.proofs.OneRead.{one_finding, one_says}
use Rattle.gomod_texts.specs.Outcome.{Outcome}
use Rattle.gomod_texts.specs.Queries.{AreFound, AreSums}
use Rattle.gomod_outcomes.proofs.QueryParts.{query_ends}
use Rattle.gomod_outcomes.specs.Runs.{is_query}
use Rattle.gomod_outcomes.specs.Needs.{GraphNeeds}
use Rattle.gomod_words.specs.declared.usage.Command.{Command}
use Rattle.gomod_laws.specs.Runs.{HasPrinted}
use Rattle.gomod_laws.specs.Shown.{run_over}
use Rattle.gomod_laws.specs.SumLaws.{AreRight, OnlyRefuses, RightSumsChangeNothing}
use Rattle.gomod_laws.proofs.Ended.{Ends}
use Rattle.gomod_laws.proofs.FilesOnce.{misread_or_sums}
use Rattle.gomod_laws.proofs.FolderRuns.{no_fault_read}
use Rattle.gomod_laws.proofs.SumsAlike.{FindTheSame, no_invalid, same_query}
use Rattle.gomod_laws.proofs.SumsGiven.{by_query}

-- ---- what is printed with a go.sum is printed without one

module _ (main sums : List ℕ) (asked : List (Name × Reply)) (said : Main) (table : Option Sums)
    (found : AreFound (run_over main (Some sums) asked) said table []) where
  -- the go.sum found nothing wrong in an answer, since that would be a fault
  no_sum_fault : (name : Name) (content : List ℕ) → answer_in asked name ≡ Some (bytes content) → sum_fault table name content ≡ None
  no_sum_fault name content at = by _ refl
    where
      by : (its : Option Class) → sum_fault table name content ≡ its → its ≡ None
      by None is = refl
      by (Some class) is = absurd (no_fault_read _ _ _ found.settled found.faults_are _ _ class at (rw is refl))

  unfaulty : FindTheSame main (Some sums) None asked
  unfaulty = record {
    valid = λ report invalid. misread_or_sums (Some sums) report table invalid found.read.sums;
    other_valid = λ report invalid. invalid;
    finds = λ again t u files none read name needed content at. one_finding (Some sums) t _ files.sums found.read.sums name content
        ∙ no_sum_fault name content at ∙ one_finding None None u tt none name content;
  }

printed_finds : (command : Command) → is_query command ≡ true → (main sums : List ℕ) (asked : List (Name × Reply)) (outcome : Outcome)
    → Ends command main (Some sums) asked outcome → HasPrinted outcome → FindTheSame main (Some sums) None asked
printed_finds command query main sums asked outcome is prints =
    let run = run_over main (Some sums) asked in
    let (said, table, found, shows) = printed_run _ _ _ (query_ends _ _ _ query is) prints in
    unfaulty main sums asked said table found

pub only_refuses : OnlyRefuses
only_refuses command main sums asked others one other alike is be prints =
    sym (by_query _ _ _ _ _ _ _ _ alike (λ query. same_query _ query _ _ _ _ _ _ _ alike
    (printed_finds _ query _ _ _ _ is.0 prints) is.0 be.0) is.0 be.0)

-- ---- a go.sum with the right hashes changes nothing

module _ (main sums : List ℕ) (asked : List (Name × Reply)) (right : AreRight main sums asked) where
  right_fault : (t u : Option Sums) → AreSums None t → AreSums (Some sums) u → (name : Name) (content : List ℕ)
      → GraphNeeds main None (answer_in asked) name → answer_in asked name ≡ Some (bytes content)
      → sum_fault t name content ≡ sum_fault u name content
  right_fault (Some t) u reads tells name content needs at = absurd reads
  right_fault None None reads tells name content needs at = absurd tells
  right_fault None (Some u) reads tells (mod_file path version) content needs at =
      let hash = file_hash content in
      ap class_of_sum (one_says _ _ _ _ Good _ (right.listed path version content needs at) (tells.2 path version hash))
  right_fault None (Some u) reads tells (folder_file folder) content needs at = refl
  right_fault None (Some u) reads tells (list_file path) content needs at = refl

  by_right : FindTheSame main None (Some sums) asked
  by_right = record {
    valid = λ report invalid. invalid;
    other_valid = no_invalid _ right.short right.valid;
    finds = λ said t u files tells read name needed content at. right_fault t u files.sums tells _ _
        (record { main = said; table = t; read = files; calls = record { read = read; needed = needed } }) at;
  }

pub right_sums_change_nothing : RightSumsChangeNothing
right_sums_change_nothing command main sums asked others one other alike right is be =
    sym (by_query _ _ _ _ _ _ _ _ alike
    (λ query. same_query _ query _ _ _ _ _ _ _ alike (by_right main sums asked right) is.0 be.0) is.0 be.0)
