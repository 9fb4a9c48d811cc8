-- Two main files that say the same come to the same.
use Rattle.std.proofs.Common.{ℕ, List, [], Option, refl}
use Rattle.gm_store_sums.specs.Sums.{Sums}
use Rattle.gm_file.specs.Main.{Main, IsMainFile}
use Rattle.gm_graph.specs.declared.fault.Fault.{Fault}
use Rattle.gm_graph_cache.specs.Sayings.{Run, run_of}
use Rattle.gomod_texts.specs.Queries.{Answers, AreFound, FilesReadAs, bad_main, bad_sums, device, faulty, given_of, no_fault, too_many}
use Rattle.gomod_texts.proofs.OneRead.{one_main}
use Rattle.gomod_laws.proofs.FilesOnce.{misread_or_main}
use Rattle.gomod_laws.proofs.LineOrderRuns.{QueriesMove}
use Rattle.gomod_laws.proofs.LineOrderSame.{SayTheSame}
use Rattle.gomod_laws.proofs.RunsAlike.{ReadAlike, due_to, found_to, many_to, prints_to}

module _ (file other : List ℕ) (sums : Option (List ℕ)) (m n : Main) (is : IsMainFile file m) (also : IsMainFile other n) (same : SayTheSame m n) where
  -- a run over the one file, as one over the other
  module _ (told : Answers) (again : Main) (table : Option Sums) (read : FilesReadAs file sums again table) where
    abbrev one : Run
    one = run_of again table told.asked

    abbrev two : Run
    two = run_of n table told.asked

    alike : ReadAlike one two
    alike = record {
      mains = rw (one_main _ _ m read.main_file is) same;
      answers = λ name. refl;
      read = λ name reply said need needs at. (λ reads. reads, λ reads. reads);
    }

    also_read : FilesReadAs other sums n table
    also_read = record { main_file = also; sums = read.sums }

    same_found : (faults : List Fault) → AreFound (given_of file sums told) again table faults → AreFound (given_of other sums told) n table faults
    same_found faults found = found_to _ _ _ _ _ n _ _ alike found.settled.read also_read _ found

  pub queries_move : QueriesMove file other sums
  queries_move command told outcome (bad_main place misread none says) = absurd (misread_or_main _ _ m misread is)
  queries_move command told outcome (bad_sums again report read invalid none says) = bad_sums n _ also invalid none says
  queries_move command told outcome (device again table name read due failed says) =
      device n _ _ (also_read told again table read) (due_to _ _ (alike told again table read) due.calls.read name due) failed says
  queries_move command told outcome (too_many again table read all many none says) =
      too_many n _ (also_read told again table read) all (many_to _ _ (alike told again table read) many) none says
  queries_move command told outcome (faulty again table first others found says) = faulty n _ _ _ (same_found _ _ _ found.read _ found) says
  queries_move command told outcome (no_fault again table found shows) =
      no_fault n _ (same_found told again table found.read [] found) (prints_to _ _ (alike told again table found.read) _ _ shows)
