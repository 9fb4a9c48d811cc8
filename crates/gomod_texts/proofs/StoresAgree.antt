-- What the files of the opened modules say does not depend on what else was asked, or in which order.
use Rattle.std.proofs.Common.{◌≡◌, ◌∙◌, List, Option, Some, refl, subst, sym}
use Rattle.gm_file.specs.Main.{IsMainFile, Main}
use Rattle.gm_store_parts.specs.Asked.{Name, Reply, names_in}
use Rattle.gm_store_sums.specs.Sums.{Sums}
use Rattle.gm_graph_files.specs.Reading.{IsFileReading}
use Rattle.gm_graph.specs.Run.{IsSettled}
use Rattle.gm_graph_cache.specs.Sayings.{run_of}
use Rattle.gm_graph.proofs.RunLemmas.{Agrees, agree, settled_answers}
use Rattle.gomod_texts.specs.QueryLaws.{AnswerAlike, AreAlike}
use Rattle.gomod_texts.specs.Queries.{AreSums, FilesReadAs, Given}
use Rattle.gomod_texts.proofs.OneRead.{one_finding, one_main, read_alike}

pub alike_back : (one other : List (Name × Reply)) → AnswerAlike one other → AnswerAlike other one
alike_back one other alike name x y e f = sym (alike name y x f e)

-- runs that are alike are alike in either order
pub alike_reversed : (one other : Given) → AreAlike one other → AreAlike other one
alike_reversed one other alike = record {
  file = sym alike.file;
  sums = sym alike.sums;
  answers = alike_back _ _ alike.answers;
  failed = sym alike.failed;
}

-- a run is alike to itself: a name has exactly one answer
pub itself : (run : Given) → AreAlike run run
itself run = record { file = refl; sums = refl; answers = λ name x y e f. let same : Some x ≡ Some y = sym e ∙ f in cc same; failed = refl }

pub read_as_well : (one other : Given) (main : Main) (table : Option Sums) → AreAlike one other
    → FilesReadAs one.file one.sums main table → FilesReadAs other.file other.sums main table
read_as_well one other main table alike are = record {
  main_file = subst (λ bytes. IsMainFile bytes main) alike.file are.main_file;
  sums = subst (λ sums. AreSums sums table) alike.sums are.sums;
}

-- If all that the second run needs was asked for, it says of what it opens what the first run says of that.
pub stores_agree : (one other : Given) (main again : Main) (table next : Option Sums) → AreAlike one other
    → FilesReadAs one.file one.sums main table → FilesReadAs other.file other.sums again next
    → IsSettled (run_of again next other.answers.asked) (names_in other.answers.asked)
    → Agrees (run_of main table one.answers.asked) (run_of again next other.answers.asked)
stores_agree one other main again table next alike read reads settled =
    let here = read_as_well _ _ _ _ alike read in
    agree _ _ (one_main _ _ _ here.main_file reads.main_file)
    (λ name a b first second said is.
    read_alike _ _ (one_finding _ _ _ here.sums reads.sums) _ b _
    (subst (λ reply. IsFileReading table name reply said) (alike.answers name a b first second) is))
    (settled_answers _ _ _ settled)
