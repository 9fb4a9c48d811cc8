-- Two go.sums that find the same in each file that a run needs change nothing, nor do lines in another order, nor
-- needless lines.
use Rattle.std.proofs.Common.{◌≡◌, ◌∙◌, ◌≤◌, ◌↔◌, ◌++◌, ◌∷◌, ℕ, true, List, [], Option, Some, None, Result, ap, length, sym, refl, arith, codes, inl, inr}
use Rattle.std.proofs.lemmas.Bool.{false≢true}
use Rattle.gm_file.specs.Fields.{Dependency}
use Rattle.gm_store_parts.specs.Asked.{Name, Reply, absent, answer_in, bytes, folder_file, list_file, mod_file, names_in, too_long}
use Rattle.gm_store_sums.specs.Hash.{file_hash}
use Rattle.gm_store_sums.specs.Sums.{HasValidLines, IsSum, SaysOfHash as SaysOfHash, Sums}
use Rattle.gm_store_sums.specs.declared.sum_table.Sum.{Sum}
use Rattle.gm_store_sums.specs.declared.sum_table.Sum.TheVariants.{Differs, Good, Unlisted}
use Rattle.gm_file.specs.Main.{Main, IsMainFile}
use Rattle.gm_graph_files.specs.declared.class.Class.{Class}
use Rattle.gm_graph.specs.declared.fault.Fault.{Fault}
use Rattle.gm_graph_files.specs.Reading.{IsFileReading, class_of_sum, file_of, is_askable, sum_fault}
use Rattle.gm_graph.specs.Run.{AreTooMany, IsNeeded, IsRead, IsSettled}
use Rattle.gm_graph_cache.specs.Sayings.{FileSays, Run, answered, run_of, unaskable}
use Rattle.gm_graph.proofs.RunLemmas.{RequiresToo, asked_answered, many_too}
use Rattle.gm_graph_cache.proofs.Sayings.{says_if}
use Rattle.gomod_texts.specs.QueryLaws.{AnswerAlike}
use Rattle.gomod_texts.specs.Queries.{AreFound, AreInvalidSums, AreSums, FilesReadAs, QueryEnds, bad_main, bad_sums, device, faulty, longest, no_fault, too_many}
use Rattle.gomod_outcomes.specs.Needs.{GraphNeeds}
use Rattle.gomod_texts.specs.Outcome.{Outcome, refusal_outcome}
use Rattle.gomod_outcomes.specs.Private.ByCommand.{PrintsOf}
use Rattle.gomod_texts.specs.Reports.{too_many_line}
use Rattle.gomod_outcomes.specs.Runs.{is_query}
use Rattle.gomod_texts.proofs.OneRead.{one_main, one_says}
use Rattle.gomod_outcomes.proofs.QueryParts.{query_ends}
use Rattle.gomod_words.specs.declared.usage.Command.{Command}
use Rattle.gomod_laws.proofs.FilesOnce.{misread_or_main}
use Rattle.gomod_laws.proofs.Ended.{Ends}
use Rattle.gomod_laws.specs.SumLaws.{HasNeedlessLines, HasSumLine, NeedlessLinesChangeNothing, SumLinesInAnyOrder}
use Rattle.gomod_laws.specs.Shown.{run_over}
use Rattle.gomod_laws.proofs.FolderRuns.{answered_name}
use Rattle.gomod_laws.proofs.LineOrderSame.{says_itself}
use Rattle.gomod_laws.proofs.RunsAlike.{ReadAlike, found_to, prints_to}
use Rattle.gomod_laws.proofs.RunsOnce.{query_once}
use Rattle.gomod_laws.proofs.SumsGiven.{by_query}

-- ---- two go.sums that find the same

-- Both go.sums are valid, or not given. In each file that a run with these answers and the first one needs, they find
-- the same.
pub record FindTheSame (main : List ℕ) (one other : Option (List ℕ)) (asked : List (Name × Reply)) : Type 0 where
  pub valid : (report : List ℕ) → AreInvalidSums one report → ⊥
  pub other_valid : (report : List ℕ) → AreInvalidSums other report → ⊥
  pub finds : (said : Main) (t u : Option Sums) → FilesReadAs main one said t → AreSums other u → IsRead (run_of said t asked)
      → (name : Name) → IsNeeded (run_of said t asked) name → (content : List ℕ) → answer_in asked name ≡ Some (bytes content)
      → sum_fault t name content ≡ sum_fault u name content

-- what is read of an answer with the one, is read with the other
read_with : (t u : Option Sums) (name : Name) (reply : Reply) (said : Result Dependency Class)
    → ((content : List ℕ) → reply ≡ bytes content → sum_fault t name content ≡ sum_fault u name content)
    → IsFileReading t name reply said → IsFileReading u name reply said
read_with t u name absent said same is = is
read_with t u name too_long said same is = is
read_with t u name (bytes content) said same is = rw (same content refl) at is

module _ (main : List ℕ) (one other : Option (List ℕ)) (asked others : List (Name × Reply)) (alike : AnswerAlike asked others)
    (are : FindTheSame main one other asked) (said : Main) (t u : Option Sums) (files : FilesReadAs main one said t) (sums : AreSums other u) where
  abbrev one_run : Run
  one_run = run_of said t asked

  -- the run with the other go.sum, and over the other store
  abbrev other_run : Run
  other_run = run_of said u others

  -- of an answer that the first run needs the same is read
  same_read : IsRead one_run → (name : Name) (reply : Reply) → IsNeeded one_run name → answer_in asked name ≡ Some reply
      → (reading : Result Dependency Class) → IsFileReading t name reply reading ↔ IsFileReading u name reply reading
  same_read read name reply needed at reading =
      let same = λ (content : List ℕ) (is : reply ≡ bytes content). are.finds _ t u files sums read _ needed _ (at ∙ ap Some is) in
      (read_with t u _ _ _ same, read_with u t _ reply reading (λ content is. sym (same content is)))

  alike_with : IsRead one_run → ReadAlike one_run (run_of said u asked)
  alike_with read = record {
    mains = says_itself _;
    answers = λ name. refl;
    read = λ name reply reading need needs at. same_read read _ _ need at reading;
  }

  found_too : (faults : List Fault) → AreFound (run_over main one asked) said t faults → AreFound (run_over main other asked) said u faults
  found_too faults found =
      found_to _ main _ other _ _ t u (alike_with found.settled.read) read_too
      (record { main_file = files.main_file; sums = sums }) _ found
    where
      read_too : IsRead (run_of said u asked)
      read_too name reply at =
          let (reading, is) = found.settled.read name reply at in
          (reading, (same_read found.settled.read _ _ ((found.settled.needed name).0 (answered_name _ _ _ at)) at reading).0 is)

  -- what the first run opens the second opens, if it has found all
  module _ (read : IsRead one_run) (settled : IsSettled other_run (names_in others)) where
    file_too : (name : Name) → (is_askable name ≡ true → IsNeeded one_run name) → (is_askable name ≡ true → IsNeeded other_run name)
        → (reading : Result Dependency Class) → FileSays one_run name reading → FileSays other_run name reading
    file_too name need needs reading (unaskable isnt) = unaskable isnt
    file_too name need needs reading (answered reply ask at is) =
        let (next, told) = asked_answered _ _ ((settled.needed name).1 (needs ask)) in
        answered _ ask told (rw (alike name reply next at told) at ((same_read read _ _ (need ask) at reading).0 is))

    requires_too : RequiresToo one_run other_run
    requires_too x y file is be says there = (
      says_if refl (file_too (file_of said x) (λ ask. (x, is, refl, ask)) (λ ask. (x, be, refl, ask))) says,
      there,
    )

    not_few : AreTooMany one_run → ⊥
    not_few many =
        let (xs, long, are) = many_too _ _ (λ e. e) (λ x top. inl top) requires_too many in
        let few = settled.few xs are in
        omega (arith, long, few)

-- ---- a query

-- a run over these files and answers whose device did not fail
abbrev pub QueryEndsOver : Command → List ℕ → Option (List ℕ) → List (Name × Reply) → Outcome → Type 0
QueryEndsOver command main sums asked outcome = QueryEnds (PrintsOf command) (run_over main sums asked) outcome

module _ (command : Command) (main : List ℕ) (one other : Option (List ℕ)) (asked others : List (Name × Reply)) (a b : Outcome)
    (alike : AnswerAlike asked others) (are : FindTheSame main one other asked) (be : QueryEndsOver command main other others b) where
  -- what the other go.sum says, by the run with it
  table : {said : Main} → IsMainFile main said → (u : Option Sums) × AreSums other u
  table {said} is = by be
    where
      by : QueryEndsOver command main other others b → (u : Option Sums) × AreSums other u
      by (bad_main place misread none says) = absurd (misread_or_main _ _ _ misread is)
      by (bad_sums again report reads invalid none says) = absurd (are.other_valid report invalid)
      by (device again u name read due failed says) = (u, read.sums)
      by (too_many again u read all many none says) = (u, read.sums)
      by (faulty again u first more found says) = (u, found.read.sums)
      by (no_fault again u found shows) = (u, found.read.sums)

  -- if the first run opens too many modules, so does the second
  module _ (said : Main) (t : Option Sums) (files : FilesReadAs main one said t) (read : IsRead (run_of said t asked))
      (many : AreTooMany (run_of said t asked)) (says : a ≡ refusal_outcome too_many_line) where
    not_found : (again : Main) (u : Option Sums) (faults : List Fault) → AreFound (run_over main other others) again u faults → ⊥
    not_found again u faults found =
        not_few main one other asked _ alike are said t u files found.read.sums read
        (rw (one_main main again said found.read.main_file files.main_file) at found.settled)
        many

    many_both : QueryEndsOver command main other others b → a ≡ b
    many_both (bad_main place misread none is) = absurd (misread_or_main _ _ _ misread files.main_file)
    many_both (bad_sums again report file invalid none is) = absurd (are.other_valid report invalid)
    many_both (device again u name files due failed is) = absurd (let none : [] ≡ name ∷ [] = failed in cc none)
    many_both (too_many again u files all more none is) = says ∙ sym is
    many_both (faulty again u first more found is) = absurd (not_found _ u _ found)
    many_both (no_fault again u found shows) = absurd (not_found again u [] found)

  finish : QueryEndsOver command main other asked a → a ≡ b
  finish is =
      query_once _ a b (record { file = refl; sums = refl; answers = alike; failed = refl }) is be

  same_runs : QueryEndsOver command main one asked a → a ≡ b
  same_runs (bad_main place misread none says) = finish (bad_main _ misread none says)
  same_runs (bad_sums said report reads invalid none says) = absurd (are.valid _ invalid)
  same_runs (device said t name files due failed says) = absurd (let none = failed in cc none)
  same_runs (too_many said t files all many none says) = many_both said t files all many says be
  same_runs (faulty said t first more found says) =
      let (u, sums) = table found.read.main_file in
      finish (faulty _ u _ _ (found_too _ _ other _ others alike are _ t u found.read sums _ found) says)
  same_runs (no_fault said t found shows) =
      let (u, sums) = table found.read.main_file in
      finish (no_fault _ u (found_too _ one other asked others alike are said t u found.read sums [] found)
      (prints_to _ _
      (alike_with main one _ asked others alike are said t u found.read sums found.settled.read) _ a shows))

pub same_query : (command : Command) → is_query command ≡ true
    → (main : List ℕ) (one other : Option (List ℕ)) (asked others : List (Name × Reply)) (a b : Outcome) → AnswerAlike asked others
    → FindTheSame main one other asked → Ends command main one asked a → Ends command main other others b → a ≡ b
same_query command query main one other asked others a b alike are is be =
    same_runs _ _ _ _ _ _ a b alike are (query_ends _ b _ query be) (query_ends _ a _ query is)

-- ---- a go.sum with needless lines

-- a valid go.sum is not invalid
pub no_invalid : (sums : List ℕ) → length sums ≤ longest → HasValidLines sums → (report : List ℕ) → AreInvalidSums (Some sums) report → ⊥
no_invalid sums short valid report (inl long) = omega (arith, long.0, short)
no_invalid sums short valid report (inr bad) = let first = bad.2.0 in omega (arith, first, valid)

-- they have the same hashes for the go.mod of a module at a version
abbrev HaveSame : List ℕ → List ℕ → List ℕ → List ℕ → Type 0
HaveSame one other path version = (hash : List ℕ) → IsSum one path version hash ↔ IsSum other path version hash

says_too : (one other path version hash : List ℕ) (sum : Sum) → HaveSame one other path version
    → SaysOfHash one path version hash sum → SaysOfHash other path version hash sum
says_too one other path version hash Unlisted same is = λ h there. is h ((same h).1 there)
says_too one other path version hash Differs same is = (is.0, (same is.0).0 is.1, is.2)
says_too one other path version hash Good same is = ((same hash).0 is.0, λ h there. is.1 h ((same h).1 there))

module _ (main one other : List ℕ) (asked : List (Name × Reply)) (are : HasNeedlessLines main one other asked) where
  abbrev Needs : Name → Type 0
  Needs name = GraphNeeds main (Some one) (answer_in asked) name

  same_hashes : (path version : List ℕ) → Needs (mod_file path version) → HaveSame one other path version
  same_hashes path version needs hash = (
    (λ is. record { line = are.kept path (version ++ codes "/go.mod") hash is.line; kind = is.kind }),
    (λ is. record { line = back is; kind = is.kind }),
  )
    where
      back : IsSum other path version hash → HasSumLine one path (version ++ codes "/go.mod") hash
      back is = elim (are.needless path (version ++ codes "/go.mod") hash is.line) [
        | inl there ↦ there
        | inr (inl unneeded) ↦ absurd (unneeded version refl needs)
        | inr (inr other_kind) ↦ absurd (false≢true (sym other_kind ∙ is.kind))
      ]

  -- a file that comes from no proxy has no hash
  same_fault : (t u : Option Sums) → AreSums (Some one) t → AreSums (Some other) u → (name : Name) (content : List ℕ) → Needs name
      → sum_fault t name content ≡ sum_fault u name content
  same_fault None u reads tells name content needs = absurd reads
  same_fault (Some t) None reads tells name content needs = absurd tells
  same_fault (Some t) (Some u) reads tells (mod_file path version) content needs =
      let hash = file_hash content in
      ap class_of_sum (one_says _ _ _ _ _ _ (says_too _ _ _ _ _ _ (same_hashes _ _ needs) (reads.2 path version hash))
      (tells.2 path version hash))
  same_fault (Some t) (Some u) reads tells (folder_file folder) content needs = refl
  same_fault (Some t) (Some u) reads tells (list_file path) content needs = refl

  by_needed : FindTheSame main (Some one) (Some other) asked
  by_needed = record {
    valid = no_invalid _ are.short are.valid;
    other_valid = no_invalid _ are.other_short are.other_valid;
    finds = λ said t u files sums read name needed content at. same_fault t u files.sums sums _ _
        (record { main = said; table = t; read = files; calls = record { read = read; needed = needed } });
  }

pub needless_lines_change_nothing : NeedlessLinesChangeNothing
needless_lines_change_nothing command main one other asked others a b alike are is be =
    by_query _ _ _ _ _ _ a b alike
    (λ query. same_query _ query _ _ _ _ _ a b alike (by_needed main one other asked are) is.0 be.0) is.0 be.0

-- lines in another order are needless lines, of which there are none
pub sum_lines_in_any_order : SumLinesInAnyOrder
sum_lines_in_any_order command main one other asked others a b alike are is be =
    needless_lines_change_nothing command main one other asked others a b alike
    (record {
      short = are.short;
      valid = are.valid;
      other_short = are.other_short;
      other_valid = are.other_valid;
      kept = λ path version hash there. (are.same path version hash).0 there;
      needless = λ path version hash there. inl ((are.same path version hash).1 there);
    })
    is be
