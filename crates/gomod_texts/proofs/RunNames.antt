-- What a run finds is proper: names are names, and the number of a faulty line is one that a file can have.
use Rattle.std.proofs.Common.{ℕ, List, [], map, not, Option, Some, None, IfSome, Result, Ok, Err, Contains, refl, sym, subst, inl, inr}
use Rattle.std.specs.List.{AllByRecursion}
use Rattle.std.proofs.lemmas.List.Elements.{All-contains, All-filter, All-from_recursion, Contains-push_cases}
use Rattle.gm_name.specs.Path.{IsPath}
use Rattle.gm_name.specs.ModuleVersion.{ModuleVersion}
use Rattle.gm_syntax.specs.LineViews.{plain_lines}
use Rattle.gm_file.specs.Directives.{Lax, Strict, directives}
use Rattle.gm_file.specs.Fields.{Dependency, replacement_of}
use Rattle.gm_file.specs.Main.{Main, is_excluded, without_excluded, IsMainFile, replacement_in}
use Rattle.gm_file.specs.declared.misreading.Misreading.TheVariants as misreading
use Rattle.gm_store_parts.specs.Asked.{Name, Reply, absent, bytes, mod_file, too_long}
use Rattle.gm_store_sums.specs.Sums.{Sums}
use Rattle.gm_store_sums.specs.declared.sum_table.Sum.{Sum}
use Rattle.gm_store_sums.specs.declared.sum_table.Sum.TheVariants.{Good, Unlisted, Differs}
use Rattle.gm_graph_files.specs.declared.class.Class.{Class}
use Rattle.gm_graph_files.specs.declared.class.Class.TheVariants.{Malformed}
use Rattle.gm_graph_files.specs.Reading.{IsContentReading, IsFileReading, IsReadUnless, class_of_sum, sum_fault}
use Rattle.gm_graph_cache.specs.Sayings.{FileSays, Requires, Run, Says, answered, faulty, run_of, sound, unaskable, wrong_path}
use Rattle.gm_graph.specs.Run.{IsDeep, IsEdge, IsOpened, IsTop, from_deep, from_main, from_top}
use Rattle.gm_file.proofs.Pairwise.{faultless-apart}
use Rattle.gm_graph_select.proofs.RankedLists.{from_mapped}
use Rattle.gm_graph_select.specs.declared.step.Step.{Step}
use Rattle.gm_graph_select.specs.declared.step.Step.TheVariants.{Main as FromMain, Of}
use Rattle.gm_graph_select.specs.BuildList.{entry_of, main_entry}
use Rattle.gm_graph.specs.Entries.{Entry}
use Rattle.gm_graph_select.specs.Chains.{IsChain, begins, goes_on}
use Rattle.gm_graph_select.proofs.Ascending.{member_cases, no_member}
use Rattle.gomod_texts.specs.PrintedLines.{AreProperSteps, IsProperClass, IsProperRight, IsProperRow, IsProperStep, RunHasNames, RunHasProperEdges, RunHasProperFaults, RunHasProperRows, RunHasProperSteps}
use Rattle.gomod_texts.proofs.FileNames.{IsName, proper_path, proper_replacement, proper_requirements, said_properly}
use Rattle.gomod_texts.proofs.LineNumbers.{misread_few}

-- ---- the file of a dependency

-- what a file requires are paths and versions, and its fault is a proper one
abbrev IsProper : Result Dependency Class → Type 0
IsProper (Ok file) = AllByRecursion IsName file.requirements
IsProper (Err class) = IsProperClass class

sum_proper : (sum : Sum) → IfSome (class_of_sum sum) IsProperClass
sum_proper Good = tt
sum_proper Unlisted = tt
sum_proper Differs = tt

found_proper : (table : Option Sums) (name : Name) (content : List ℕ) → IfSome (sum_fault table name content) IsProperClass
found_proper None name content = tt
found_proper (Some table) (mod_file path version) content = sum_proper _
found_proper (Some table) name content = tt

content_proper : (content : List ℕ) (said : Result Dependency Class) → IsContentReading content said → IsProper said
content_proper content (Ok file) (doc, parsed, none, is) =
    subst (λ (f : Dependency). AllByRecursion IsName f.requirements) is
    (proper_requirements (directives Lax (plain_lines doc)) (said_properly Lax content doc parsed none))
content_proper content (Err (Malformed number misreading.TooMany)) is = absurd is
content_proper content (Err (Malformed number kind)) is = misread_few content number kind is
content_proper content (Err class) is = tt

unless_proper : (o : Option Class) (content : List ℕ) (said : Result Dependency Class) → IfSome o IsProperClass → IsReadUnless o content said → IsProper said
unless_proper (Some class) content said proper is = subst IsProper (sym is) proper
unless_proper None content said proper is = content_proper _ _ is

reply_proper : (table : Option Sums) (name : Name) (reply : Reply) (said : Result Dependency Class) → IsFileReading table name reply said → IsProper said
reply_proper table name absent said is = subst IsProper (sym is) tt
reply_proper table name too_long said is = subst IsProper (sym is) tt
reply_proper table name (bytes content) said is = unless_proper (sum_fault table name content) content said (found_proper table name content) is

file_proper : {run : Run} {name : Name} {said : Result Dependency Class} → FileSays run name said → IsProper said
file_proper (unaskable e) = tt
file_proper {run} {name} {said} (answered reply askable at is) = reply_proper run.sums name reply said is

says_proper : {run : Run} {x : ModuleVersion} {said : Result Dependency Class} → Says run x said → IsProper said
says_proper (faulty is) = file_proper is
says_proper (wrong_path file is wrong) = tt
says_proper (sound is own) = file_proper is

-- ---- the main file

-- its path is one, what it requires are paths and versions, and the right side of each row is proper
abbrev IsProperMain : Main → Type 0
IsProperMain main = IsPath main.path × AllByRecursion IsName main.requirements × ((x : ModuleVersion) → IsProperRight (replacement_of main.replaces x))

main_proper : (file : List ℕ) (main : Main) → IsMainFile file main → IsProperMain main
main_proper file main (lines, (parsed, none), is) =
    let ds = directives Strict (plain_lines lines) in
    let are = said_properly _ _ _ parsed none in
    subst IsProperMain is
    (proper_path ds are (faultless-apart _ none).declared, proper_requirements ds are, λ x. proper_replacement ds x are)

-- ---- the run

module _ (run : Run) (file : List ℕ) (main_is : IsMainFile file run.main) where
  kept_name : (xs : List ModuleVersion) (x : ModuleVersion) → AllByRecursion IsName xs → Contains (without_excluded run.main xs) x → IsName x
  kept_name xs x are there =
      All-contains IsName _ x
      (All-filter (λ y. not (is_excluded run.main y)) IsName xs (All-from_recursion _ xs are)) there

  top_name : (x : ModuleVersion) → IsTop run x → IsName x
  top_name x top = kept_name _ x (main_proper file run.main main_is).1 top

  required_name : (x y : ModuleVersion) → Requires run x y → IsName y
  required_name x y (required, says, there) = kept_name _ y (says_proper says) there

  deep_name : {x : ModuleVersion} → IsDeep run x → IsName x
  deep_name (from_main {x} unpruned top) = top_name x top
  deep_name (from_top {x} {y} required top says unpruned there) = required_name x y (required, says, there)
  deep_name (from_deep {x} {y} below requires) = required_name x y requires

  pub opened_name : (x : ModuleVersion) → IsOpened run x → IsName x
  opened_name x (inl top) = top_name x top
  opened_name x (inr deep) = deep_name deep

  pub end_name : (s : Step) (y : ModuleVersion) → IsEdge run s y → IsName y
  end_name FromMain y top = top_name y top
  end_name (Of x) y (opens, requires) = required_name x y requires

  start_proper : (s : Step) (y : ModuleVersion) → IsEdge run s y → IsProperStep s
  start_proper FromMain y is = tt
  start_proper (Of x) y (opens, requires) = opened_name x opens

  chain_proper : {s : Step} {steps : List Step} → IsChain (IsEdge run) s steps → AreProperSteps steps
  chain_proper begins step there = elim (member_cases _ _ [] there) [
    | inl same ↦ subst IsProperStep same tt
    | inr none ↦ absurd (no_member _ none)
  ]
  chain_proper (goes_on {s} {y} {steps} chain before) step there =
      let first : Contains steps step → IsProperStep step = λ inside. chain_proper chain step inside in
      elim (Contains-push_cases _ _ _ there) [
        | inl inside ↦ first inside
        | inr same ↦ subst IsProperStep same (end_name s y before.is_edge)
      ]

pub run_has_names : RunHasNames
run_has_names run main table read =
    let r = run_of _ _ _ in (
      (main_proper _ _ read.main_file).0,
      opened_name r run.file read.main_file,
      (λ x vertex. end_name r _ read.main_file vertex.0 x vertex.1),
    )

pub run_has_proper_faults : RunHasProperFaults
run_has_proper_faults run main table faults read are one there =
    let (opens, says) = (are.each one).0 there in
    let names = opened_name _ run.file read.main_file one.vertex opens in
    (names.0, names.1, says_proper says)

pub run_has_proper_rows : RunHasProperRows
run_has_proper_rows run main table rows read are row there =
    elim (member_cases main_entry row (map (entry_of (replacement_in main)) are.selected)
    (subst (λ (es : List Entry). Contains es row) are.entries_are there)) [
      | inl same ↦ subst IsProperRow same refl
      | inr later ↦ (let (x, inside, is) = from_mapped (entry_of (replacement_in main)) are.selected row later in
          let end = ((are.each x).0 inside).is_end in
          let name = end_name (run_of main table run.answers.asked) run.file read.main_file end.0 x end.1 in
          let proper : IsProperRow (entry_of (replacement_in main) x) = (name.0, name.1, (main_proper run.file main read.main_file).2 x) in
          subst IsProperRow is proper)
    ]

pub run_has_proper_edges : RunHasProperEdges
run_has_proper_edges run main table edges read are one there =
    let is = (are.each one).0 there in
    let r = run_of _ _ _ in
    (start_proper r _ read.main_file one.from one.to is, end_name r _ read.main_file one.from one.to is)

pub run_has_proper_steps : RunHasProperSteps
run_has_proper_steps run main table s steps read chain = chain_proper (run_of _ _ _) run.file read.main_file chain
