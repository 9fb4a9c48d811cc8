-- What single definitions say in these worlds. A lemma that all worlds share would hide which of them was changed.
use Rattle.std.specs.Prelude.{◌≡◌, ◌⊎◌, List, [], ◌∷◌, Some, None, Result, Ok, Err, codes}
use Rattle.page.specs.Asked.{Name, Reply, absent, answer_in, bytes, mod_file, too_long}
use Rattle.page.specs.BuildList.{HasEntryFor, IsRestAfter, IsSelected, main_entry}
use Rattle.page.specs.Entries.{Entry}
use Rattle.page.specs.Directives.{Folder, Module, Replacing, left_without}
use Rattle.page.specs.Fields.{Dependency, right_for}
use Rattle.page.specs.Files.{end_one, local_file, low_nine, low_ten, main_file, mid_nine, mid_ten, old_file, own_one, top_file, top_one, top_text}
use Rattle.page.specs.Files.RowFiles.{alone_file, first_of, huge_text, malformed_text, one_file, three_file}
use Rattle.page.specs.Graph.{Edges, IsEdgeEnd}
use Rattle.page.specs.ListQuery.{replacement_text, PrintsRows}
use Rattle.page.specs.Main.{without_excluded}
use Rattle.page.specs.ModuleVersion.{ModuleVersion}
use Rattle.page.specs.Outcome.{Outcome}
use Rattle.page.specs.Reading.{IsContentReading, IsFileReading, IsReadUnless}
use Rattle.page.specs.Run.{IsDeep, IsEdge, IsFault, IsNeeded, IsOpened, IsRead, IsTop}
use Rattle.page.specs.Sayings.{FileSays, Requires, Run, Says, run_of}
use Rattle.page.specs.Reports.{class_text}
use Rattle.page.specs.Types.{BadVersion, Class, Malformed, Missing, NoSum, NotFetchable, Of, TooLong, WrongArguments, WrongPath, sums_table}
use Rattle.page.specs.Version.{precedence, version_cmp}
use Rattle.std.specs.declared.cmp.Ordering.TheVariants.{Greater, Less}
use Rattle.page.specs.Worlds.{asked_folder, printing, pruned_answers, unpruned_answers, wrong_answers}
use Rattle.page.specs.Worlds.Rows.{a_name, answer, fork_name, malformed_answers, name_at, sums_answers, unopened_answers}

abbrev pub pruned_run : Run
pruned_run = run_of main_file None pruned_answers

abbrev pub three_rows : List Entry
three_rows = main_entry ∷ (Of end_one, None) ∷ (Of low_nine, None) ∷ []

abbrev pub local_name : Name
local_name = mod_file (codes "local") (codes "v1.0.0")

-- the file of another module
abbrev pub stray_answers : List (Name × Reply)
stray_answers = answer (codes "a") top_text ∷ []

abbrev pub local_answers : List (Name × Reply)
local_answers = (local_name, absent) ∷ []

-- bytes that no store gives
abbrev pub huge_answers : List (Name × Reply)
huge_answers = (a_name, bytes huge_text) ∷ []

-- Edges to two versions of a path, to two paths, and to the main module's path.
abbrev pub two_versions : Edges
two_versions step y = (y ≡ mid_nine) ⊎ (y ≡ mid_ten)

abbrev pub two_paths : Edges
two_paths step y = (y ≡ mid_nine) ⊎ (y ≡ low_ten)

abbrev pub to_own : Edges
to_own step y = y ≡ own_one

-- No valid file has two replaces with one left side.
abbrev pub twice_replaced : List Replacing
twice_replaced =
    (left_without (codes "a"), Folder (codes "x")) ∷ (left_without (codes "a"), Folder (codes "y")) ∷ []

-- Its first and last entry have one path.
abbrev pub twice_rows : List Entry
twice_rows = (Of end_one, None) ∷ (Of low_nine, None) ∷ (Of end_one, None) ∷ []

pub record PartsAreShown : Type 0 where
  -- a name has its own answer
  pub answered : answer_in ((a_name, absent) ∷ (fork_name, too_long) ∷ []) fork_name ≡ Some too_long
  -- a file that is missing, and one that is too long
  pub missing : IsFileReading None a_name absent (Err Missing)
  pub long : IsFileReading None a_name too_long (Err TooLong)
  -- a fault of the go.sum comes before the contents, which are read laxly
  pub first : IsReadUnless (Some NoSum) malformed_text (Err NoSum)
  pub lax : IsContentReading malformed_text (Err (Malformed 3 WrongArguments))
  pub unlisted : FileSays (run_of three_file (Some sums_table) sums_answers) (name_at (codes "b") (codes "v1.1.0"))
      (Err NoSum)
  -- bytes that say nothing have a hash, so a go.sum that lists nothing tells what is wrong with them
  pub read : IsRead (run_of one_file (Some []) huge_answers)
  -- one version is excluded, and neither another one of its path nor that version of another path
  pub left : without_excluded main_file (low_nine ∷ mid_ten ∷ low_ten ∷ []) ≡ low_nine ∷ mid_ten ∷ []
  -- a file of a wrong path
  pub wrong : Says (run_of local_file None wrong_answers) mid_nine (Err WrongPath)
  -- what is opened deeply: from an unpruned main file, from an unpruned file at the top, and from there
  pub from_main : IsDeep (run_of old_file None unpruned_answers) mid_nine
  pub from_top : IsDeep pruned_run mid_ten
  pub from_deep : IsDeep pruned_run end_one
  -- a module that is opened deeply is opened, its file is needed, and its fault counts
  pub opened : IsOpened pruned_run mid_ten
  pub needed : IsNeeded pruned_run asked_folder
  pub fault : IsFault (run_of three_file None malformed_answers)
      (record { vertex = first_of (codes "b"); class = Malformed 3 WrongArguments })
  -- an edge from a module that is pruned, from one that is opened at the top alone, and an end of any module's edge
  pub edge : IsEdge pruned_run (Of mid_nine) low_nine
  pub top_edge : IsEdge (run_of one_file None unopened_answers) (Of (first_of (codes "a"))) (first_of (codes "c"))
  pub end : IsEdgeEnd (λ step x. step ≡ Of mid_nine) low_nine
  -- the greater of two versions is selected, whatever the versions of other paths are
  pub greater : IsSelected (codes "m") two_versions mid_ten
  pub other_path : IsSelected (codes "m") two_paths mid_nine
  -- of two versions of one precedence the text decides
  pub tie : version_cmp (codes "v1.0.0+b") (codes "v1.0.0") ≡ Greater
  -- build metadata does not count before that, and the pre-release does
  pub builds : precedence (1, 0, 0, codes "9", codes "b") (1, 0, 0, codes "10", []) ≡ Less
  -- of two replaces with one left side the first counts
  pub first_right : right_for twice_replaced (left_without (codes "a")) ≡ Some (Folder (codes "x"))
  -- a fault of the whole file has line 0
  pub whole : class_text (Malformed 0 BadVersion) ≡ codes "Malformed 0 BadVersion"
  -- what stands behind the arrow of a row
  pub replacing : replacement_text (Module (codes "fork.org") (codes "v1.9.0")) ≡ codes "fork.org v1.9.0"
  -- a row, and what follows it
  pub has_row : HasEntryFor (codes "m") three_rows (codes "end.org")
  pub rest : IsRestAfter (codes "m") three_rows (codes "end.org") ((Of low_nine, None) ∷ [])

-- What does not hold in these worlds.
pub record OthersDoNotHold : Type 0 where
  -- an excluded version is at the top, or required
  pub top : IsTop pruned_run low_ten → ⊥
  pub required : Requires pruned_run top_one low_ten → ⊥
  -- a file of a wrong path requires a module
  pub wrong : (y : ModuleVersion) → Requires (run_of local_file None wrong_answers) mid_nine y → ⊥
  -- a module is opened deeply below a pruned main file that requires a pruned one
  pub deep : (x : ModuleVersion) → IsDeep (run_of one_file None unopened_answers) x → ⊥
  -- or below one that requires a module with an unpruned file of a wrong path
  pub wrong_deep : (x : ModuleVersion) → IsDeep (run_of one_file None stray_answers) x → ⊥
  -- an edge leaves a module that is not opened, though its file requires one
  pub unopened : IsEdge (run_of alone_file None unopened_answers) (Of (first_of (codes "a"))) (first_of (codes "c")) → ⊥
  -- a file that may not be asked for says anything else, even if it was answered
  pub said : (said : Result Dependency Class) → FileSays (run_of local_file None local_answers) local_name said
      → said ≡ Err NotFetchable
  pub needed : IsNeeded (run_of local_file None local_answers) local_name → ⊥
  -- bytes that say nothing are read
  pub unread : IsRead (run_of one_file None huge_answers) → ⊥
  -- a module with a right path, or with a wrong one, says anything else
  pub right : (said : Result Dependency Class) → Says pruned_run top_one said → said ≡ Ok top_file
  pub faulty : (said : Result Dependency Class) → Says (run_of local_file None wrong_answers) mid_nine said
      → said ≡ Err WrongPath
  -- a module with the main module's path has a row, or the lesser of two versions
  pub own : IsSelected (codes "m") (IsEdge pruned_run) own_one → ⊥
  pub to_own : IsSelected (codes "m") to_own own_one → ⊥
  pub lesser : IsSelected (codes "m") (IsEdge pruned_run) mid_nine → ⊥
  -- what follows a later entry of the path
  pub later : IsRestAfter (codes "m") twice_rows (codes "end.org") [] → ⊥
  -- something is printed after a path, up to a limit of 0
  pub limited : (outcome : Outcome) → PrintsRows main_file three_rows (Some (codes "end.org")) (Some 0) outcome
      → outcome ≡ printing []
