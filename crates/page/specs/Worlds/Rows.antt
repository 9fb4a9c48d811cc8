-- More worlds, each of which shows one thing that `list` does.
use Rattle.std.specs.Prelude.{◌≡◌, ◌++◌, ℕ, suc, false, List, [], ◌∷◌, map, Option, Some, None, codes}
use Rattle.page.specs.Asked.{Name, Reply, absent, bytes, folder_file, mod_file, too_long}
use Rattle.page.specs.Files.RowFiles.{alone_text, both_text, corp_file, ends_text, excluding_text, forking_text, going, malformed_text, module_line, one_text, path_of, replacing_text, requiring, three_text, two_text, unfetchable_text, folders_text, greater_text, hosts_text, late_text, later_text, lesser_text, many_text, nine_text, unknown_text, full_file, most_opened, one_file, versions_below, wide_text}
use Rattle.page.specs.ListQuery.{ListEnds}
use Rattle.page.specs.ModuleVersion.{ModuleVersion}
use Rattle.page.specs.Reading.{declares}
use Rattle.page.specs.Run.{AreTooMany}
use Rattle.page.specs.Sayings.{run_of}
use Rattle.page.specs.Types.{first_text, fork_text, sums_text, twice_text}
use Rattle.page.specs.Worlds.{HasNoOutcome, failing, failing_with, given_by, given_with, printing, reporting}

-- the text is printed
abbrev pub IsListedAs : List ℕ → List (Name × Reply) → List ℕ → Type 0
IsListedAs file asked text = ListEnds None None (given_by file asked) (printing text)

-- nothing is printed, and this is reported
abbrev pub IsReportedAs : List ℕ → List (Name × Reply) → List ℕ → Type 0
IsReportedAs file asked report = ListEnds None None (given_by file asked) (reporting report)

-- ---- answers

-- the file of a version of `example.com/NAME`
abbrev pub name_at : List ℕ → List ℕ → Name
name_at name version = mod_file (path_of name) version

-- the answer to the file of the first version
abbrev pub answer : List ℕ → List ℕ → Name × Reply
answer name text = (name_at name (codes "v1.0.0"), bytes text)

-- the answer to the file of a module that requires nothing
abbrev pub bare_answer : List ℕ → List ℕ → Name × Reply
bare_answer name version = (name_at name version, bytes (module_line name))

abbrev pub a_name : Name
a_name = name_at (codes "a") (codes "v1.0.0")

abbrev pub a_bare : Name × Reply
a_bare = bare_answer (codes "a") (codes "v1.0.0")

-- ---- rows

-- A main file that requires nothing. No row follows that of the main module.
pub record MainAloneIsListed : Type 0 where
  pub whole : IsListedAs alone_text [] (codes "example.com/m\n")
  pub after : ListEnds (Some (codes "example.com/m")) None (given_by alone_text []) (printing [])

-- A main file of no bytes has no module line, and an unknown directive may stand on a late line. In such a run no file
-- was asked for, and the device failed on none.
pub record EmptyMainIsReported : Type 0 where
  pub empty : IsReportedAs [] [] (codes "go.mod:0: NoModule\n")
  pub late : IsReportedAs unknown_text [] (codes "go.mod:12: UnknownVerb\n")
  pub unasked : HasNoOutcome (given_by [] ((a_name, absent) ∷ []))
  pub unfailed : HasNoOutcome (failing [] [] a_name)

abbrev pub versions_answers : List (Name × Reply)
versions_answers =
    answer (codes "a") (requiring (codes "a") (codes "c") (codes "v1.9.0"))
    ∷ answer (codes "b") (requiring (codes "b") (codes "c") (codes "v1.10.0"))
    ∷ bare_answer (codes "c") (codes "v1.9.0") ∷ bare_answer (codes "c") (codes "v1.10.0") ∷ []

-- Numbers, not texts, order the versions.
abbrev pub GreaterVersionIsListed : Type 0
GreaterVersionIsListed = IsListedAs both_text versions_answers
    (codes "example.com/m\nexample.com/a v1.0.0\nexample.com/b v1.0.0\nexample.com/c v1.10.0\n")

abbrev pub unopened_answers : List (Name × Reply)
unopened_answers = answer (codes "a") (going (codes "a") (codes "1.17") (codes "c") (codes "v1.0.0")) ∷ []

-- What a pruned file requires is listed, and its file is not asked for.
abbrev pub UnopenedIsListed : Type 0
UnopenedIsListed = IsListedAs one_text unopened_answers
    (codes "example.com/m\nexample.com/a v1.0.0\nexample.com/c v1.0.0\n")

abbrev pub deep_answers : List (Name × Reply)
deep_answers =
    answer (codes "a") (going (codes "a") (codes "1.16") (codes "c") (codes "v1.0.0"))
    ∷ answer (codes "c") (going (codes "c") (codes "1.17") (codes "d") (codes "v1.0.0"))
    ∷ bare_answer (codes "d") (codes "v1.0.0") ∷ []

-- Below an unpruned file a pruned one is opened deeply.
abbrev pub DeepIsOpened : Type 0
DeepIsOpened = IsListedAs one_text deep_answers
    (codes "example.com/m\nexample.com/a v1.0.0\nexample.com/c v1.0.0\nexample.com/d v1.0.0\n")

abbrev pub both_ways_answers : List (Name × Reply)
both_ways_answers =
    answer (codes "a") (going (codes "a") (codes "1.17") (codes "c") (codes "v1.0.0"))
    ∷ answer (codes "b") (going (codes "b") (codes "1.15") (codes "a") (codes "v1.0.0"))
    ∷ answer (codes "c") (going (codes "c") (codes "1.17") (codes "d") (codes "v1.0.0"))
    ∷ bare_answer (codes "d") (codes "v1.0.0") ∷ []

-- A pruned file at the top is opened deeply, if an unpruned one requires it.
abbrev pub TopIsOpenedDeeply : Type 0
TopIsOpenedDeeply = IsListedAs two_text both_ways_answers
    (codes "example.com/m\nexample.com/a v1.0.0\nexample.com/b v1.0.0\nexample.com/c v1.0.0\nexample.com/d v1.0.0\n")

abbrev pub excluded_answers : List (Name × Reply)
excluded_answers = answer (codes "a") (requiring (codes "a") (codes "c") (codes "v1.2.0")) ∷ []

-- An excluded version is neither listed nor asked for.
abbrev pub ExcludedIsLeftOut : Type 0
ExcludedIsLeftOut = IsListedAs excluding_text excluded_answers (codes "example.com/m\nexample.com/a v1.0.0\n")

abbrev pub folder_answers : List (Name × Reply)
folder_answers = (folder_file (codes "../local"), bytes []) ∷ []

-- A folder replaces a module that no proxy has; its file may have no bytes.
abbrev pub FolderIsListed : Type 0
FolderIsListed = IsListedAs replacing_text folder_answers (codes "example.com/m\nlocal v0.0.0 => ../local\n")

-- Without the folder the module is a fault, and its file is not asked for.
abbrev pub UnfetchableIsReported : Type 0
UnfetchableIsReported = IsReportedAs unfetchable_text [] (codes "local@v0.0.0: NotFetchable\n")

abbrev pub fork_name : Name
fork_name = name_at (codes "fork") (codes "v1.1.0")

abbrev pub fork_answers : List (Name × Reply)
fork_answers = (fork_name, bytes (module_line (codes "fork"))) ∷ []

-- A fork that replaces each version of a path is listed itself, too; its file is asked for once.
abbrev pub ForkIsListed : Type 0
ForkIsListed = IsListedAs forking_text fork_answers
    (codes "example.com/m\nexample.com/a v1.0.0 => example.com/fork v1.1.0\nexample.com/fork v1.1.0\n")

abbrev pub wrong_fork_answers : List (Name × Reply)
wrong_fork_answers = (fork_name, bytes (module_line (codes "a"))) ∷ []

-- If the fork's file declares the replaced path, it is right for that path alone.
abbrev pub ForkIsReported : Type 0
ForkIsReported = IsReportedAs forking_text wrong_fork_answers
    (codes "example.com/fork@v1.1.0: WrongPath\n")

abbrev pub malformed_answers : List (Name × Reply)
malformed_answers =
    answer (codes "a") (requiring (codes "a") (codes "b") (codes "v1.0.0"))
    ∷ bare_answer (codes "b") (codes "v1.1.0") ∷ (name_at (codes "c") (codes "v1.0.0"), absent)
    ∷ answer (codes "b") malformed_text ∷ []

abbrev pub malformed_report : List ℕ
malformed_report =
    codes "example.com/b@v1.0.0: Malformed 3 WrongArguments\nexample.com/c@v1.0.0: Missing\n"

-- A malformed file has a line and a kind, and is a fault even of a version that has no row; so is a missing file.
-- A folder's file may be malformed, too, or too long.
pub record MalformedIsReported : Type 0 where
  pub both : IsReportedAs three_text malformed_answers malformed_report
  pub folder : IsReportedAs replacing_text ((folder_file (codes "../local"), bytes malformed_text) ∷ [])
      (codes "local@v0.0.0: Malformed 3 WrongArguments\n")
  pub long : IsReportedAs replacing_text ((folder_file (codes "../local"), too_long) ∷ [])
      (codes "local@v0.0.0: TooLong\n")
  -- all faults are reported, whatever the limit is, and whether the path is listed or not
  pub limited : ListEnds None (Some 1) (given_by three_text malformed_answers) (reporting malformed_report)
  pub after : ListEnds (Some (codes "example.com/q")) None (given_by three_text malformed_answers) (reporting
      malformed_report)

abbrev pub own_answers : List (Name × Reply)
own_answers =
    answer (codes "a") (requiring (codes "a") (codes "m") (codes "v0.9.0"))
    ∷ bare_answer (codes "z") (codes "v1.0.0")
    ∷ (name_at (codes "m") (codes "v0.9.0"), bytes (requiring (codes "m") (codes "k") (codes "v1.0.0")))
    ∷ bare_answer (codes "k") (codes "v1.0.0") ∷ []

-- what is printed after a path, up to a limit
abbrev pub OwnPrints : Option (List ℕ) → Option ℕ → List ℕ → Type 0
OwnPrints after limit text = ListEnds after limit (given_by ends_text own_answers) (printing text)

-- A requirement on the main module's own path has no row, and what it requires has one. The rows after a path may be
-- none; a limit counts from the first of them, and may be above their number.
pub record OwnPathIsLeftOut : Type 0 where
  pub all : IsListedAs ends_text own_answers
      (codes "example.com/m\nexample.com/a v1.0.0\nexample.com/k v1.0.0\nexample.com/z v1.0.0\n")
  pub after_main : OwnPrints (Some (codes "example.com/m")) None
      (codes "example.com/a v1.0.0\nexample.com/k v1.0.0\nexample.com/z v1.0.0\n")
  pub after_third : OwnPrints (Some (codes "example.com/k")) None (codes "example.com/z v1.0.0\n")
  pub after_last : OwnPrints (Some (codes "example.com/z")) None []
  pub limited : OwnPrints None (Some 2) (codes "example.com/m\nexample.com/a v1.0.0\n")
  pub three : OwnPrints None (Some 3) (codes "example.com/m\nexample.com/a v1.0.0\nexample.com/k v1.0.0\n")
  pub more : OwnPrints None (Some 9)
      (codes "example.com/m\nexample.com/a v1.0.0\nexample.com/k v1.0.0\nexample.com/z v1.0.0\n")
  pub none : OwnPrints None (Some 0) []
  pub both : OwnPrints (Some (codes "example.com/m")) (Some 1) (codes "example.com/a v1.0.0\n")

-- ---- go versions, versions and replacements

abbrev pub go_answers : List (Name × Reply)
go_answers =
    answer (codes "a") (going (codes "a") (codes "1.18") (codes "d") (codes "v1.0.0"))
    ∷ answer (codes "b") (going (codes "b") (codes "1.22") (codes "d") (codes "v1.0.0"))
    ∷ answer (codes "c") (going (codes "c") (codes "2.0") (codes "d") (codes "v1.0.0")) ∷ []

-- Files of go 1.18, 1.22 and 2.0 are pruned.
abbrev pub LaterGoIsListed : Type 0
LaterGoIsListed = IsListedAs later_text go_answers
    (codes "example.com/m\nexample.com/a v1.0.0\nexample.com/b v1.0.0\nexample.com/c v1.0.0\nexample.com/d v1.0.0\n")

abbrev pub parts_answers : List (Name × Reply)
parts_answers = answer (codes "a") lesser_text ∷ answer (codes "b") greater_text ∷ []

abbrev pub parts_text : List ℕ
parts_text = codes "example.com/m\nexample.com/a v1.0.0\nexample.com/b v1.0.0\nexample.com/c v1.0.10\n"
    ++ codes "example.com/d v1.0.0\nexample.com/e v1.0.0-10\nexample.com/f v1.0.0\nexample.com/g v1.1.0-9\n"

-- Each number of a version counts, the first most, and at last the pre-release.
abbrev pub EachPartCounts : Type 0
EachPartCounts = IsListedAs two_text parts_answers parts_text

abbrev pub folders_answers : List (Name × Reply)
folders_answers =
    (folder_file (codes "../a"), bytes (module_line (codes "z")))
    ∷ (folder_file (codes "../b"), bytes (module_line (codes "b"))) ∷ []

-- A replace of a version counts, whether it stands before or after one of the path. A folder's file may declare any
-- path.
abbrev pub FoldersAreListed : Type 0
FoldersAreListed = IsListedAs folders_text folders_answers
    (codes "example.com/m\nexample.com/a v1.0.0 => ../a\nexample.com/b v1.0.0 => ../b\n")

-- ---- faults

abbrev pub nine_answers : List (Name × Reply)
nine_answers =
    (name_at (codes "a") (codes "v1.9.0"), absent)
    ∷ answer (codes "b") (requiring (codes "b") (codes "a") (codes "v1.10.0"))
    ∷ (name_at (codes "a") (codes "v1.10.0"), too_long) ∷ []

-- Faults of one path come in the order of versions.
abbrev pub TwoFaultsAreReported : Type 0
TwoFaultsAreReported = IsReportedAs nine_text nine_answers
    (codes "example.com/a@v1.9.0: Missing\nexample.com/a@v1.10.0: TooLong\n")

-- A file without a module line declares no path, and an empty path is none. A line has two digits.
pub record OneFileIsReported : Type 0 where
  pub undeclared : IsReportedAs one_text (answer (codes "a") [] ∷ []) (codes "example.com/a@v1.0.0: WrongPath\n")
  pub late : IsReportedAs one_text (answer (codes "a") late_text ∷ [])
      (codes "example.com/a@v1.0.0: Malformed 12 BadVersion\n")
  pub no_path : declares (path_of (codes "a")) (Some []) ≡ false

-- No host name begins with a dash or has a capital letter; it may have digits and dashes.
abbrev pub HostsAreReported : Type 0
HostsAreReported = IsReportedAs hosts_text ((mod_file (codes "a-1.org") (codes "v1.0.0"), absent) ∷ [])
    (codes "-a.org@v1.0.0: NotFetchable\nA.org@v1.0.0: NotFetchable\na-1.org@v1.0.0: Missing\n")

abbrev pub first_answers : List (Name × Reply)
first_answers = answer (codes "a") (going (codes "a") (codes "1.16") (codes "c") (codes "v1.0.0")) ∷ []

-- The device fails on the file of a folder, of a module that replaces others or that another one requires, before
-- another file was asked for, or after a fault was found. It can't fail on a file that was answered.
pub record FolderDeviceIsReported : Type 0 where
  pub folder : ListEnds None None (failing replacing_text [] (folder_file (codes "../local"))) (failing_with
      (codes "gomod: device at ../local\n"))
  pub fork : ListEnds None None (failing forking_text [] fork_name) (failing_with
      (codes "gomod: device at example.com/fork@v1.1.0\n"))
  pub deep : ListEnds None None (failing one_text first_answers (name_at (codes "c") (codes "v1.0.0"))) (failing_with
      (codes "gomod: device at example.com/c@v1.0.0\n"))
  pub first : ListEnds None None (failing two_text [] a_name) (failing_with
      (codes "gomod: device at example.com/a@v1.0.0\n"))
  pub late : ListEnds None None (failing two_text ((a_name, absent) ∷ []) (name_at (codes "b") (codes "v1.0.0")))
      (failing_with (codes "gomod: device at example.com/b@v1.0.0\n"))
  pub answered : HasNoOutcome (failing one_text (a_bare ∷ []) a_name)

-- A run has no outcome if a needed file was not asked for, if another was, or the same one twice; if the device failed
-- on a file that is not needed; or if a file was asked for beside a go.sum that is invalid, or the device failed on it.
pub record OthersHaveNone : Type 0 where
  pub unasked : HasNoOutcome (given_by one_text [])
  pub unneeded : HasNoOutcome (given_by alone_text (a_bare ∷ []))
  pub twice : HasNoOutcome (given_by one_text (a_bare ∷ a_bare ∷ []))
  pub failed : HasNoOutcome (failing alone_text [] a_name)
  pub beside_sums : HasNoOutcome (given_with alone_text (Some (codes "a b\n")) (a_bare ∷ []))
  pub failed_beside_sums : HasNoOutcome (record (failing one_text [] a_name) { sums = Some (codes "a b\n") })

-- ---- the go.sum, and too many modules

abbrev pub sums_answers : List (Name × Reply)
sums_answers =
    bare_answer (codes "a") (codes "v1.0.0") ∷ bare_answer (codes "b") (codes "v1.1.0")
    ∷ bare_answer (codes "c") (codes "v1.0.0") ∷ []

abbrev pub two_missing : List (Name × Reply)
two_missing = (a_name, absent) ∷ (name_at (codes "b") (codes "v1.0.0"), absent) ∷ []

abbrev pub two_long : List (Name × Reply)
two_long = (a_name, too_long) ∷ (name_at (codes "b") (codes "v1.0.0"), too_long) ∷ []

-- The file of c declares another path.
abbrev pub lower_answers : List (Name × Reply)
lower_answers =
    answer (codes "a") (requiring (codes "a") (codes "b") (codes "v1.0.0"))
    ∷ bare_answer (codes "b") (codes "v1.1.0") ∷ answer (codes "c") (module_line (codes "d"))
    ∷ bare_answer (codes "b") (codes "v1.0.0") ∷ []

-- A go.sum lists a file, does not list the second, and lists another hash of the third. One that is invalid is
-- reported.
pub record SumsAreReported : Type 0 where
  pub checked : ListEnds None None (given_with three_text (Some sums_text) sums_answers) (reporting
      (codes "example.com/b@v1.1.0: NoSum\nexample.com/c@v1.0.0: SumDiffers\n"))
  pub invalid : ListEnds None None (given_with alone_text (Some (codes "a b\n")) [])
      (reporting (codes "go.sum:1: BadSum\n"))
  -- each line of a file counts; a folder's file has none
  pub twice : ListEnds None None (given_with one_text (Some twice_text) (a_bare ∷ [])) (reporting
      (codes "example.com/a@v1.0.0: SumDiffers\n"))
  pub folder : ListEnds None None (given_with replacing_text (Some sums_text) folder_answers) (printing
      (codes "example.com/m\nlocal v0.0.0 => ../local\n"))
  -- the main file is read first; a file of no bytes has a hash; one that is missing is so, listed or not
  pub both : ListEnds None None (given_with [] (Some (codes "a b\n")) []) (reporting (codes "go.mod:0: NoModule\n"))
  pub empty : ListEnds None None (given_with one_text (Some sums_text) (answer (codes "a") [] ∷ [])) (reporting
      (codes "example.com/a@v1.0.0: SumDiffers\n"))
  pub missing : ListEnds None None (given_with two_text (Some sums_text) two_missing) (reporting
      (codes "example.com/a@v1.0.0: Missing\nexample.com/b@v1.0.0: Missing\n"))
  pub long : ListEnds None None (given_with two_text (Some sums_text) two_long) (reporting
      (codes "example.com/a@v1.0.0: TooLong\nexample.com/b@v1.0.0: TooLong\n"))
  -- the file of a module that replaces others needs a line, and no other one; so does that of a version without a row;
  -- a wrong path and a malformed file come later; a go.sum may have no lines
  pub fork : ListEnds None None (given_with forking_text (Some sums_text) fork_answers) (reporting
      (codes "example.com/a@v1.0.0: NoSum\nexample.com/fork@v1.1.0: NoSum\n"))
  pub fork_alone : ListEnds None None (given_with forking_text (Some fork_text) fork_answers) (printing
      (codes "example.com/m\nexample.com/a v1.0.0 => example.com/fork v1.1.0\nexample.com/fork v1.1.0\n"))
  pub lower : ListEnds None None (given_with three_text (Some first_text) lower_answers) (reporting
      (codes "example.com/b@v1.0.0: NoSum\nexample.com/b@v1.1.0: NoSum\nexample.com/c@v1.0.0: NoSum\n"))
  pub none : ListEnds None None (given_with one_text (Some []) (a_bare ∷ [])) (reporting
      (codes "example.com/a@v1.0.0: NoSum\n"))
  pub malformed : ListEnds None None (given_with one_text (Some []) (answer (codes "a") malformed_text ∷ [])) (reporting
      (codes "example.com/a@v1.0.0: NoSum\n"))

-- No file of these modules is there.
abbrev pub all_absent : List ModuleVersion → List (Name × Reply)
all_absent = map (λ (x : ModuleVersion). (mod_file x.0 x.1, absent))

-- No module that the file requires is opened.
abbrev pub wide_answers : List (Name × Reply)
wide_answers = answer (codes "a") wide_text ∷ []

-- A main file requires one module too many, whether files were asked for or may not be, and one as many as may be
-- opened. A pruned file may require more. An invalid go.sum is reported first.
pub record TooManyAreReported : Type 0 where
  pub over : IsReportedAs many_text [] (codes "gomod: TooMany\n")
  pub asked : IsReportedAs many_text (all_absent (versions_below (suc most_opened))) (codes "gomod: TooMany\n")
  pub corp : AreTooMany (run_of corp_file None [])
  pub full : AreTooMany (run_of full_file None []) → ⊥
  pub unopened : AreTooMany (run_of one_file None wide_answers) → ⊥
  pub sums : ListEnds None None (given_with many_text (Some (codes "a b\n")) []) (reporting
      (codes "go.sum:1: BadSum\n"))
