-- How `versions example.com/m` ends: what the store answers, and what is printed or reported.
use Rattle.std.specs.Prelude.{◌++◌, ℕ, Bool, true, false, List, [], ◌∷◌, codes}
use Rattle.std.specs.List.{AllByRecursion}
use Rattle.page_commands.specs.Asked.{Name, Reply, absent, answer_in, bytes, list_file, mod_file, too_long}
use Rattle.page_commands.specs.Outcome.{Outcome}
use Rattle.page_commands.specs.Latest.{IsLatest}
use Rattle.page_commands.specs.Versions.{HasListed, VersionsEnds}
use Rattle.page_commands.specs.Worlds.{prints, reports}

abbrev pub m : List ℕ
m = codes "example.com/m"

-- whether it has `--retracted`, the answers, and how it ends
pub record World : Type 0 where
  pub all : Bool
  pub answers : List (Name × Reply)
  pub ends : Outcome

abbrev pub Holds : World → Type 0
Holds w = VersionsEnds m w.all (answer_in w.answers) [] w.ends

abbrev pub listing : List ℕ → Name × Reply
listing text = (list_file m, bytes text)

-- what is printed after the path
abbrev pub shows : List ℕ → Outcome
shows text = prints (m ++ text ++ codes "\n")

-- a list, and with `--retracted` all of it
abbrev pub all_of : List ℕ → List ℕ → World
all_of list text = record { all = true; answers = listing list ∷ []; ends = shows text }

-- a list, its latest version, what the go.mod of that says after its module line, and the rest
abbrev pub shown_of : List ℕ → List ℕ → List ℕ → List ℕ → World
shown_of list latest file text = record {
  all = false;
  answers = listing list ∷ (mod_file m latest, bytes (codes "module example.com/m\n" ++ file)) ∷ [];
  ends = shows text;
}

-- a list that is no file, and what is reported
abbrev pub unlisted : Reply → List ℕ → World
unlisted reply word = record {
  all = false;
  answers = (list_file m, reply) ∷ [];
  ends = reports
      (m ++ codes ": " ++ word ++ codes "\n");
}

-- the go.mod of the latest version v1.1.0, and what is reported
abbrev pub faulty : Reply → List ℕ → World
faulty reply word = record {
  all = false;
  answers = listing (codes "v1.1.0\n") ∷ (mod_file m (codes "v1.1.0"), reply) ∷ [];
  ends = reports (m ++ codes "@v1.1.0: " ++ word ++ codes "\n");
}

abbrev pub list_worlds : List World
list_worlds =
    -- in ascending order, by numbers, each once
    all_of (codes "v1.10.0\nv1.9.0\nv0.10.0\nv1.9.0\n") (codes " v0.10.0 v1.9.0 v1.10.0")
    -- a release is above its pre-releases, of which numbers are compared as such
    ∷ all_of (codes "v1.0.0\nv1.0.0-rc.10\nv1.0.0-rc.9\nv1.0.0-beta\n")
    (codes " v1.0.0-beta v1.0.0-rc.9 v1.0.0-rc.10 v1.0.0")
    -- the first word of each line, whatever follows it
    ∷ all_of (codes "v1.0.0 2020-01-01\n\t v1.1.0\r\nx v1.2.0\n\nv1.3.0\tv1.4.0") (codes " v1.0.0 v1.1.0 v1.3.0")
    ∷ all_of [] []
    -- no text that is no canonical version, or doesn't fit
    ∷ all_of (codes "v1\nv1.2\n1.0.0\nv1.0.0+meta\nv01.0.0\nv1.0.0\n") (codes " v1.0.0")
    ∷ all_of (codes "v2.0.0\nv2.0.0+incompatible\nv1.0.0+incompatible\nv0.1.0\n") (codes " v0.1.0 v2.0.0+incompatible")
    -- no pseudo-version of the three forms, with a build or not
    ∷ all_of (codes "v0.0.0-20200101000000-abcdefabcdef\nv1.0.0-rc.1.0.20200101000000-a\nv1.0.0\n") (codes " v1.0.0")
    ∷ all_of (codes "v1.0.1-0.20200101000000-0\nv2.0.1-0.20200101000000-a+incompatible\nv1.0.0\n") (codes " v1.0.0")
    -- any major number, and any letters and digits as a revision
    ∷ all_of (codes "v1.0.0-20200101000000-a\nv0.0.0-20200101000000-XYZ9\nv0.1.0\n") (codes " v0.1.0")
    -- no pseudo-versions: fifteen digits; a letter among them, no revision, a patch number without a front, a dot in
    -- the revision
    ∷ all_of (codes "v0.0.0-202001010000000-a\n") (codes " v0.0.0-202001010000000-a")
    ∷ all_of
    (codes "v0.0.0-2020010100000x-a\nv0.0.0-20200101000000-\nv1.0.1-20200101000000-a\nv1.0.0-x.0.20200101000000-a.b\n")
    (codes " v0.0.0-20200101000000- v0.0.0-2020010100000x-a v1.0.0-x.0.20200101000000-a.b v1.0.1-20200101000000-a")
    -- thirteen digits, a dash in the revision, a minor number without a front, `0.` without a patch
    -- number, a front that doesn't end in `.0.`
    ∷ all_of (codes "v0.0.0-2020010100000-a\nv0.0.0-20200101000000-a-b\n")
    (codes " v0.0.0-2020010100000-a v0.0.0-20200101000000-a-b")
    ∷ all_of (codes "v0.1.0-20200101000000-a\nv1.0.0-0.20200101000000-a\nv1.0.0-rc.20200101000000-a\n")
    (codes " v0.1.0-20200101000000-a v1.0.0-0.20200101000000-a v1.0.0-rc.20200101000000-a")
    ∷ []

abbrev pub shown_worlds : List World
shown_worlds =
    shown_of (codes "v1.0.0\nv1.1.0\n") (codes "v1.1.0") [] (codes " v1.0.0 v1.1.0")
    ∷ shown_of (codes "v1.0.0\nv1.1.0\n") (codes "v1.1.0") (codes "retract v1.0.0\n") (codes " v1.1.0")
    -- both ends of an interval belong to it; one that begins above its end is empty
    ∷ shown_of (codes "v1.0.0\nv1.1.0\nv1.2.0\nv1.3.0\n") (codes "v1.3.0") (codes "retract [v1.1.0, v1.2.0]\n")
    (codes " v1.0.0 v1.3.0")
    ∷ shown_of (codes "v1.0.0\nv1.1.0\n") (codes "v1.1.0") (codes "retract [v1.1.0, v1.0.0]\n") (codes " v1.0.0 v1.1.0")
    -- by precedence: a pre-release of the high end, and no version with another number for its text
    ∷ shown_of (codes "v1.1.0\nv1.3.0-rc.1\nv1.10.0\n") (codes "v1.10.0") (codes "retract [v1.1.0, v1.3.0]\n")
    (codes " v1.10.0")
    ∷ shown_of (codes "v1.0.0\nv2.0.0+incompatible\n") (codes "v2.0.0+incompatible") (codes "retract v2.0.0\n")
    (codes " v1.0.0")
    -- the latest is the greatest release, though a pre-release is greater, also if it is incompatible
    ∷ shown_of (codes "v1.0.0\nv1.1.0-rc.1\n") (codes "v1.0.0") (codes "retract v1.1.0-rc.1\n") (codes " v1.0.0")
    ∷ shown_of (codes "v1.9.0\nv2.0.0+incompatible\nv3.0.0-rc.1+incompatible\n") (codes "v2.0.0+incompatible")
    (codes "retract v1.9.0\n") (codes " v2.0.0+incompatible v3.0.0-rc.1+incompatible")
    -- without a release it is the greatest pre-release
    ∷ shown_of (codes "v1.0.0-rc.9\nv1.0.0-rc.10\n") (codes "v1.0.0-rc.10") (codes "retract v1.0.0-rc.9\n")
    (codes " v1.0.0-rc.10")
    -- it may retract itself, and all
    ∷ shown_of (codes "v1.0.0\nv1.1.0\n") (codes "v1.1.0") (codes "retract v1.1.0\n") (codes " v1.0.0")
    ∷ shown_of (codes "v1.0.0\nv1.1.0\n") (codes "v1.1.0") (codes "retract (\n\t[v0.0.0, v1.0.5] // c\n\tv1.1.0\n)\n")
    []
    ∷ []

abbrev pub file_worlds : List World
file_worlds =
    -- what strict reading refuses of `retract` retracts nothing, and what lax reading ignores is no fault
    shown_of (codes "v1.0.0\nv1.1.0\n") (codes "v1.1.0")
    (codes "retract v1\nretract [v1.0.0\nretract v1.0.0 v1.1.0\nretract [v1, v2.0.0]\nfoo\n") (codes " v1.0.0 v1.1.0")
    ∷ shown_of (codes "v1.0.0\n") (codes "v1.0.0") (codes "go v1.17.x\n") (codes " v1.0.0")
    -- it may declare any path, or none
    ∷ (record {
      all = false;
      answers = listing (codes "v1.0.0\nv1.1.0\n") ∷ (mod_file m (codes "v1.1.0"), bytes (codes "retract v1.0.0\n"))
          ∷ [];
      ends = shows (codes " v1.1.0");
    })
    -- without a version no file is asked for
    ∷ (record { all = false; answers = listing (codes "v2.0.0\n") ∷ []; ends = shows [] })
    -- what is wrong with the list, and with the file
    ∷ unlisted absent (codes "Missing")
    ∷ unlisted too_long (codes "TooLong")
    ∷ faulty absent (codes "Missing")
    ∷ faulty too_long (codes "TooLong")
    ∷ faulty (bytes (codes "module x\nrequire a.b v1\n")) (codes "Malformed 2 BadVersion")
    ∷ faulty (bytes (codes "foo (\n")) (codes "Malformed 1 OpenBlock")
    ∷ faulty (bytes (codes "go 1\n")) (codes "Malformed 1 BadGo")
    ∷ []

abbrev pub ListsAreRead : Type 0
ListsAreRead = AllByRecursion Holds list_worlds

abbrev pub RetractedAreLeftOut : Type 0
RetractedAreLeftOut = AllByRecursion Holds shown_worlds

abbrev pub LatestFilesAreRead : Type 0
LatestFilesAreRead = AllByRecursion Holds file_worlds

-- The device fails on a file that is needed, with status 3; and a path that no proxy has.
abbrev pub fails : List (Name × Reply) → Name → List ℕ → Type 0
fails answers name report = VersionsEnds m false (answer_in answers) (name ∷ []) (record {
  text = [];
  report = codes "gomod: device at example.com/m" ++ report ++ codes "\n";
  status = 3;
})

-- No run has these answers, and a device that fails on the file.
abbrev pub HasNone : List (Name × Reply) → Name → Type 0
HasNone answers name = (outcome : Outcome) → VersionsEnds m false (answer_in answers) (name ∷ []) outcome → ⊥

abbrev pub local_list : List (Name × Reply)
local_list = (list_file (codes "m"), bytes (codes "v1.0.0\n")) ∷ []

pub record DeviceIsReported : Type 0 where
  pub list : fails [] (list_file m) (codes " list")
  pub file : fails (listing (codes "v1.0.0\nv1.1.0\nv1.2.0-rc.1\n") ∷ []) (mod_file m (codes "v1.1.0"))
      (codes "@v1.1.0")
  pub local : VersionsEnds (codes "m") false (answer_in []) [] (reports (codes "m: NotFetchable\n"))
  -- whatever was answered of such a path, it has no list
  pub local_all : VersionsEnds (codes "m") true (answer_in local_list) [] (reports (codes "m: NotFetchable\n"))
  pub unlisted : (versions : List (List ℕ)) → HasListed (codes "m") (answer_in local_list) versions → ⊥
  -- it can't fail on a file that was answered, or that is not needed
  pub answered : HasNone (listing (codes "v1.0.0\n") ∷ []) (list_file m)
  pub refused : HasNone ((list_file m, absent) ∷ []) (list_file m)
  pub unneeded : HasNone [] (mod_file m (codes "v1.0.0"))
  pub other : HasNone (listing (codes "v1.0.0\n") ∷ []) (mod_file m (codes "v0.9.0"))
  -- a lesser release is not the latest version, nor is a pre-release beside a release
  pub lesser : IsLatest (codes "v1.0.0" ∷ codes "v1.1.0" ∷ []) (codes "v1.0.0") → ⊥
  pub pre : IsLatest (codes "v1.1.0" ∷ codes "v1.2.0-rc.1" ∷ []) (codes "v1.2.0-rc.1") → ⊥
