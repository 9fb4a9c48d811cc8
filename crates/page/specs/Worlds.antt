-- How `list` ends in a few worlds, by the definitions beside this file.
use Rattle.std.specs.Prelude.{◌≡◌, ℕ, List, [], ◌∷◌, Option, Some, None, codes}
use Rattle.page.specs.Asked.{Name, Reply, bytes, folder_file, mod_file}
use Rattle.page.specs.Files.{end_text, folder_text, local_text, low_text, main_text, mid_text, old_text, short_text, top_text}
use Rattle.page.specs.Outcome.{Outcome}
use Rattle.page.specs.Queries.{Given}
use Rattle.page.specs.ListQuery.{ListEnds}
pub mod Parts
pub mod Rows
pub mod Table

abbrev pub asked_top : Name
asked_top = mod_file (codes "top.org") (codes "v1.0.0")

abbrev pub asked_mid : Name
asked_mid = mod_file (codes "mid.org") (codes "v1.9.0")

abbrev pub asked_fork : Name
asked_fork = mod_file (codes "fork.org") (codes "v1.9.0")

abbrev pub asked_folder : Name
asked_folder = folder_file (codes "./mid")

abbrev pub asked_low : Name
asked_low = mod_file (codes "low.org") (codes "v1.9.0")

abbrev pub asked_end : Name
asked_end = mod_file (codes "end.org") (codes "v1.0.0")

-- ---- runs and outcomes

-- a run over the bytes of a main file, and of a go.sum if there is one, with these answers
abbrev pub given_with : List ℕ → Option (List ℕ) → List (Name × Reply) → Given
given_with file sums asked = record { file = file; sums = sums; answers = record { asked = asked; failed = [] } }

-- a run without a go.sum
abbrev pub given_by : List ℕ → List (Name × Reply) → Given
given_by file asked = given_with file None asked

-- The device fails on a name.
abbrev pub failing : List ℕ → List (Name × Reply) → Name → Given
failing file asked name = record { file = file; sums = None; answers = record { asked = asked; failed = name ∷ [] } }

-- Outcomes that are written out: what is printed, with status 0, and what is reported, with status 1 or 3.
abbrev pub printing : List ℕ → Outcome
printing text = record { text = text; report = []; status = 0 }

abbrev pub reporting : List ℕ → Outcome
reporting report = record { text = []; report = report; status = 1 }

abbrev pub failing_with : List ℕ → Outcome
failing_with report = record { text = []; report = report; status = 3 }

-- A run has no second outcome: the worlds say what is printed or reported, and this says that nothing else is.
abbrev pub OneOutcome : Type 0
OneOutcome = (after : Option (List ℕ)) (limit : Option ℕ) (run : Given) (one other : Outcome)
    → ListEnds after limit run one → ListEnds after limit run other → one ≡ other

-- No run with `list` reads these bytes and gets these answers.
abbrev pub HasNoOutcome : Given → Type 0
HasNoOutcome run = (outcome : Outcome) → ListEnds None None run outcome → ⊥

-- ---- worlds

-- the answers to what the pruned main file needs
abbrev pub pruned_answers : List (Name × Reply)
pruned_answers = (asked_top, bytes top_text) ∷ (asked_fork, bytes mid_text) ∷ (asked_folder, bytes folder_text)
    ∷ (asked_end, bytes end_text) ∷ []

-- what is printed of it
abbrev pub pruned_text : List ℕ
pruned_text = codes "m\nend.org v1.0.0\nlow.org v1.9.0\nmid.org v1.10.0 => ./mid\ntop.org v1.0.0\n"

-- the answers to what the main file of go 1.16 needs
abbrev pub unpruned_answers : List (Name × Reply)
unpruned_answers = (asked_mid, bytes short_text) ∷ (asked_low, bytes low_text) ∷ []

abbrev pub unpruned_text : List ℕ
unpruned_text = codes "m\nlow.org v1.9.0\nmid.org v1.9.0\n"

-- mid.org has the file of top.org
abbrev pub wrong_answers : List (Name × Reply)
wrong_answers = (asked_mid, bytes top_text) ∷ []

-- The whole list, its first two rows, what follows a row, and the report on a path without a row.
pub record PrunedIsListed : Type 0 where
  pub whole : ListEnds None None (given_by main_text pruned_answers) (printing pruned_text)
  pub limited : ListEnds None (Some 2) (given_by main_text pruned_answers) (printing (codes "m\nend.org v1.0.0\n"))
  pub after : ListEnds (Some (codes "low.org")) None (given_by main_text pruned_answers) (printing
      (codes "mid.org v1.10.0 => ./mid\ntop.org v1.0.0\n"))
  pub unlisted : ListEnds (Some (codes "b.org")) None (given_by main_text pruned_answers) (reporting
      (codes "b.org: NotListed\n"))

-- Below an unpruned main file a pruned file is opened deeply.
abbrev pub UnprunedIsListed : Type 0
UnprunedIsListed = ListEnds None None (given_by old_text unpruned_answers) (printing unpruned_text)

-- A path that no proxy has is a fault, and its file is not asked for; so is a file that declares another path.
abbrev pub FaultsAreReported : Type 0
FaultsAreReported = ListEnds None None (given_by local_text wrong_answers) (reporting
    (codes "local@v1.0.0: NotFetchable\nmid.org@v1.9.0: WrongPath\n"))

-- The device fails on the file of the required module, before anything was answered. That is reported, with status 3.
abbrev pub DeviceIsReported : Type 0
DeviceIsReported = ListEnds None None (failing old_text [] asked_mid) (failing_with
    (codes "gomod: device at mid.org@v1.9.0\n"))
