-- How `list` ends in each world of the table (specs/Files/TableFiles).
use Rattle.std.specs.Prelude.{◌≡◌, ◌++◌, ℕ, zero, suc, List, [], ◌∷◌, map, Option, None, Some, Result, Ok, Err, codes}
use Rattle.std.specs.List.{AllByRecursion}
use Rattle.page.specs.Asked.{Name, Reply, absent, bytes}
use Rattle.page.specs.BuildList.{main_entry}
use Rattle.page.specs.Entries.{Entry}
use Rattle.page.specs.Fields.{Dependency}
use Rattle.page.specs.Main.{Main}
use Rattle.page.specs.Files.TableFiles.{Held, World, a, b, by_module, main_of, path_by, plain, world, exclude_worlds, file_bytes, go_worlds, main_bytes, order_worlds, path_worlds, replace_worlds}
use Rattle.page.specs.ListQuery.{ListEnds, list_text}
use Rattle.page.specs.Outcome.{Outcome}
use Rattle.page.specs.Reports.{faults_text}
use Rattle.page.specs.Types.{Fault, Missing}
use Rattle.page.specs.Worlds.{given_by, printing, reporting}

abbrev pub reply_of : Option Dependency → Reply
reply_of None = absent
reply_of (Some file) = bytes (file_bytes file)

abbrev pub answers_of : World → List (Name × Reply)
answers_of w = map (λ (one : Held). (one.0, reply_of one.1)) w.held

abbrev pub ending_as : Result (List ℕ) (List ℕ) → Outcome
ending_as (Ok text) = printing text
ending_as (Err report) = reporting report

abbrev pub Holds : World → Type 0
Holds w = ListEnds None None (given_by (main_bytes w.main) (answers_of w)) (ending_as w.ends)

abbrev pub GoVersionsAreTold : Type 0
GoVersionsAreTold = AllByRecursion Holds go_worlds

abbrev pub OrdersAreTold : Type 0
OrdersAreTold = AllByRecursion Holds order_worlds

abbrev pub ExcludesAreTold : Type 0
ExcludesAreTold = AllByRecursion Holds exclude_worlds

abbrev pub ReplacesAreTold : Type 0
ReplacesAreTold = AllByRecursion Holds replace_worlds

abbrev pub copies : {X : Type 0} → ℕ → X → List X
copies zero x = []
copies (suc n) x = x ∷ copies n x

abbrev pub times : ℕ → List ℕ → List ℕ
times zero text = []
times (suc n) text = text ++ times n text

abbrev pub first_row : Entry
first_row = main_entry

abbrev pub one_fault : Fault
one_fault = record { vertex = (codes "a", codes "v"); class = Missing }

-- a module that another one replaces
abbrev pub by_b : Main
by_b = main_of (a ∷ []) [] (path_by a.0 (by_module b) ∷ [])

abbrev pub world_by_b : World
world_by_b = world by_b (plain b ∷ []) (Ok (codes "m\na.org v1.0.0 => b.org v1.0.0\n"))

-- how it ends after a path
abbrev pub ByBEnds : List ℕ → Outcome → Type 0
ByBEnds path outcome = ListEnds (Some path) None (given_by (main_bytes by_b) (answers_of world_by_b)) outcome

-- Paths and texts; each row is printed, and each fault reported, however many there are.
pub record TextsAreTold : Type 0 where
  pub worlds : AllByRecursion Holds path_worlds
  pub rows : list_text (codes "m") (copies 120 first_row) ≡ times 120 (codes "m\n")
  pub faults : faults_text (copies 120 one_fault) ≡ times 120 (codes "a@v: Missing\n")
  -- the path of a replaced module has a row; one that only stands behind an arrow has none, nor has one with which the
  -- path of a row begins
  pub replaced : ByBEnds a.0 (printing [])
  pub arrow : ByBEnds b.0 (reporting (codes "b.org: NotListed\n"))
  pub begins : ByBEnds (codes "a.or") (reporting (codes "a.or: NotListed\n"))
