-- Stand-ins for what docs/proof/HEADLINE.md takes from the code, from REPORTS.md and from the crate semver. The copies
-- beside this file are of the definitions themselves.
use Rattle.std.specs.Prelude.{◌≡◌, ◌&&◌, ℕ, if◌then◌else◌, List, [], ◌∷◌, ◌++◌, filter, Option, Some, None, Result, Ok, Err, ⊤, codes}
use Rattle.std.specs.List.{list_all}
use Rattle.std.specs.Ordering.{nat_cmp, on}
use Rattle.std.specs.Str.{bytes_eq}
use Rattle.std.specs.declared.cmp.Ordering.{Ordering}

-- ---- types of the code

-- why bytes can't be read: the kinds that the worlds need
pub data Misreading : Type 0 where
  TooMany : Misreading
  NoModule : Misreading
  WrongArguments : Misreading
  Unknown : Misreading
  BadVersion : Misreading

abbrev pub misreading_word : Misreading → List ℕ
misreading_word TooMany = codes "TooMany"
misreading_word NoModule = codes "NoModule"
misreading_word WrongArguments = codes "WrongArguments"
misreading_word Unknown = codes "UnknownVerb"
misreading_word BadVersion = codes "BadVersion"

-- what is wrong with a module's file
pub data Class : Type 0 where
  NotFetchable : Class
  Missing : Class
  TooLong : Class
  NoSum : Class
  SumDiffers : Class
  Malformed : ℕ → Misreading → Class
  WrongPath : Class

-- the main module, or a module at a version
pub data Step : Type 0 where
  Main : Step
  Of : List ℕ × List ℕ → Step

-- a module with its fault
pub record Fault : Type 0 where
  pub vertex : List ℕ × List ℕ
  pub class : Class

-- ---- versions, as the crate semver reads them

-- the three numbers of a version, its pre-release and its build
abbrev pub Parts : Type 0
Parts = ℕ × ℕ × ℕ × List ℕ × List ℕ

-- the parts of the versions of the worlds
abbrev pub known_versions : List (List ℕ × Parts)
known_versions =
    (codes "v0.0.0", (0, 0, 0, [], [])) ∷ (codes "v0.9.0", (0, 9, 0, [], []))
    ∷ (codes "v0.10.0", (0, 10, 0, [], [])) ∷ (codes "v2.0.0", (2, 0, 0, [], []))
    ∷ (codes "v1.0.0-9", (1, 0, 0, codes "9", [])) ∷ (codes "v1.0.0-10", (1, 0, 0, codes "10", []))
    ∷ (codes "v1.0.9", (1, 0, 9, [], [])) ∷ (codes "v1.0.10", (1, 0, 10, [], []))
    ∷ (codes "v1.1.0-9", (1, 1, 0, codes "9", [])) ∷ (codes "v1.1.0", (1, 1, 0, [], []))
    ∷ (codes "v1.2.0", (1, 2, 0, [], [])) ∷ (codes "v1.9.0", (1, 9, 0, [], []))
    ∷ (codes "v1.10.0", (1, 10, 0, [], [])) ∷ (codes "v1.0.1-9", (1, 0, 1, codes "9", []))
    ∷ (codes "v2.0.0+incompatible", (2, 0, 0, [], codes "incompatible"))
    ∷ (codes "v10.0.0+incompatible", (10, 0, 0, [], codes "incompatible")) ∷ []

abbrev pub parts_among : List (List ℕ × Parts) → List ℕ → Parts
parts_among [] text = (1, 0, 0, [], [])
parts_among (one ∷ others) text = if bytes_eq text one.0 then one.1 else parts_among others text

abbrev pub parts_in : List ℕ → Parts
parts_in = parts_among known_versions

-- The pre-releases of the worlds: 9 and 10 are numbers, and none comes after both.
abbrev pub pre_rank : List ℕ → ℕ
pre_rank pre = if bytes_eq pre (codes "9") then 9 else (if bytes_eq pre (codes "10") then 10 else 11)

abbrev pub pre_cmp : List ℕ → List ℕ → Ordering
pre_cmp = on pre_rank nat_cmp

-- ---- the go.sum

-- the text of the file that has the hash of a path and a version
abbrev pub Sums : Type 0
Sums = List (List ℕ × List ℕ × List ℕ)

-- Both lines have the hash of the text `module example.com/a` with its line feed.
abbrev pub sums_text : List ℕ
sums_text = codes "example.com/a v1.0.0/go.mod h1:NeOsx/KTizj35klXP3wYh3O0751aAtYrRoX+a6YAye8=\n"
    ++ codes "example.com/c v1.0.0/go.mod h1:NeOsx/KTizj35klXP3wYh3O0751aAtYrRoX+a6YAye8=\n"

abbrev pub sums_table : Sums
sums_table = (codes "example.com/a", codes "v1.0.0", codes "module example.com/a\n")
    ∷ (codes "example.com/c", codes "v1.0.0", codes "module example.com/a\n") ∷ []

-- Of two lines the second has the hash of another text.
abbrev pub twice_text : List ℕ
twice_text = codes "example.com/a v1.0.0/go.mod h1:NeOsx/KTizj35klXP3wYh3O0751aAtYrRoX+a6YAye8=\n"
    ++ codes "example.com/a v1.0.0/go.mod h1:qZPdy7koPyVhLfOsQtblw6bFK7FgHzimMb2d5LRQSWc=\n"

abbrev pub twice_table : Sums
twice_table = (codes "example.com/a", codes "v1.0.0", codes "module example.com/a\n")
    ∷ (codes "example.com/a", codes "v1.0.0", codes "module example.com/c\n") ∷ []

-- Its line has the hash of a file of example.com/a that requires example.com/b.
abbrev pub first_text : List ℕ
first_text = codes "example.com/a v1.0.0/go.mod h1:okXNr+ha4/uHO7nopXTYoD6vdU1wjNDXcQvzfSFLyFs=\n"

abbrev pub first_table : Sums
first_table =
    (codes "example.com/a", codes "v1.0.0", codes "module example.com/a\nrequire example.com/b v1.0.0\n") ∷ []

-- Its line has the hash of `module example.com/fork`.
abbrev pub fork_text : List ℕ
fork_text = codes "example.com/fork v1.1.0/go.mod h1:aG2jRfEBH3QHSWTujiw8F39Kh20e41Pc3o3MMI2tf+0=\n"

abbrev pub fork_table : Sums
fork_table = (codes "example.com/fork", codes "v1.1.0", codes "module example.com/fork\n") ∷ []

-- what the bytes of a go.sum say, or the report
abbrev pub sums_in : List ℕ → Result Sums (List ℕ)
sums_in text =
    if bytes_eq text sums_text then Ok sums_table
    else (if bytes_eq text twice_text then Ok twice_table
    else (if bytes_eq text first_text then Ok first_table
    else (if bytes_eq text fork_text then Ok fork_table
    else (if bytes_eq text [] then Ok [] else Err (codes "go.sum:1: BadSum\n")))))

-- Without a go.sum there is no table.
abbrev pub AreSums : Option (List ℕ) → Option Sums → Type 0
AreSums None None = ⊤
AreSums (Some text) (Some table) = sums_in text ≡ Ok table
AreSums _ _ = ⊥

abbrev pub AreInvalidSums : Option (List ℕ) → List ℕ → Type 0
AreInvalidSums None report = ⊥
AreInvalidSums (Some text) report = sums_in text ≡ Err report

-- the lines of a path and a version
abbrev pub lines_of : Sums → List ℕ → List ℕ → Sums
lines_of table path version = filter (λ one. bytes_eq one.0 path && bytes_eq one.1 version) table

-- each line has the hash of the contents
abbrev pub lines_fault : Sums → List ℕ → Option Class
lines_fault [] content = Some NoSum
lines_fault lines content = if list_all (λ one. bytes_eq one.2 content) lines then None else Some SumDiffers

-- the fault of a file of these contents
abbrev pub hash_fault : Sums → List ℕ → List ℕ → List ℕ → Option Class
hash_fault table path version content = lines_fault (lines_of table path version) content
