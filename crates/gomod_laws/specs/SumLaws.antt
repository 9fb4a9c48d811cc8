-- Laws of a go.sum. They hold of each command; `fmt`, `edit` and `versions` read no go.sum.
use Rattle.std.specs.Prelude.{◌↔◌, ◌≡◌, ◌≤◌, ◌⊎◌, ◌++◌, ◌∷◌, ℕ, List, [], Some, None, Contains, codes, false, length, map, nat_eq}
use Rattle.std.specs.List.{starts_with}
use Rattle.gm_store_parts.specs.Asked.{Name, Reply, answer_in, bytes, mod_file}
use Rattle.gm_name.specs.Lines.{fields, lines}
use Rattle.gm_store_sums.specs.Hash.{file_hash}
use Rattle.gm_store_sums.specs.Sums.{HasValidLines, SaysOfHash}
use Rattle.gm_store_sums.specs.declared.sum_table.Sum.TheVariants.{Good}
use Rattle.gomod_texts.specs.QueryLaws.{AnswerAlike}
use Rattle.gomod_texts.specs.Queries.{longest}
use Rattle.gomod_outcomes.specs.Needs.{GraphNeeds}
use Rattle.gomod_texts.specs.Outcome.{Outcome}
use Rattle.gomod_words.specs.declared.usage.Command.{Command}
use Rattle.gomod_laws.specs.Runs.{HasOutcome, HasPrinted}

-- What a command prints with a go.sum, it prints without one.
abbrev pub OnlyRefuses : Type 0
OnlyRefuses = (command : Command) (main sums : List ℕ) (asked others : List (Name × Reply))
    (checked unchecked : Outcome) → AnswerAlike asked others
    → HasOutcome command main (Some sums) asked checked → HasOutcome command main None others unchecked
    → HasPrinted checked → unchecked ≡ checked

-- The go.sum is valid. For each file of a proxy that a run with these answers and no go.sum needs, it has a line with
-- the hash of that file, under the file's own path and version, and no line with another hash.
pub record AreRight (main sums : List ℕ) (asked : List (Name × Reply)) : Type 0 where
  pub short : length sums ≤ longest
  pub valid : HasValidLines sums
  pub listed : (path version content : List ℕ) → GraphNeeds main None (answer_in asked) (mod_file path version)
      → answer_in asked (mod_file path version) ≡ Some (bytes content)
      → SaysOfHash sums path version (file_hash content) Good

-- With such a go.sum a command comes to what it does without one.
abbrev pub RightSumsChangeNothing : Type 0
RightSumsChangeNothing = (command : Command) (main sums : List ℕ) (asked others : List (Name × Reply))
    (unchecked checked : Outcome) → AnswerAlike asked others → AreRight main sums asked
    → HasOutcome command main None asked unchecked → HasOutcome command main (Some sums) others checked
    → checked ≡ unchecked

-- ---- two go.sums

-- a line of the go.sum has these three fields
abbrev pub HasSumLine : List ℕ → List ℕ → List ℕ → List ℕ → Type 0
HasSumLine text path version hash = Contains (map fields (lines text)) (path ∷ version ∷ hash ∷ [])

-- Both go.sums are valid, and have the same lines, in whatever order and however often. Blanks and blank lines don't
-- count.
pub record HaveSameLines (one other : List ℕ) : Type 0 where
  pub short : length one ≤ longest
  pub valid : HasValidLines one
  pub other_short : length other ≤ longest
  pub other_valid : HasValidLines other
  pub same : (path version hash : List ℕ) → HasSumLine one path version hash ↔ HasSumLine other path version hash

-- With either of two such go.sums a command comes to the same.
abbrev pub SumLinesInAnyOrder : Type 0
SumLinesInAnyOrder = (command : Command) (main one other : List ℕ) (asked others : List (Name × Reply))
    (a b : Outcome) → AnswerAlike asked others → HaveSameLines one other
    → HasOutcome command main (Some one) asked a → HasOutcome command main (Some other) others b
    → a ≡ b

-- The line is on a file that a run with these answers and this go.sum doesn't need, or its hash has another algorithm
-- than `h1`. (The second field of the line on a file is its version with `/go.mod`.)
abbrev pub IsNeedless : List ℕ → List ℕ → List (Name × Reply) → List ℕ → List ℕ → List ℕ → Type 0
IsNeedless main sums asked path field hash =
    ((version : List ℕ) → field ≡ version ++ codes "/go.mod"
    → ¬ (GraphNeeds main (Some sums) (answer_in asked) (mod_file path version)))
    ⊎ (starts_with nat_eq hash (codes "h1:") ≡ false)

-- The second go.sum is valid, as the first is, and has the lines of the first. Each other line of it is on a file that
-- a run with these answers and the first go.sum doesn't need, or has a hash of another algorithm than `h1`.
pub record HasNeedlessLines (main one other : List ℕ) (asked : List (Name × Reply)) : Type 0 where
  pub short : length one ≤ longest
  pub valid : HasValidLines one
  pub other_short : length other ≤ longest
  pub other_valid : HasValidLines other
  pub kept : (path version hash : List ℕ) → HasSumLine one path version hash → HasSumLine other path version hash
  pub needless : (path version hash : List ℕ) → HasSumLine other path version hash
      → HasSumLine one path version hash ⊎ IsNeedless main one asked path version hash

-- With more such lines a command comes to the same.
abbrev pub NeedlessLinesChangeNothing : Type 0
NeedlessLinesChangeNothing = (command : Command) (main one other : List ℕ) (asked others : List (Name × Reply))
    (a b : Outcome) → AnswerAlike asked others → HasNeedlessLines main one other asked
    → HasOutcome command main (Some one) asked a → HasOutcome command main (Some other) others b
    → a ≡ b
