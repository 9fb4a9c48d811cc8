-- What a go.sum says of the hash of a file, and its first invalid line.
use Rattle.std.specs.Prelude.{◌≡◌, ◌++◌, ℕ, List, [], ◌∷◌, Some, None, codes}
use Rattle.std.specs.List.{AllByRecursion}
use Rattle.page_commands.specs.Hash.{file_hash}
use Rattle.page_commands.specs.Reading.{class_of_sum}
use Rattle.page_commands.specs.Sums.{HasValidLines, IsFirstInvalid, SaysOfHash}
use Rattle.page_commands.specs.Types.Class.{NoSum, SumDiffers}
use Rattle.page_commands.specs.Types.Sum.{Differs, Good, Sum, Unlisted}

-- the hashes of `module example.com/a` and `module example.com/b`, by go 1.19.8, and of an empty file
abbrev pub hash_a : List ℕ
hash_a = codes "h1:NeOsx/KTizj35klXP3wYh3O0751aAtYrRoX+a6YAye8="

abbrev pub hash_b : List ℕ
hash_b = codes "h1:8xdIx8LpQAK6ksT91/F2aGI0Kq4z+yBUFDU6f3g9/PU="

abbrev pub hash_of_nothing : List ℕ
hash_of_nothing = codes "h1:G7mAYYxgmS0lVkHyy2hEOLQCFB0DlQFTMLWggykrydY="

-- a line of a path and a version
abbrev pub sum_line : List ℕ → List ℕ → List ℕ
sum_line name hash = name ++ codes " " ++ hash ++ codes "\n"

-- a line of example.com/a v1.0.0
abbrev pub own : List ℕ → List ℕ
own hash = sum_line (codes "example.com/a v1.0.0/go.mod") hash

-- the go.sum, the contents of the go.mod of example.com/a v1.0.0, and what the former says about the latter
pub record World : Type 0 where
  pub sums : List ℕ
  pub content : List ℕ
  pub says : Sum

abbrev pub world : List ℕ → List ℕ → Sum → World
world sums content says = record { sums = sums; content = content; says = says }

-- of the go.mod with its one line
abbrev pub of_a : List ℕ → Sum → World
of_a sums says = world sums (codes "module example.com/a\n") says

abbrev pub Holds : World → Type 0
Holds w = SaysOfHash w.sums (codes "example.com/a") (codes "v1.0.0") (file_hash w.content) w.says

abbrev pub hash_worlds : List World
hash_worlds =
    of_a (own hash_a) Good
    -- no line, one of the module's files, of another path, of another version
    ∷ of_a [] Unlisted
    ∷ of_a (sum_line (codes "example.com/a v1.0.0") hash_a) Unlisted
    ∷ of_a (sum_line (codes "example.com/b v1.0.0/go.mod") hash_a) Unlisted
    ∷ of_a (sum_line (codes "example.com/a/b v1.0.0/go.mod") hash_a) Unlisted
    ∷ of_a (sum_line (codes "example.com/a v1.0.1/go.mod") hash_a) Unlisted
    ∷ of_a (sum_line (codes "example.com/a v1.0.0/go.modx") hash_a) Unlisted
    ∷ of_a (sum_line (codes "example.com/A v1.0.0/go.mod") hash_a) Unlisted
    -- another hash, alone, before or after the right one; the right one twice
    ∷ of_a (own hash_b) Differs
    ∷ of_a (own hash_a ++ own hash_b) Differs
    ∷ of_a (own hash_b ++ own hash_a) Differs
    ∷ of_a (own hash_a ++ own hash_a) Good
    -- hashes of other kinds don't count
    ∷ of_a (own (codes "h2:x")) Unlisted
    ∷ of_a (own (codes "H1:x")) Unlisted
    ∷ of_a (own (codes "h1x")) Unlisted
    ∷ of_a (own (codes "h2:x") ++ own hash_a) Good
    ∷ of_a (own (codes "h1:")) Differs
    -- blanks between and around fields, blank lines, a last line without a line feed
    ∷ of_a (codes "\n \t\n\texample.com/a  v1.0.0/go.mod " ++ hash_a ++ codes " \r\n") Good
    ∷ of_a (codes "example.com/b v1.0.0/go.mod h1:x\nexample.com/a v1.0.0/go.mod " ++ hash_a) Good
    -- each byte of the file counts, and an empty file has a hash
    ∷ world (own hash_a) (codes "module example.com/a\r\n") Differs
    ∷ world (own hash_b) (codes "module example.com/b\n") Good
    ∷ world (own hash_of_nothing) [] Good
    ∷ world (own hash_a) [] Differs
    ∷ []

-- a go.sum, and the number of its first invalid line
abbrev pub IsInvalid : List ℕ × ℕ → Type 0
IsInvalid w = IsFirstInvalid w.0 w.1

abbrev pub invalid_worlds : List (List ℕ × ℕ)
invalid_worlds =
    -- two fields, four, one that isn't UTF-8; lines without fields count
    (codes "a v1/go.mod\n", 1)
    ∷ (codes "a v1/go.mod h1:x\n\n \na v1/go.mod h1:x y\na\n", 4)
    ∷ (codes "a v1 h1:x\na v1 h1:" ++ 255 ∷ codes "\n", 2)
    ∷ (255 ∷ codes " v1 h1:x\n", 1)
    ∷ (codes "a " ++ 255 ∷ codes " h1:x\n", 1)
    ∷ (codes "\na", 2)
    ∷ []

pub record SumsAreRead : Type 0 where
  pub hashes : AllByRecursion Holds hash_worlds
  pub invalid : AllByRecursion IsInvalid invalid_worlds
  -- a go.sum of no line, of blank lines, and of any three fields
  pub valid : AllByRecursion HasValidLines ([] ∷ codes "\n \t\r\n" ∷ codes "x y z\n" ∷ [])
  -- one without an invalid line has no first one
  pub none_invalid : IsInvalid (codes "x y z", 2) → ⊥
  -- what is reported
  pub classes : class_of_sum Good ≡ None
  pub none : class_of_sum Unlisted ≡ Some NoSum
  pub other : class_of_sum Differs ≡ Some SumDiffers
