-- Small go.sums, on which the definitions of what a go.sum says, and of the fault that it finds, are tried.
use Rattle.std.specs.Prelude.{◌≡◌, ◌↔◌, ℕ, List, None, Some, codes}
use Rattle.gm_store_sums.specs.Sums.{SaysOfHash}
use Rattle.gm_store_sums.specs.declared.sum_table.Sum.{Sum}
use Rattle.gm_store_sums.specs.declared.sum_table.Sum.TheVariants.{Good, Unlisted, Differs}
use Rattle.gm_graph_files.specs.Reading.{class_of_sum}
use Rattle.gm_graph_files.specs.declared.class.Class.TheVariants.{NoSum, SumDiffers}

-- a go.sum with a hash of one go.mod, and one with a second hash of it
abbrev pub one_sum : List ℕ
one_sum = codes "a.b v1.0.0/go.mod h1:A\n"

abbrev pub two_sums : List ℕ
two_sums = codes "a.b v1.0.0/go.mod h1:A\na.b v1.0.0/go.mod h1:B\n"

-- the go.sum says this of the hash of a.b's go.mod at this version, and nothing else
abbrev pub SaysOnly : List ℕ → List ℕ → List ℕ → Sum → Type 0
SaysOnly text version hash sum =
    (other : Sum) → SaysOfHash text (codes "a.b") version hash other ↔ (other ≡ sum)

-- The hash that is listed is good, any other differs, even beside it, and another version is not listed. The hash of a
-- module's files is not that of its go.mod, and a hash of another kind is passed over.
pub record SumsSay : Type 0 where
  pub good : SaysOnly one_sum (codes "v1.0.0") (codes "h1:A") Good
  pub differs : SaysOnly one_sum (codes "v1.0.0") (codes "h1:B") Differs
  pub also_differs : SaysOnly two_sums (codes "v1.0.0") (codes "h1:A") Differs
  pub unlisted : SaysOnly one_sum (codes "v1.1.0") (codes "h1:A") Unlisted
  pub of_files : SaysOnly (codes "a.b v1.0.0 h1:A\n") (codes "v1.0.0") (codes "h1:A") Unlisted
  pub other_kind : SaysOnly (codes "a.b v1.0.0/go.mod h2:A\n") (codes "v1.0.0") (codes "h2:A") Unlisted
  -- the fault of the file, if it is one
  pub good_class : class_of_sum Good ≡ None
  pub differs_class : class_of_sum Differs ≡ Some SumDiffers
  pub unlisted_class : class_of_sum Unlisted ≡ Some NoSum
