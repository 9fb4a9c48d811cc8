-- A copy from crates/gm_graph_files/specs/ClassWords.antt, which tools/check/headline.py writes.
use Rattle.std.specs.Prelude.{ℕ, List, codes}
use Rattle.page.specs.Types.{Class, NotFetchable, Missing, TooLong, NoSum, SumDiffers, Malformed, WrongPath}

-- the class alone, without line and kind
abbrev pub class_word : Class → List ℕ
class_word NotFetchable = codes "NotFetchable"
class_word Missing = codes "Missing"
class_word TooLong = codes "TooLong"
class_word NoSum = codes "NoSum"
class_word SumDiffers = codes "SumDiffers"
class_word (Malformed line kind) = codes "Malformed"
class_word WrongPath = codes "WrongPath"
