-- Known names that two readers keep, one after the other.
use Rattle.std.proofs.Common.{arith}
use Rattle.gm_name_table.specs.Kept.{KeptCounts}
use Rattle.gm_file.specs.Private.Reading.{KeepsNames}

pub keeps_both : {old middle new : KeptCounts} → KeepsNames old middle → KeepsNames middle new → KeepsNames old new
keeps_both first then = record { kept = omega arith; within = λ before. then.within (first.within before) }
