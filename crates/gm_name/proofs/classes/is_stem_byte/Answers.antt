use Rattle.std.proofs.Common.{bit_and, get_or, nat_eq, not, refl, arith}
use Rattle.std.proofs.lemmas.Bool.{agree_below_at}
use Rattle.gm_name.specs.declared.classes.TheConstants.{CLASSES}
use Rattle.gm_name.specs.Private.Texts.{is_stem_byte}
use Rattle.gm_name.proofs.classes.is_stem_byte.Goals as goal

-- the table and the definition are compared at each of the 256 bytes, by computing
pub returns : goal.returns
returns c = agree_below_at (λ b. not (nat_eq (bit_and (get_or CLASSES b 0) 2) 0)) is_stem_byte 256 c.args.byte refl (omega arith)
