use Rattle.std.proofs.Common.{refl, arith}
use Rattle.gm_syntax_words.specs.declared.scan.TheConstants.{CLASSES}
use Rattle.gm_syntax_words.specs.Bytes.{is_blank}
use Rattle.gm_syntax_words.proofs.ByteTable.{agree_below, from_table}
use Rattle.gm_syntax_words.proofs.scan.is_blank.Goals as goal

pub returns : goal.returns
unfolding agree_below is_blank
returns c = from_table CLASSES 4 is_blank c.args.b (omega arith) refl
