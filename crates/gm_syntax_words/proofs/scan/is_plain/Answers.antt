use Rattle.std.proofs.Common.{refl, arith}
use Rattle.gm_syntax_words.specs.declared.scan.TheConstants.{CLASSES}
use Rattle.gm_syntax_words.specs.Bytes.{is_blank, is_bracket_or_comma, is_quote, is_bad, is_word_byte, is_plain}
use Rattle.gm_syntax_words.proofs.ByteTable.{agree_below, from_table}
use Rattle.gm_syntax_words.proofs.scan.is_plain.Goals as goal

pub returns : goal.returns
unfolding agree_below is_blank is_bracket_or_comma is_quote is_bad is_word_byte is_plain
returns c = from_table CLASSES 1 is_plain c.args.b (omega arith) refl
