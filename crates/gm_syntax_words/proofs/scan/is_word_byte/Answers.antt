use Rattle.std.proofs.Common.{refl, arith}
use Rattle.gm_syntax_words.specs.declared.scan.TheConstants.{CLASSES}
use Rattle.gm_syntax_words.specs.Bytes.{is_blank, is_bracket_or_comma, is_quote, is_bad, is_word_byte}
use Rattle.gm_syntax_words.proofs.ByteTable.{agree_below, from_table}
use Rattle.gm_syntax_words.proofs.scan.is_word_byte.Goals as goal

pub returns : goal.returns
unfolding agree_below is_blank is_bracket_or_comma is_quote is_bad is_word_byte
returns c = from_table CLASSES 2 is_word_byte c.args.b (omega arith) refl
