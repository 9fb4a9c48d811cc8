use Rattle.std.proofs.Common.{refl}
use Rattle.gm_syntax_words.specs.Bare.{bare_len, can_be_bare}
use Rattle.gm_syntax_words.specs.Bytes.{is_bad, is_blank, is_bracket_or_comma, is_quote, is_word_byte}
use Rattle.gm_file.specs.Directives.{directive_of, item_at}
use Rattle.gm_file_edit.specs.Edited.{with_change, lines_after}
use Rattle.gm_file_edit.specs.Fates.{remaining}
use Rattle.gomod_laws.proofs.example_edits.setting_rewrites_the_first.Goals as goal

pub returns : goal.returns
unfolding lines_after with_change remaining item_at directive_of can_be_bare bare_len is_word_byte is_blank is_bracket_or_comma is_quote is_bad
returns c = refl
