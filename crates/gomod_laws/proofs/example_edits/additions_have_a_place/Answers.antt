use Rattle.std.proofs.Common.{refl}
use Rattle.gm_syntax_words.specs.Bare.{bare_len, can_be_bare}
use Rattle.gm_syntax_words.specs.Bytes.{is_bad, is_blank, is_bracket_or_comma, is_quote, is_word_byte}
use Rattle.gm_file.specs.Directives.{directive_of, item_at}
use Rattle.gm_file_edit.specs.Edited.{with_addition, lines_after, put_in}
use Rattle.gomod_laws.proofs.example_edits.additions_have_a_place.Goals as goal

pub returns-clause-block : goal.returns-clause-block
unfolding lines_after put_in with_addition item_at directive_of can_be_bare bare_len is_word_byte is_blank is_bracket_or_comma is_quote is_bad
returns-clause-block c = refl

pub returns-clause-end : goal.returns-clause-end
unfolding lines_after put_in with_addition item_at directive_of can_be_bare bare_len is_word_byte is_blank is_bracket_or_comma is_quote is_bad
returns-clause-end c = refl
