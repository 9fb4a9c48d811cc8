-- What a proof unfolds to compute on literals.
use Rattle.std.specs.Prelude.{⊤}
use Rattle.std.specs.Fmt.{digits}
use Rattle.std.specs.Char.{encode_utf8}
use Rattle.std.specs.Str.{chars, is_utf8}
use Rattle.page_commands.specs.Bare.{bare_len, can_be_bare}
use Rattle.page_commands.specs.Bytes.{is_blank, is_bracket_or_comma, is_quote, is_bad, is_word_byte}
use Rattle.page_commands.specs.Directives.{directive_of, item_at}
use Rattle.page_commands.specs.Document.{class_of}
use Rattle.page_commands.specs.Edited.{with_addition, with_change, put_in, lines_after}
use Rattle.page_commands.specs.Edits.{pair_in, left_in, right_in, replacing_in, trim, interval_in, edit_named, edit_in}
use Rattle.page_commands.specs.Element.{is_reserved, is_shortened, stem, has_outer_dot, is_dotted_name, is_element}
use Rattle.page_commands.specs.Fates.{remaining}
use Rattle.page_commands.specs.Faults.{directive_kinds, faults, fault_of}
use Rattle.page_commands.specs.GmFileValues.{is_folder_path}
use Rattle.page_commands.specs.GmSyntaxWordsLines.{lines_of}
use Rattle.page_commands.specs.GoVersions.{small_number, first_number, is_go_suffix, last_number, second_number, strict_go, lax_go_text, lax_go}
use Rattle.page_commands.specs.Layout.{layout_from}
use Rattle.page_commands.specs.Names.{is_path, is_version, does_fit}
use Rattle.page_commands.specs.Operations.{operation_named}
use Rattle.page_commands.specs.Path.{is_fetchable}

unfoldable pub on_literals : ⊤
unfolding digits chars encode_utf8 is_utf8 bare_len can_be_bare is_blank is_bracket_or_comma is_quote is_bad is_word_byte directive_of item_at class_of with_addition with_change put_in lines_after pair_in left_in right_in replacing_in trim interval_in edit_named edit_in is_reserved is_shortened stem has_outer_dot is_dotted_name is_element remaining directive_kinds faults fault_of is_folder_path lines_of small_number first_number is_go_suffix last_number second_number strict_go lax_go_text lax_go layout_from is_path is_version does_fit operation_named is_fetchable
on_literals = tt
