use Rattle.std.proofs.Common.{◌≡◌, ◌++◌, ◌≤◌, encode_utf8_all}
use Rattle.std.specs.Char.Escape.{escape_ascii}
use Rattle.std.specs.Char.Iter.{escape_byte_end, escape_byte_rest}
use Rattle.std.specs.String.{string_bytes}
use Rattle.gomod_words.proofs.usage.push_shown.Given as goal

-- the text so far, and what is left of the escaped byte
abbrev pub invariant-escape : goal.invariant-escape
invariant-escape l =
    (escape_byte_end l.rest ≤ 4)
    × (string_bytes l.text ++ encode_utf8_all (escape_byte_rest l.rest) ≡ string_bytes l.fn.text ++ encode_utf8_all (escape_ascii l.byte))
