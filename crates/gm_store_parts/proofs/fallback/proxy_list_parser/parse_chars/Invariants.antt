use Rattle.std.specs.Prelude.{encode_utf8_all}
use Rattle.gm_store_parts.specs.Private.Cutting.{IsParsedPrefix}
use Rattle.gm_store_parts.proofs.fallback.proxy_list_parser.parse_chars.Given as goal

-- the state after the characters so far
abbrev pub invariant-loop-c : goal.invariant-loop-c
invariant-loop-c l = IsParsedPrefix (encode_utf8_all l.yielded) l.folders.items l.marks.items l.folder
