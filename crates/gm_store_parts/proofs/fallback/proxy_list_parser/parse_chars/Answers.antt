use Rattle.std.proofs.Common.{subst, sym}
use Rattle.gm_store_parts.specs.Private.Cutting.{IsParsedPrefix}
use Rattle.gm_store_parts.proofs.Cuts.{cut_more}
use Rattle.gm_store_parts.proofs.fallback.proxy_list_parser.parse_chars.Goals as goal

pub loop-c-preserved : goal.loop-c-preserved
loop-c-preserved c =
    subst (λ text. IsParsedPrefix text c.parse_char.new.folders.items c.parse_char.new.marks.items
    c.in_ok-folder.folder) (sym (cut_more c.loop-c.yielded c.in-Some.c))
    (c.in_ok-folder.ensures _ c.loop-c.invariant)
