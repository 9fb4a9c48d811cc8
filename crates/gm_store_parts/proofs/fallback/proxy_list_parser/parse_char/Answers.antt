use Rattle.std.proofs.Common.{◌∙◌, ap, ◌++◌, ◌∷◌, []}
use Rattle.gm_store_parts.proofs.Cuts.{push_mark, push_plain}
use Rattle.gm_store_parts.proofs.fallback.proxy_list_parser.parse_char.Goals as goal

pub returns-in_default : goal.returns-in_default
returns-in_default c = λ text cut. push_plain text _ _ c.args.folder c.push.new.self c.args.c c.in_default.ensures.none c.in_ok-push.ensures.bytes cut

pub returns : goal.returns
returns c = λ text cut.
    push_mark text c.args.folders.now.items _ c.args.marks.now.items _ c.args.folder c.new.result c.args.c c.in-Some.ensures.some.0 c.in_ok-push-2.ensures.items
    (c.in_ok-push-3.ensures.items ∙ ap (λ mark. c.args.marks.now.items ++ mark ∷ []) c.in-Some.ensures.some.1) c.new.ensures.bytes cut
