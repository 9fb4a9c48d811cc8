use Rattle.std.proofs.Common.{ap, ◌∙◌, sym, arith}
use Rattle.gm_store_parts.specs.Asked.{reply_for, bytes}
use Rattle.gm_store_parts.proofs.NameOrder.{held_from_get, reply_for_short, reply_for_long}
use Rattle.gm_store_parts.proofs.files.memory.MemoryFiles.look_up.Goals as goal

pub returns-in-None-clause-content : goal.returns-in-None-clause-content
returns-in-None-clause-content c = sym (ap (reply_for 16777216) (held_from_get c.args.self.now c.args.name.now _ c.in-None.ensures.value))

pub returns-in_ok-copy_bytes-in-Some-clause-content : goal.returns-in_ok-copy_bytes-in-Some-clause-content
returns-in_ok-copy_bytes-in-Some-clause-content c =
    let held = held_from_get c.args.self.now c.args.name.now _ c.in-Some.ensures.value in
    ap bytes c.in_ok-copy_bytes-in-Some.ensures ∙ sym (reply_for_short 16777216 c.in-Some.content.now.items (omega arith)) ∙ sym (ap (reply_for 16777216) held)

pub returns-then-len-gt-LIMIT-clause-content : goal.returns-then-len-gt-LIMIT-clause-content
returns-then-len-gt-LIMIT-clause-content c =
    let held = held_from_get c.args.self.now c.args.name.now _ c.in-Some.ensures.value in
    sym (reply_for_long 16777216 c.in-Some.content.now.items (omega arith)) ∙ sym (ap (reply_for 16777216) held)
