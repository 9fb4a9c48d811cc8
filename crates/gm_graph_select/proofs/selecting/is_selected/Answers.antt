use Rattle.std.proofs.Common.{◌≡◌, ◌∙◌, false, rules, sym, true}
use Rattle.gm_graph_select.specs.Greatest.{first_has_path}
use Rattle.gm_graph_select.proofs.selecting.is_selected.Goals as goal

pub returns-then-not-begins_with : goal.returns-then-not-begins_with
returns-then-not-begins_with c =
    let last : first_has_path c.path.result.now c.args.behind.now ≡ false = sym c.begins_with.ensures ∙ c.if-not-begins_with.true in
    search (rules, last)

pub returns-else-not-begins_with : goal.returns-else-not-begins_with
returns-else-not-begins_with c =
    let more : first_has_path c.path.result.now c.args.behind.now ≡ true = sym c.begins_with.ensures ∙ c.if-not-begins_with.false in
    search (rules, more)
