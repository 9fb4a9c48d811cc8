use Rattle.std.proofs.Common.{◌≡◌, ◌∙◌, false, get_or, refl, sym}
use Rattle.std.proofs.lemmas.List.{get_or_default}
use Rattle.gm_graph_select.proofs.BreadthFirst.{none_new, one_new}
use Rattle.gm_graph_select.proofs.Marks.{marked_already, one_marked}
use Rattle.gm_graph_select.proofs.searching.Search.follow.Goals as goal

pub returns-then-index-clause-found : goal.returns-then-index-clause-found
returns-then-index-clause-found c = marked_already c.args.self.now.is_found.items c.args.number
    (get_or_default c.args.self.now.is_found.items c.args.number false c.index.result.now c.requires ∙ sym c.index.ensures ∙ c.if-index.true)

pub returns-then-index-clause-followed : goal.returns-then-index-clause-followed
returns-then-index-clause-followed c = none_new c.args.before _ c.args.self.now c.args.self.now refl refl

pub returns-clause-found : goal.returns-clause-found
returns-clause-found c = one_marked c.args.self.now.is_found.items c.args.number c.requires

pub returns-clause-followed : goal.returns-clause-followed
returns-clause-followed c =
    let items = c.args.self.now.is_found.items in
    let number = c.args.number in
    let none : get_or items number false ≡ false = get_or_default items number false c.index.result.now c.requires ∙ sym c.index.ensures ∙ c.if-index.false in
    one_new c.args.before _ c.args.self.now _ number refl c.in_ok-push.ensures.items c.requires none refl
