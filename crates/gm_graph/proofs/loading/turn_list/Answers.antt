use Rattle.std.proofs.Common.{◌∙◌, ap, map}
use Rattle.std.proofs.lemmas.List.{take_all}
use Rattle.gm_graph.specs.Private.Worklists.{turn_of}
use Rattle.gm_graph.proofs.loading.turn_list.Goals as goal

pub returns : goal.returns
returns c =
    c.loop-one.invariant
    ∙ ap (map (turn_of c.args.modules.now))
    (take_all c.loop-one.one-index c.as_slice-one-items.result.now c.loop-one-test.false ∙ c.as_slice-one-items.ensures.value)
