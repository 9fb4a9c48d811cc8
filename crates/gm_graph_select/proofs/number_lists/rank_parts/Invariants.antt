use Rattle.gm_graph_select.proofs.Parts.{AreRankedTo}
use Rattle.gm_graph_select.proofs.number_lists.rank_parts.Given as goal

abbrev pub invariant-loop-span : goal.invariant-loop-span
invariant-loop-span l = AreRankedTo l.ranks l.fn.numbers l.fn.spans l.numbers l.spans l.span-index
