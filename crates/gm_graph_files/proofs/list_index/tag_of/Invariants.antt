use Rattle.std.proofs.Common.{◌≡◌, drop}
use Rattle.gm_graph_files.specs.NotedLists.{list_tag}
use Rattle.gm_graph_files.proofs.list_index.tag_of.Given as goal

abbrev pub invariant-loop-number : goal.invariant-loop-number
invariant-loop-number l = list_tag l.tag (drop l.number-index l.numbers) ≡ list_tag 0 l.fn.numbers
