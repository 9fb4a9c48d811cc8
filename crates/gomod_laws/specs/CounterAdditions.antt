-- What the laws of two runs of queries conclude is false of pairs of outputs that contradict them.
use Rattle.std.specs.Prelude.{List, None, codes, map}
use Rattle.gm_file.specs.Main.{Main}
use Rattle.gm_graph_select.specs.declared.step.Edge.{Edge}
use Rattle.gm_graph.specs.Entries.{Entry}
use Rattle.gomod_texts.specs.Queries.{Given}
use Rattle.gomod_texts.specs.Outcome.{Outcome, text_outcome}
use Rattle.gomod_texts.specs.GraphQuery.{edge_text}
use Rattle.gomod_laws.specs.AdditionLaws.{KeepsLines, LowersNothing}
use Rattle.gomod_laws.specs.Counterexamples.{graph_of_a, list_of_a}
use Rattle.gomod_laws.specs.RowLaws.{IsExplained}
use Rattle.gomod_laws.specs.Shown.{ShowsEdges, ShowsRows}

-- a list and a graph that show a.b v1.1.0
abbrev pub higher_list : Outcome
higher_list = text_outcome (codes "m\na.b v1.1.0\n")

abbrev pub other_graph : Outcome
other_graph = text_outcome (codes "m a.b@v1.1.0\n")

-- `ListLowersNothing`, if `list` shows a.b v1.1.0 first and then a.b v1.0.0
abbrev pub RowIsLower : Type 0
RowIsLower = (run later : Given) (first second : Main) → ¬ (LowersNothing run later first second higher_list list_of_a)

-- `GraphKeepsLines`, if `graph` shows a line first and then another one in its place
abbrev pub LineIsLost : Type 0
LineIsLost = (run later : Given) (first second : Main) → ¬ (KeepsLines run later first second graph_of_a other_graph)

-- a chain to a.b v1.0.0 by b.c v1.0.0, and one to b.c v1.0.0
abbrev pub chain_by_b : Outcome
chain_by_b = text_outcome (codes "m\nb.c@v1.0.0\na.b@v1.0.0\n")

abbrev pub chain_to_b : Outcome
chain_to_b = text_outcome (codes "m\nb.c@v1.0.0\n")

-- `list` shows a.b v1.0.0, and `graph` shows that m requires it.
pub record ShowA (rows : List Entry) (edges : List Edge) (main : Main) (list_run graph_run : Given) : Type 0 where
  pub in_list : ShowsRows list_run main None None rows list_of_a
  pub in_graph : ShowsEdges graph_run main edges graph_of_a

-- `EachRowIsExplained`, if `chain a.b` prints another way to a.b then,
abbrev pub ChainIsByNoLine : Type 0
ChainIsByNoLine = (rows : List Entry) (edges : List Edge) (main : Main) (list_run graph_run : Given)
    → ShowA rows edges main list_run graph_run
    → ¬ (IsExplained main.path rows (map (edge_text main.path) edges) (codes "a.b") chain_by_b)

-- if it prints a way to b.c,
abbrev pub ChainIsToAnother : Type 0
ChainIsToAnother = (rows : List Entry) (edges : List Edge) (main : Main) (list_run graph_run : Given)
    → ShowA rows edges main list_run graph_run
    → ¬ (IsExplained main.path rows (map (edge_text main.path) edges) (codes "a.b") chain_to_b)

-- and if `chain b.c` prints a way to b.c, which has no row
abbrev pub UnlistedIsShown : Type 0
UnlistedIsShown = (rows : List Entry) (edges : List Edge) (main : Main) (list_run graph_run : Given)
    → ShowA rows edges main list_run graph_run
    → ¬ (IsExplained main.path rows (map (edge_text main.path) edges) (codes "b.c") chain_to_b)
