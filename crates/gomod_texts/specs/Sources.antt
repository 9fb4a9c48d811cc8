-- What the texts are made of that commands print.
use Rattle.std.specs.Prelude.{◌≡◌, ℕ, List, [], drop, ⊤}
use Rattle.std.specs.String.{string_bytes}
use Rattle.gomod_texts.specs.ChainQuery.{chain_text}
use Rattle.gomod_texts.specs.GraphQuery.{graph_text}
use Rattle.gomod_texts.specs.ListQuery.{list_text, up_to}
use Rattle.gomod_texts.specs.declared.text.Source.{Source}
use Rattle.gomod_texts.specs.declared.text.Source.TheVariants.{Whole, Edges, Rows, Steps}

-- the bytes of the text
abbrev pub source_text : Source → List ℕ
source_text (Whole text) = string_bytes text
source_text (Edges main loaded) = graph_text main loaded.edges
source_text (Rows main loaded from limit) = list_text main (up_to limit (drop from loaded.rows))
source_text (Steps main steps) = chain_text main steps.items

-- rows are those of a graph without faults
abbrev pub CanBeWritten : Source → Type 0
CanBeWritten (Rows main loaded from limit) = loaded.faults ≡ []
CanBeWritten source = ⊤
