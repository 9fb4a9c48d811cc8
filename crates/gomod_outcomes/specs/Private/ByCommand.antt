-- What each query prints, by its command.
use Rattle.gomod_words.specs.declared.usage.Command.{Command}
use Rattle.gomod_words.specs.declared.usage.Command.TheVariants.{Graph, List as Rows, Chain}
use Rattle.gomod_texts.specs.Queries.{Prints}
use Rattle.gomod_texts.specs.ChainQuery.{PrintsChain}
use Rattle.gomod_texts.specs.GraphQuery.{PrintsGraph}
use Rattle.gomod_texts.specs.ListQuery.{PrintsList}

-- what a query on a module graph prints; the other commands are no queries
abbrev pub PrintsOf : Command → Prints
PrintsOf Graph = PrintsGraph
PrintsOf (Rows after limit) = PrintsList after limit
PrintsOf (Chain path) = PrintsChain path
PrintsOf _ = λ run outcome. ⊥
