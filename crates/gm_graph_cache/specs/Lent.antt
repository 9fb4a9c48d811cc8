-- The requirements that a cache returns.
use Rattle.std.specs.Prelude.{List}
use Rattle.gm_name.specs.ModuleVersion.{ModuleVersion}
use Rattle.gm_name_table.specs.Listed.{modules_of}
use Rattle.gm_graph_cache.specs.declared.cache.lent.Lent.{Lent}
use Rattle.gm_graph_files.specs.Summaries.{at_span}

-- the requirements, in order
abbrev pub lent_modules : Lent → List ModuleVersion
lent_modules lent = at_span (modules_of lent.modules.now) lent.span

-- all modules that have numbers, each at the place that is its number
abbrev pub lent_table : Lent → List ModuleVersion
lent_table lent = lent.modules.now.modules
