use Rattle.std.proofs.Common.{◌≡◌, ◌++◌, drop}
use Rattle.gm_name_table.specs.Listed.{modules_of}
use Rattle.gm_file.specs.Main.{without_excluded}
use Rattle.gm_graph_cache.proofs.cache.add_first.Given as goal

abbrev pub invariant-loop-y : goal.invariant-loop-y
invariant-loop-y l = modules_of l.modules ++ without_excluded l.main (drop l.y-index l.y-items)
    ≡ modules_of l.fn.modules ++ without_excluded l.fn.main l.fn.main.requirements
