use Rattle.std.proofs.Common.{◌≡◌, ◌++◌}
use Rattle.gm_file.specs.Main.{without_excluded}
use Rattle.gm_graph_files.proofs.summary.copy_kept.Given as goal

abbrev pub invariant-loop-x : goal.invariant-loop-x
invariant-loop-x l = l.kept.items ++ without_excluded l.main l.x-iterator ≡ without_excluded l.main l.fn.list
