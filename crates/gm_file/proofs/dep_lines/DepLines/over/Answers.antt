use Rattle.gm_file.specs.Directives.{Lax}
use Rattle.gm_file.proofs.DepReading.{dep-none}
use Rattle.gm_file.proofs.dep_lines.DepLines.over.Goals as goal

pub returns-clause-lines : goal.returns-clause-lines
returns-clause-lines c = dep-none c.over.result (c.over.ensures.holds Lax) c.over.ensures.found
