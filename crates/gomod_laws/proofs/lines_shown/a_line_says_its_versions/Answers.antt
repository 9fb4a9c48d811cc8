use Rattle.gomod_laws.proofs.VersionLines.{line_says_versions}
use Rattle.gomod_laws.proofs.lines_shown.a_line_says_its_versions.Goals as goal

pub returns : goal.returns
returns c = line_says_versions
