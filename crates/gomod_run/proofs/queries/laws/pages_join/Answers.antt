use Rattle.gomod_texts.proofs.PrintedList.{pages_join}
use Rattle.gomod_run.proofs.queries.laws.pages_join.Goals as goal

pub returns : goal.returns
returns c = pages_join
