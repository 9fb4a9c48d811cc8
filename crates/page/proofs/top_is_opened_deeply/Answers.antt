use Rattle.page.proofs.Listed.{top_is_opened_deeply}
use Rattle.page.proofs.top_is_opened_deeply.Goals as goal

pub returns : goal.returns
returns c = top_is_opened_deeply
