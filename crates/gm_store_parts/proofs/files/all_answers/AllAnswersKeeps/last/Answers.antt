use Rattle.gm_store_parts.proofs.Answering.{last_answered}
use Rattle.gm_store_parts.proofs.files.all_answers.AllAnswersKeeps.last.Goals as goal

pub returns-clause-value : goal.returns-clause-value
returns-clause-value c = λ before last grown. last_answered _ before last _ c.count.result grown c.count.ensures c.answer.ensures.value
